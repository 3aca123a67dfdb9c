-- From what a call of the line did to what the session then holds.
use Rattle.std.proofs.Common.{◌≡◌, ℕ, Some, None, Ok, Err, Option, Result, refl, ap, ◌∙◌, subst, arith}
use Rattle.fault.specs.declared.Fault.{Fault}
use Rattle.fault.specs.declared.Fault.TheVariants.{WrongState}
use Rattle.fault.specs.Refusal.{unless}
use Rattle.loss.specs.Table.{Table}
use Rattle.list.specs.declared.List.{List as Lent-list}
use Rattle.marks.specs.declared.table.MarkTable.{MarkTable}
use Rattle.envelope.specs.declared.Step.{Step}
use Rattle.runs.specs.declared.model.Line.{Line}
use Rattle.runs.specs.declared.model.Call.{Call}
use Rattle.runs.specs.declared.model.Answer.{Answer}
use Rattle.runs.specs.State.{Room, State, cause, answer, changed, carried, state, Performed}
use Rattle.runs.specs.Opened.{opened_state, OpenedPerformed}
use Rattle.kinds.specs.Sides.{Sides}
use Rattle.session.specs.Held.{Held, holding, in_session, call_cause, called, unless_refused}

-- what is told of the reply, and what the session holds
pub record Done (t : Table) (room : Room) (call : Call) (reply : Result Answer Fault) (line : Option Line) (old new : Held) : Type 0 where
  pub replied : (a : Answer) → reply ≡ Ok a → call_cause t room old line call ≡ None
  pub refused : (f : Fault) → reply ≡ Err f → call_cause t room old line call ≡ Some f
  pub after : new ≡ unless_refused (call_cause t room old line call) (called t old line call) old

-- of a reply that is the cause or an answer
told : (o : Option Fault) (a : Answer) (reply : Result Answer Fault) → reply ≡ unless o a → ((b : Answer) → reply ≡ Ok b → o ≡ None) × ((f : Fault) → reply ≡ Err f → o ≡ Some f)
told None a reply e = ((λ b q. refl), (λ f q. let z : ◌≡◌ {A = ℕ} 0 1 = cc in absurd (omega arith)))
told (Some g) a reply e = ((λ b q. let z : ◌≡◌ {A = ℕ} 0 1 = cc in absurd (omega arith)), (λ f q. let z : Some g ≡ Some f = cc in z))

module _ (t : Table) (room : Room) (call : Call) (reply : Result Answer Fault) (h : Sides) (table table' : MarkTable) (bs bs' : Lent-list ℕ) (ss ss' : Lent-list Step) where
  shut : (line' : Option Line) → (reply ≡ Err WrongState) × (opened_state line' table' bs' ss' ≡ None) → table' ≡ table → bs' ≡ bs → ss' ≡ ss → Done t room call reply None (holding h None table bs ss) (holding h line' table' bs' ss')
  shut None p x y z = record {
    replied = λ a q. let w : ◌≡◌ {A = ℕ} 0 1 = cc p.0 in absurd (omega arith);
    refused = λ f q. let w : Some WrongState ≡ Some f = cc p.0 in w;
    after = ap (λ (x : MarkTable). holding h None x bs' ss') x ∙ ap (λ (x : Lent-list ℕ). holding h None table x ss') y ∙ ap (λ (x : Lent-list Step). holding h None table bs x) z;
  }
  shut (Some l) p x y z = let w : ◌≡◌ {A = ℕ} 0 1 = cc p.1 in absurd (omega arith)

  opened : (l l' : Line) → Performed t room call reply (state l table bs ss) (state l' table' bs' ss') → Done t room call reply (Some l) (holding h (Some l) table bs ss) (holding h (Some l') table' bs' ss')
  opened l l' p =
      let s : State = state l table bs ss in
      let q = told (cause t room s call) (answer t s call) reply p.replied in
      record { replied = q.0; refused = q.1; after = go (cause t room s call) p.after }
    where
      go : (o : Option Fault) → state l' table' bs' ss' ≡ carried o (state l table bs ss) (changed t (state l table bs ss) call)
          → holding h (Some l') table' bs' ss' ≡ unless_refused o (called t (holding h (Some l) table bs ss) (Some l) call) (holding h (Some l) table bs ss)
      go None e = ap (in_session (holding h (Some l) table bs ss)) e
      go (Some f) e = ap (in_session (holding h (Some l) table bs ss)) e

  done : (line line' : Option Line) → OpenedPerformed t room call reply (opened_state line table bs ss) (opened_state line' table' bs' ss') → (line ≡ None → (table' ≡ table) × (bs' ≡ bs) × (ss' ≡ ss)) → Done t room call reply line (holding h line table bs ss) (holding h line' table' bs' ss')
  done None line' p same = let q = same refl in shut line' p q.0 q.1 q.2
  done (Some l) None p same = absurd p
  done (Some l) (Some l') p same = opened l l' p

  -- the same, of a table that is known under another name
  pub done_as : (w : Table) → t ≡ w → (line line' : Option Line) → OpenedPerformed t room call reply (opened_state line table bs ss) (opened_state line' table' bs' ss') → (line ≡ None → (table' ≡ table) × (bs' ≡ bs) × (ss' ≡ ss)) → Done w room call reply line (holding h line table bs ss) (holding h line' table' bs' ss')
  done_as w e line line' p same = subst (λ (x : Table). Done x room call reply line (holding h line table bs ss) (holding h line' table' bs' ss')) e (done line line' p same)
