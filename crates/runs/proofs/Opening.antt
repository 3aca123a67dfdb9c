-- Opening a line.
use Rattle.std.proofs.Common.{◌≡◌, ℕ, false, List, [], is_some, Some, None, Ok, Option, sym, refl, ap, ◌∙◌, subst, arith}
use Rattle.fault.specs.declared.Fault.{Fault}
use Rattle.fault.specs.Refusal.{unless}
use Rattle.loss.specs.Table.{Table}
use Rattle.list.specs.declared.List.{List as Lent-list}
use Rattle.list.specs.Entries.{entries}
use Rattle.division.specs.declared.mark.Mark.{Mark}
use Rattle.marks.specs.declared.table.MarkTable.{MarkTable}
use Rattle.marks.specs.Table.{marks_of}
use Rattle.envelope.specs.declared.Step.{Step}
use Rattle.line.specs.declared.Marking.{Marking}
use Rattle.line.specs.Calls.{open_refusal, fresh}
use Rattle.runs.specs.declared.model.Line.{Line}
use Rattle.runs.specs.declared.model.Line.TheVariants.{Marking as marking}
use Rattle.runs.specs.Kept.{Kept}
use Rattle.runs.specs.Opened.{opening_refusal, opened_state, BeginsLawful}
use Rattle.runs.proofs.Steps.{fresh_kept}
use Rattle.runs.proofs.Turns.{given}

is_none : (o : Option Line) → is_some o ≡ false → o ≡ None
is_none None e = refl
is_none (Some x) e = let z : ◌≡◌ {A = ℕ} 0 1 = cc in absurd (omega arith)

-- a line that is open is there
pub not_shut : (l : Line) (o : Option Line) → Some l ≡ o → o ≡ None → ⊥
not_shut l o e q = let z : Some l ≡ None = e ∙ q in let w : ◌≡◌ {A = ℕ} 0 1 = cc in omega arith

module _ (t : Table) (line : Option Line) (l : Marking) (shut : is_some line ≡ false) (e : Ok l ≡ unless (open_refusal t) (fresh t)) where
  pub opened_answer : (n : ℕ) → n ≡ l.n → Ok n ≡ unless (opening_refusal line t) t.length
  opened_answer n q =
      let p = given (open_refusal t) l (fresh t) e in
      let m : n ≡ t.length = q ∙ ap (λ (x : Marking). x.n) p.1 in
      let a : unless (opening_refusal line t) t.length ≡ unless (open_refusal t) t.length = ap (λ (o : Option Line). unless (opening_refusal o t) t.length) (is_none line shut) in
      let b : unless (open_refusal t) t.length ≡ Ok t.length = ap (λ (o : Option Fault). unless o t.length) p.0 in
      ap (λ (x : ℕ). Ok x) m ∙ sym (a ∙ b)

  pub opened_line : Some (marking l) ≡ Some (marking (fresh t))
  opened_line = ap (λ (x : Marking). Some (marking x)) (given (open_refusal t) l (fresh t) e).1

  pub begins_lawful : (table : MarkTable) → marks_of table ≡ [] → (bs : Lent-list ℕ) (ss : Lent-list Step) → BeginsLawful t (opened_state (Some (marking l)) table bs ss)
  begins_lawful table none bs ss room =
      let p = given (open_refusal t) l (fresh t) e in
      subst (λ (ms : List Mark). Kept t room [] (record { line = marking l; marks = ms; boundaries = entries bs; steps = entries ss })) (sym none)
      (fresh_kept t room l (entries bs) (entries ss) p.0 (ap (λ (x : Marking). x.n) p.1) (ap (λ (x : Marking). x.shortest) p.1))
