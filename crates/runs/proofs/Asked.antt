-- A cut or a path that was well asked was refused exactly when no allowed division existed.
use Rattle.std.proofs.Common.{◌≡◌, ℕ, ◌+◌, ◌-◌, ◌*◌, ◌≤◌, min, true, false, ◌↔◌, List, is_some, Some, None, Err, Option, Result, sym, refl, ap, ◌∙◌, subst, arith}
use Rattle.std.proofs.lemmas.Bool.Decides.{nat_tests}
use Rattle.fault.specs.declared.Fault.{Fault}
use Rattle.fault.specs.declared.Fault.TheVariants.{NoAllowedDivision}
use Rattle.fault.specs.Refusal.{or_else, unless}
use Rattle.loss.specs.Table.{Table}
use Rattle.division.specs.declared.mark.Mark.{Mark}
use Rattle.division.specs.Winner.{Criterion as Sought, by_penalty, by_count, Candidate, winner}
use Rattle.division.proofs.Best.{winner_wins}
use Rattle.path.specs.Outcome.{path_refusal}
use Rattle.line.specs.declared.Marking.{Marking}
use Rattle.cuts.specs.Criterion.{sought}
use Rattle.line.specs.Calls.{open_refusal, cut_refusal}
use Rattle.runs.specs.declared.model.Line.{Line}
use Rattle.runs.specs.declared.model.Line.TheVariants.{Marking as marking, Cut as cut}
use Rattle.runs.specs.declared.model.Call.{Call}
use Rattle.runs.specs.declared.model.Call.TheVariants.{Mark as Lay, Unmark, Shortest, Path, Cut, Reopen}
use Rattle.runs.specs.declared.model.Answer.{Answer}
use Rattle.runs.specs.State.{Room, none_allowed, cause_at, readings_of, shortest_of}
use Rattle.runs.specs.History.{History, shortest, cut_for, event}
use Rattle.runs.specs.Best.{MarksAfter, WellAsked, InRange, rows, Accepted, Answered, is_cut}

path_begun : (t : Table) (n numbers steps : ℕ) → open_refusal t ≡ None → n ≡ t.length → 3 * (n + 1) ≤ numbers → n ≤ steps → path_refusal t n numbers steps ≡ None
path_begun t n numbers steps a b c d = grind (arith, nat_tests)

cut_begun : (c : Sought) (t : Table) (l : Marking) (numbers trace places : ℕ) → open_refusal t ≡ None → l.n ≡ t.length → InRange l.n c → 3 * (l.n + 1) ≤ numbers → rows c * (l.n + 1) ≤ trace → l.n - 1 ≤ places
    → cut_refusal c t l numbers trace places ≡ None
cut_begun (by_penalty p) t l numbers trace places a b r x y z = grind (arith, nat_tests)
cut_begun (by_count k) t l numbers trace places a b r x y z = grind (arith, nat_tests)

-- what the reply says of the divisions that were looked among
abbrev Told : Sought → List Mark → ℕ → ℕ → Result Answer Fault → Type 0
Told c marks m n reply =
    (Accepted reply ↔ ((d : List ℕ) × Candidate c marks m n d)) × ((reply ≡ Err NoAllowedDivision) ↔ ((d : List ℕ) → Candidate c marks m n d → ⊥))

told : (c : Sought) (f : ℕ → ℕ → ℕ) (marks : List Mark) (m n : ℕ) (a : Answer) (w : Option (List ℕ)) → winner c f marks m n ≡ w → (reply : Result Answer Fault) → reply ≡ unless (none_allowed w) a → Told c marks m n reply
told c f marks m n a None e reply q =
    let none : (d : List ℕ) → Candidate c marks m n d → ⊥ = (winner_wins c f marks m n).none.0 e in
    (((λ y. absurd (subst Accepted q y)), (λ p. absurd (none p.0 p.1))), ((λ _. none), (λ _. q)))
told c f marks m n a (Some d) e reply q =
    let here : Candidate c marks m n d = (((winner_wins c f marks m n).wins d).0 e).candidate in
    (((λ _. (d, here)), (λ _. subst Accepted (sym q) tt)), ((λ y. absurd (let z : ◌≡◌ {A = ℕ} 0 1 = cc in omega arith)), (λ no_one. absurd (no_one d here))))

module _ (t : Table) (room : Room) (h : History) (marks : List Mark) (standing : MarksAfter h marks) (opened : open_refusal t ≡ None) (a : Answer) (reply : Result Answer Fault) where
  on_marking : (l : Marking) → l.n ≡ t.length → l.shortest ≡ shortest h → (call : Call) → reply ≡ unless (cause_at t room marks (marking l) call) a → WellAsked t.length room h call → Answered t h (event call reply)
  on_marking l n m (Lay k) q asked = absurd asked
  on_marking l n m (Unmark first) q asked = absurd asked
  on_marking l n m (Shortest k) q asked = absurd asked
  on_marking l n m (Path u) q asked =
      let none : path_refusal t l.n (min u.numbers room.numbers) room.steps ≡ None = path_begun t l.n _ _ opened n (omega (arith, asked.1)) (omega (arith, asked.2)) in
      let W : Option (List ℕ) = winner (by_penalty 0) t.loss marks l.shortest l.n in
      let r : reply ≡ unless (none_allowed W) a = subst (λ (o : Option Fault). reply ≡ unless (or_else o (none_allowed W)) a) none q in
      let p : Told (by_penalty 0) marks (shortest h) t.length reply = subst (λ (x : ℕ). Told (by_penalty 0) marks (shortest h) x reply) n (subst (λ (x : ℕ). Told (by_penalty 0) marks x l.n reply) m (told (by_penalty 0) t.loss marks l.shortest l.n a W refl reply r)) in
      record { marks = marks; standing = standing; accepted = p.0; refused = p.1 }
  on_marking l n m (Cut c u) q asked =
      let none : cut_refusal (sought c) t l (min u.numbers room.numbers) (min u.trace room.trace) room.boundaries ≡ None =
      cut_begun (sought c) t l _ _ _ opened n (subst (λ (x : ℕ). InRange x (sought c)) (sym n) asked.1) (omega (arith, asked.2)) (subst (λ (x : ℕ). rows (sought c) * (x + 1) ≤ min u.trace room.trace) (sym n) asked.3) (omega (arith, asked.4)) in
      let W : Option (List ℕ) = winner (sought c) t.loss marks l.shortest l.n in
      let r : reply ≡ unless (none_allowed W) a = subst (λ (o : Option Fault). reply ≡ unless (or_else o (none_allowed W)) a) none q in
      let p : Told (sought c) marks (shortest h) t.length reply = subst (λ (x : ℕ). Told (sought c) marks (shortest h) x reply) n (subst (λ (x : ℕ). Told (sought c) marks x l.n reply) m (told (sought c) t.loss marks l.shortest l.n a W refl reply r)) in
      record { marks = marks; standing = standing; accepted = p.0; refused = p.1 }
  on_marking l n m Reopen q asked = absurd asked

  -- a line that is cut is asked nothing well but reopen
  not_cut : true ≡ is_some (cut_for h) → (call : Call) → WellAsked t.length room h call → ⊥
  not_cut s (Lay k) asked = asked
  not_cut s (Unmark first) asked = asked
  not_cut s (Shortest k) asked = asked
  not_cut s (Path u) asked = shut s asked.0
    where
      shut : true ≡ is_some (cut_for h) → cut_for h ≡ None → ⊥
      shut x y = let z : true ≡ false = x ∙ ap is_some y in let o : ◌≡◌ {A = ℕ} 0 1 = cc in omega arith
  not_cut s (Cut c u) asked = shut s asked.0
    where
      shut : true ≡ is_some (cut_for h) → cut_for h ≡ None → ⊥
      shut x y = let z : true ≡ false = x ∙ ap is_some y in let o : ◌≡◌ {A = ℕ} 0 1 = cc in omega arith
  not_cut s Reopen asked = asked

  pub answered_now : (line : Line) → is_cut line ≡ is_some (cut_for h) → readings_of line ≡ t.length → shortest_of line ≡ shortest h → (call : Call) → reply ≡ unless (cause_at t room marks line call) a → WellAsked t.length room h call → Answered t h (event call reply)
  answered_now (marking l) s n m call q asked = on_marking l n m call q asked
  answered_now (cut c) s n m call q asked = absurd (not_cut s call asked)
