-- What a path and a cut answered and did, as one call of the line.
use Rattle.std.proofs.Common.{◌≡◌, ℕ, ◌+◌, ◌-◌, ◌<◌, ◌≤◌, min, List, ◌++◌, length, drop, Some, None, Ok, Err, Option, Result, sym, refl, ap, ◌∙◌, subst, arith, length-append, length-drop}
use lib.Seq.{drop-append_seam}
use Rattle.std.proofs.lemmas.Bool.Decides.{nat_tests}
use Rattle.fault.specs.declared.Fault.{Fault}
use Rattle.fault.specs.declared.Fault.TheVariants.{NoAllowedDivision}
use Rattle.fault.specs.Refusal.{or_else, unless}
use Rattle.loss.specs.Table.{Table}
use Rattle.list.specs.declared.List.{List as Lent-list}
use Rattle.list.specs.Entries.{entries, places}
use Rattle.division.specs.declared.mark.Mark.{Mark}
use Rattle.division.specs.Winner.{Criterion as Sought, by_penalty, by_count, Candidate, winner}
use Rattle.division.specs.Division.{Division}
use Rattle.division.proofs.Best.{winner_wins}
use Rattle.division.proofs.Listed.{few_boundaries}
use Rattle.envelope.specs.declared.Step.{Step}
use Rattle.path.specs.Cuts.{line_path}
use Rattle.path.specs.Outcome.{path_refusal, path_outcome, PathWritten}
use Rattle.cuts.specs.Outcome.{outcome, entries_after, places_after, Cut as Cut-made}
use Rattle.line.specs.declared.Marking.{Marking}
use Rattle.line.specs.declared.Cut.{Cut as Cut-line}
use Rattle.cuts.specs.declared.criterion.Criterion.{Criterion}
use Rattle.cuts.specs.Criterion.{sought}
use Rattle.line.specs.Calls.{cut_refusal, cut_winner, cut_total, cut_outcome, cut_line}
use Rattle.runs.specs.declared.model.Lent.{Lent}
use Rattle.runs.specs.declared.model.Line.{Line}
use Rattle.runs.specs.declared.model.Line.TheVariants.{Marking as marking, Cut as cut}
use Rattle.runs.specs.declared.model.Call.{Call}
use Rattle.runs.specs.declared.model.Call.TheVariants.{Path, Cut}
use Rattle.runs.specs.declared.model.Answer.{Answer}
use Rattle.runs.specs.declared.model.Answer.TheVariants.{Path as PathStands, Total}
use Rattle.runs.specs.State.{Room, State, none_allowed, found, answered, carried, begun, Performed, PastKept, Searched}

-- of a search that was begun the buffers are free; else they are as they were
module _ {Same : Type 0} where
  untouched_path : (o : Option Fault) (w : Option (List ℕ)) (r : Result (Unit {0}) Fault) → r ≡ path_outcome o w → ((e : Fault) → o ≡ Some e → Same) → (begun (answered (λ _. PathStands) r) → ⊥) → Same
  untouched_path (Some f) w r e same idle = same f refl
  untouched_path None None r e same idle = let P : Result (Unit {0}) Fault → Type 0 = λ x. begun (answered (λ _. PathStands) x) in absurd (idle (subst P (sym e) refl))
  untouched_path None (Some d) r e same idle = let P : Result (Unit {0}) Fault → Type 0 = λ x. begun (answered (λ _. PathStands) x) in absurd (idle (subst P (sym e) tt))

module _ (t : Table) (rm : Room) (l : Marking) (marks : List Mark) (bs : List ℕ) (u : Lent) (r : Result (Unit {0}) Fault) (old new : Lent-list Step) (numbers numbers' : List ℕ)
    (w : PathWritten (path_refusal t l.n (min u.numbers rm.numbers) rm.steps) t.loss marks l.shortest l.n r old new numbers numbers') where
  abbrev with_steps : List Step → State
  with_steps ss = record { line = marking l; marks = marks; boundaries = bs; steps = ss }

  path_performed : Performed t rm (Path u) (answered (λ _. PathStands) r) (with_steps (entries old)) (with_steps (entries new))
  path_performed = let p = go (path_refusal t l.n (min u.numbers rm.numbers) rm.steps) (cut_winner (by_penalty 0) t marks l) w.answer in record { replied = p.0; after = p.1 }
    where
      go : (o : Option Fault) (b : Option (List ℕ)) → r ≡ path_outcome o b
          → (answered (λ _. PathStands) r ≡ unless (or_else o (none_allowed b)) PathStands)
          × (with_steps (entries new) ≡ carried (or_else o (none_allowed b)) (with_steps (entries old)) (with_steps (line_path t.loss marks l.shortest l.n)))
      go (Some f) b e = (ap (answered (λ _. PathStands)) e, ap (λ (x : Lent-list Step). with_steps (entries x)) (w.kept f e))
      go None None e = (ap (answered (λ _. PathStands)) e, ap (λ (x : Lent-list Step). with_steps (entries x)) (w.kept NoAllowedDivision e))
      go None (Some d) e = (ap (answered (λ _. PathStands)) e, ap with_steps (w.listed e))

  pub path_call : (call : Call) (reply : Result Answer Fault) (l' : Marking) → call ≡ Path u → reply ≡ answered (λ _. PathStands) r → l' ≡ l
      → Performed t rm call reply (with_steps (entries old)) (record { line = marking l'; marks = marks; boundaries = bs; steps = entries new })
  path_call call reply l' x y z =
      let P : Call → Type 0 = λ k. Performed t rm k reply (with_steps (entries old)) (record { line = marking l'; marks = marks; boundaries = bs; steps = entries new }) in
      let Q : Result Answer Fault → Type 0 = λ k. Performed t rm (Path u) k (with_steps (entries old)) (record { line = marking l'; marks = marks; boundaries = bs; steps = entries new }) in
      let R : Marking → Type 0 = λ k. Performed t rm (Path u) (answered (λ _. PathStands) r) (with_steps (entries old)) (record { line = marking k; marks = marks; boundaries = bs; steps = entries new }) in
      subst P (sym x) (subst Q (sym y) (subst R (sym z) path_performed))

  pub path_buffers : (call : Call) (reply : Result Answer Fault) → call ≡ Path u → reply ≡ answered (λ _. PathStands) r → (Searched call reply → ⊥) → numbers' ≡ numbers
  path_buffers call reply x y idle =
      untouched_path _ _ r w.answer w.untouched
      (λ b. let P : Call → Type 0 = λ k. Searched k reply in idle (subst P (sym x) (subst begun (sym y) b)))

  pub path_kept : new.items.ghost_name ≡ old.items.ghost_name → length (places new) ≡ length (places old) → PastKept old new
  path_kept e long = record { past = w.past; slice = record { room = long; lender = e } }

-- what is told of a cut
abbrev reply_of : Result Cut-line (Marking × Fault) → Result Answer Fault
reply_of (Ok k) = Ok (Total k.total)
reply_of (Err x) = Err x.1

abbrev line_of : Result Cut-line (Marking × Fault) → Line
line_of (Ok k) = cut k
line_of (Err x) = marking x.0

-- a cut that was begun had room for the winner's boundaries
room_for : (c : Sought) (t : Table) (l : Marking) (numbers trace places : ℕ) → cut_refusal c t l numbers trace places ≡ None → l.n - 1 ≤ places
room_for (by_penalty p) t l numbers trace places h = grind (arith, nat_tests)
room_for (by_count k) t l numbers trace places h = grind (arith, nat_tests)

few : (c : Sought) (f : ℕ → ℕ → ℕ) (marks : List Mark) (m n : ℕ) (d : List ℕ) → winner c f marks m n ≡ Some d → length d < n
few c f marks m n d e = let k : 0 + length d < n = few_boundaries n 0 d (divides c (((winner_wins c f marks m n).wins d).0 e).candidate) in omega arith
  where
    divides : (c : Sought) → Candidate c marks m n d → Division n d
    divides (by_penalty p) a = a.division
    divides (by_count k) a = a.0.division

module _ (t : Table) (rm : Room) (l : Marking) (marks : List Mark) (ss : List Step) (c : Criterion) (u : Lent) (numbers trace : ℕ) (old new : Lent-list ℕ) (xs xs' ys ys' : List ℕ)
    (a : numbers ≡ min u.numbers rm.numbers) (b : trace ≡ min u.trace rm.trace) (same : length (places old) ≡ rm.boundaries)
    (w : Cut-made (cut_refusal (sought c) t l numbers trace (length (places old))) (cut_winner (sought c) t marks l) (cut_total (sought c) t l) (cut_outcome (sought c) t marks l numbers trace (length (places old))) old new xs xs' ys ys') where
  abbrev with_cut : Line → List ℕ → State
  with_cut line bs = record { line = line; marks = marks; boundaries = bs; steps = ss }

  abbrev refusal : Option Fault
  refusal = cut_refusal (sought c) t l numbers trace (length (places old))

  abbrev best : Option (List ℕ)
  best = cut_winner (sought c) t marks l

  abbrev made : Option Fault → Option (List ℕ) → Result Cut-line (Marking × Fault)
  made o b = cut_line l (outcome o b (cut_total (sought c) t l))

  pub cut_kept : new.items.ghost_name ≡ old.items.ghost_name → PastKept old new
  cut_kept e = let p = go refusal best (few (sought c) t.loss marks l.shortest l.n) (room_for (sought c) t l numbers trace (length (places old))) w.listed w.past in record { past = p.0; slice = record { room = p.1; lender = e } }
    where
      go : (o : Option Fault) (b : Option (List ℕ)) → ((d : List ℕ) → b ≡ Some d → length d < l.n) → (o ≡ None → l.n - 1 ≤ length (places old)) → entries new ≡ entries_after o b (entries old) → places new ≡ places_after o b (places old)
          → (drop (length (entries new)) (places new) ≡ drop (length (entries new)) (places old)) × (length (places new) ≡ length (places old))
      go (Some f) b short roomy x y = (ap (drop (length (entries new))) y, ap length y)
      go None None short roomy x y = (ap (drop (length (entries new))) y, ap length y)
      go None (Some d) short roomy x y =
          let k : length d < l.n = short d refl in
          let r : l.n - 1 ≤ length (places old) = roomy refl in
          let long : length (d ++ drop (length d) (places old)) ≡ length (places old) = simp (length-append, length-drop) (omega arith) in
          let back : drop (length d) (d ++ drop (length d) (places old)) ≡ drop (length d) (places old) = drop-append_seam d (drop (length d) (places old)) in
          let P : List ℕ → Type 0 = λ z. drop (length z) (places new) ≡ drop (length z) (places old) in
          (subst P (sym x) (ap (drop (length d)) y ∙ back), ap length y ∙ long)

  cut_performed : (res : Result Cut-line (Marking × Fault)) → res ≡ made refusal best → Performed t rm (Cut c u) (reply_of res) (with_cut (marking l) (entries old)) (with_cut (line_of res) (entries new))
  cut_performed res e =
      let Q : Option Fault → Type 0 = λ o. (reply_of res ≡ unless (or_else o (none_allowed best)) (Total (cut_total (sought c) t l (found best))))
      × (with_cut (line_of res) (entries new) ≡ carried (or_else o (none_allowed best)) (with_cut (marking l) (entries old)) (with_cut (cut (record { n = l.n; shortest = l.shortest; total = cut_total (sought c) t l (found best) })) (found best))) in
      let p = subst Q same_refusal (go refusal best e w.listed) in
      record { replied = p.0; after = p.1 }
    where
      same_refusal : refusal ≡ cut_refusal (sought c) t l (min u.numbers rm.numbers) (min u.trace rm.trace) rm.boundaries
      same_refusal = cc

      go : (o : Option Fault) (b : Option (List ℕ)) → res ≡ made o b → entries new ≡ entries_after o b (entries old)
          → (reply_of res ≡ unless (or_else o (none_allowed b)) (Total (cut_total (sought c) t l (found b))))
          × (with_cut (line_of res) (entries new) ≡ carried (or_else o (none_allowed b)) (with_cut (marking l) (entries old)) (with_cut (cut (record { n = l.n; shortest = l.shortest; total = cut_total (sought c) t l (found b) })) (found b)))
      go (Some f) b q x = (ap reply_of q, both q x)
        where
          both : res ≡ Err (l, f) → entries new ≡ entries old → with_cut (line_of res) (entries new) ≡ with_cut (marking l) (entries old)
          both p q = cc
      go None None q x = (ap reply_of q, both q x)
        where
          both : res ≡ Err (l, NoAllowedDivision) → entries new ≡ entries old → with_cut (line_of res) (entries new) ≡ with_cut (marking l) (entries old)
          both p q = cc
      go None (Some d) q x = (ap reply_of q, both q x)
        where
          both : res ≡ made None (Some d) → entries new ≡ d → with_cut (line_of res) (entries new) ≡ with_cut (cut (record { n = l.n; shortest = l.shortest; total = cut_total (sought c) t l d })) d
          both p q = cc

  pub cut_call : (call : Call) (reply : Result Answer Fault) (res : Result Cut-line (Marking × Fault)) → call ≡ Cut c u → reply ≡ reply_of res → res ≡ made refusal best
      → Performed t rm call reply (with_cut (marking l) (entries old)) (with_cut (line_of res) (entries new))
  cut_call call reply res x y e =
      let P : Call → Type 0 = λ k. Performed t rm k reply (with_cut (marking l) (entries old)) (with_cut (line_of res) (entries new)) in
      let Q : Result Answer Fault → Type 0 = λ k. Performed t rm (Cut c u) k (with_cut (marking l) (entries old)) (with_cut (line_of res) (entries new)) in
      subst P (sym x) (subst Q (sym y) (cut_performed res e))

  pub cut_buffers : (call : Call) (reply : Result Answer Fault) (res : Result Cut-line (Marking × Fault)) → call ≡ Cut c u → reply ≡ reply_of res → res ≡ made refusal best → (Searched call reply → ⊥) → (xs' ≡ xs) × (ys' ≡ ys)
  cut_buffers call reply res x y e idle = go refusal best e w.untouched (λ b. let P : Call → Type 0 = λ k. Searched k reply in idle (subst P (sym x) (subst begun (sym y) b)))
    where
      go : (o : Option Fault) (b : Option (List ℕ)) → res ≡ made o b → ((f : Fault) → o ≡ Some f → (xs' ≡ xs) × (ys' ≡ ys)) → (begun (reply_of res) → ⊥) → (xs' ≡ xs) × (ys' ≡ ys)
      go (Some f) b q keep idle = keep f refl
      go None None q keep idle = let P : Result Cut-line (Marking × Fault) → Type 0 = λ x. begun (reply_of x) in absurd (idle (subst P (sym q) refl))
      go None (Some d) q keep idle = let P : Result Cut-line (Marking × Fault) → Type 0 = λ x. begun (reply_of x) in absurd (idle (subst P (sym q) tt))
