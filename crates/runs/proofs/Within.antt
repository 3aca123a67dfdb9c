-- A path and a cut in the lent part of the buffers, said of the whole buffers.
use Rattle.std.proofs.Common.{◌≡◌, ℕ, ◌-◌, min, List, ◌++◌, length, take, drop, Option, Result, ap, ◌∙◌, subst, ap₂, arith, take-append-drop, length-take}
use native.Mathlib.Nat.{sub-zero}
use Rattle.fault.specs.declared.Fault.{Fault}
use Rattle.loss.specs.Table.{Table}
use Rattle.list.specs.declared.List.{List as Lent-list}
use Rattle.list.specs.Entries.{places}
use Rattle.division.specs.declared.mark.Mark.{Mark}
use Rattle.division.specs.Winner.{Criterion as Sought}
use Rattle.envelope.specs.declared.Step.{Step}
use Rattle.path.specs.Outcome.{path_refusal, PathWritten}
use Rattle.cuts.specs.Outcome.{outcome, Cut as Cut-made}
use Rattle.line.specs.declared.Marking.{Marking}
use Rattle.line.specs.declared.Cut.{Cut}
use Rattle.line.specs.Calls.{cut_refusal, cut_winner, cut_total, cut_outcome, cut_line}

-- the lent part of a buffer: its first u places, or all
part_length : (xs : List ℕ) (u e : ℕ) → e ≡ min u (length xs) → length (take (e - 0) xs) ≡ min u (length xs)
part_length xs u e h = simp (sub-zero, length-take) (omega (arith, h))

-- where the part is as it was, so is the whole
whole : (xs part : List ℕ) (e : ℕ) → part ≡ take (e - 0) xs → part ++ drop (e - 0) xs ≡ xs
whole xs part e h = ap (λ (p : List ℕ). p ++ drop (e - 0) xs) h ∙ take-append-drop (e - 0) xs

pub within_path : (t : Table) (marks : List Mark) (m n u e : ℕ) (r : Result (Unit {0}) Fault) (old new : Lent-list Step) (numbers part : List ℕ) → e ≡ min u (length numbers)
    → PathWritten (path_refusal t n (length (take (e - 0) numbers)) (length (places old))) t.loss marks m n r old new (take (e - 0) numbers) part
    → PathWritten (path_refusal t n (min u (length numbers)) (length (places old))) t.loss marks m n r old new numbers (part ++ drop (e - 0) numbers)
within_path t marks m n u e r old new numbers part h w =
    let P : ℕ → Type 0 = λ k. PathWritten (path_refusal t n k (length (places old))) t.loss marks m n r old new numbers (part ++ drop (e - 0) numbers) in
    subst P (part_length numbers u e h)
    (record { answer = w.answer; listed = w.listed; names = w.names; past = w.past; kept = w.kept; untouched = λ x z. whole numbers part e (w.untouched x z) })

module _ (c : Sought) (t : Table) (marks : List Mark) (l : Marking) (u v e f : ℕ) (places : ℕ) (numbers trace : List ℕ) (h : e ≡ min u (length numbers)) (k : f ≡ min v (length trace)) where
  abbrev refusal_at : ℕ → ℕ → Option Fault
  refusal_at a b = cut_refusal c t l a b places

  pub same_refusal : refusal_at (length (take (e - 0) numbers)) (length (take (f - 0) trace)) ≡ refusal_at (min u (length numbers)) (min v (length trace))
  same_refusal = ap₂ refusal_at (part_length numbers u e h) (part_length trace v f k)

  pub within_answer : (r : Result Cut (Marking × Fault))
      → r ≡ cut_line l (cut_outcome c t marks l (length (take (e - 0) numbers)) (length (take (f - 0) trace)) places)
      → r ≡ cut_line l (cut_outcome c t marks l (min u (length numbers)) (min v (length trace)) places)
  within_answer r a = a ∙ ap (λ (o : Option Fault). cut_line l (outcome o (cut_winner c t marks l) (cut_total c t l))) same_refusal

  pub within_cut : (old new : Lent-list ℕ) (part piece : List ℕ)
      → Cut-made (refusal_at (length (take (e - 0) numbers)) (length (take (f - 0) trace))) (cut_winner c t marks l) (cut_total c t l) (cut_outcome c t marks l (length (take (e - 0) numbers)) (length (take (f - 0) trace)) places) old new (take (e - 0) numbers) part (take (f - 0) trace) piece
      → Cut-made (refusal_at (min u (length numbers)) (min v (length trace))) (cut_winner c t marks l) (cut_total c t l) (cut_outcome c t marks l (min u (length numbers)) (min v (length trace)) places) old new numbers (part ++ drop (e - 0) numbers) trace (piece ++ drop (f - 0) trace)
  within_cut old new part piece w =
      let P : Option Fault → Type 0 = λ o. Cut-made o (cut_winner c t marks l) (cut_total c t l) (outcome o (cut_winner c t marks l) (cut_total c t l)) old new numbers (part ++ drop (e - 0) numbers) trace (piece ++ drop (f - 0) trace) in
      subst P same_refusal
      (record { answer = w.answer; bounded = w.bounded; listed = w.listed; past = w.past; untouched = λ x z. (whole numbers part e (w.untouched x z).0, whole trace piece f (w.untouched x z).1) })
