-- What is printed stands behind what was printed before, whatever that was.
use Rattle.std.proofs.Common.{◌≡◌, ℕ, ◌+◌, eqb, List, [], ◌∷◌, ◌++◌, length, fold, refl, ap, ◌∙◌, inl, inr}
use Rattle.std.proofs.lemmas.Bool.{cases_Bool}
use Rattle.std.proofs.lemmas.List.{append_assoc}
use Rattle.inputs.specs.Reading.{Read, ended, next, closed, behind_text, TextApart}

module _ {S : Type 0} (step : S → List ℕ → ℕ → S) (reply : S → List ℕ → ℕ → List ℕ) where
  ended_apart : (before : List ℕ) (r : Read S) → ended step reply (behind_text before r) ≡ behind_text before (ended step reply r)
  ended_apart before r =
      ap (λ (x : List ℕ). record { line = []; lines = r.lines + 1; state = step r.state r.line (r.lines + 1); text = x })
      (append_assoc before r.text (reply r.state r.line (r.lines + 1) ++ 10 ∷ []))

  next_apart : (before : List ℕ) (r : Read S) (b : ℕ) → next step reply (behind_text before r) b ≡ behind_text before (next step reply r b)
  next_apart before r b =
      elim (cases_Bool (eqb r.lines 65535)) [
        | inl e ↦ simp e
        | inr e ↦
            elim (cases_Bool (eqb b 10)) [
              | inl q ↦ simp (e, q) (ended_apart before r)
              | inr q ↦ simp (e, q)
            ]
      ]

  closed_apart : (before : List ℕ) (r : Read S) → closed step reply (behind_text before r) ≡ behind_text before (closed step reply r)
  closed_apart before r =
      elim (cases_Bool (eqb (length r.line) 0)) [
        | inl e ↦ simp e
        | inr e ↦
            elim (cases_Bool (eqb r.lines 65535)) [
              | inl q ↦ simp (e, q)
              | inr q ↦ simp (e, q) (ended_apart before r)
            ]
      ]

  part_apart : (before : List ℕ) (r : Read S) (bytes : List ℕ) → fold (next step reply) (behind_text before r) bytes ≡ behind_text before (fold (next step reply) r bytes)
  part_apart before r [] = refl
  part_apart before r (b ∷ bs) = ap (λ (x : Read S). fold (next step reply) x bs) (next_apart before r b) ∙ part_apart before (next step reply r b) bs

  pub text_apart : TextApart step reply
  text_apart = record { part = part_apart; end = closed_apart }
