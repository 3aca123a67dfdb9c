-- Along the penalties, from step to step.
use Rattle.std.proofs.Common.{◌≡◌, ℕ, zero, suc, ◌<◌, ◌≤◌, eqb, ◌≢◌, ◌⊎◌, [], ◌∷◌, ◌++◌, Some, None, Option, sym, refl, ap, ◌∙◌, ap₂, inl, inr, append-nil, arith}
use Rattle.std.proofs.lemmas.Bool.{cases_order, eq-eqb, ne_eqb, cond-true, cond-false}
use Rattle.envelope.specs.declared.Step.{Step}
use Rattle.envelope.specs.Path.{path_at, begun_at, begins_at, steps_below}
use Rattle.envelope.specs.Next.{Holds}
use Rattle.envelope.proofs.Named.{path_names_cheapest}

module _ (losses : ℕ → Option ℕ) (n : ℕ) where
  begins_at_none : (s : Step) (to q : ℕ) → Holds losses n s to → s.penalty < q → q < to → begins_at losses n q ≡ []
  begins_at_none s to zero h a b = absurd (omega arith)
  begins_at_none s to (suc r) h a b =
      ap₂ begun_at (h r (omega arith) (omega arith)) (h (suc r) (omega arith) b) ∙ cond-true (eqb s.count s.count) _ _ (eq-eqb s.count s.count refl)

  -- no step begins_at while one holds
  pub still : (s : Step) (to q : ℕ) → Holds losses n s to → s.penalty < q → q ≤ to → steps_below losses n q ≡ steps_below losses n (suc s.penalty)
  unfolding steps_below
  still s to zero h a b = absurd (omega arith)
  still s to (suc q) h a b = go (cases_order s.penalty q) (still s to q h)
    where
      go : (s.penalty ≡ q) ⊎ ((s.penalty < q) ⊎ (q < s.penalty)) → (s.penalty < q → q ≤ to → steps_below losses n q ≡ steps_below losses n (suc s.penalty)) → steps_below losses n (suc q) ≡ steps_below losses n (suc s.penalty)
      go (inl e) rec = ap (λ x. steps_below losses n (suc x)) (sym e)
      go (inr (inl l)) rec = ap (λ x. steps_below losses n q ++ x) (begins_at_none s to q h l (omega arith)) ∙ append-nil (steps_below losses n q) ∙ rec l (omega arith)
      go (inr (inr l)) rec = absurd (omega arith)

  begins_at_one : (s t : Step) (q : ℕ) → Holds losses n s q → s.penalty < q → path_at losses q n ≡ Some t → s.count ≢ t.count → begins_at losses n q ≡ t ∷ []
  begins_at_one s t zero h a e d = absurd (omega arith)
  begins_at_one s t (suc r) h a e d = ap₂ begun_at (h r (omega arith) (omega arith)) e ∙ cond-false (eqb s.count t.count) _ _ (ne_eqb s.count t.count d)

  -- the next step begins_at where it overtakes
  pub onward : (s t : Step) → Holds losses n s t.penalty → s.penalty < t.penalty → path_at losses t.penalty n ≡ Some t → s.count ≢ t.count → steps_below losses n (suc t.penalty) ≡ steps_below losses n (suc s.penalty) ++ t ∷ []
  unfolding steps_below
  onward s t h a e d = ap₂ ◌++◌ (still s t.penalty t.penalty h a (omega arith)) (begins_at_one s t t.penalty h a e d)

  pub first : (s : Step) → path_at losses 0 n ≡ Some s → steps_below losses n (suc s.penalty) ≡ s ∷ []
  unfolding steps_below
  first s e = let z : s.penalty ≡ 0 = (((path_names_cheapest losses n 0).some s).0 e).penalty_is in ap (λ q. steps_below losses n (suc q)) z ∙ ap (begun_at None) e

  pub never : ((p : ℕ) → path_at losses p n ≡ None) → (q : ℕ) → steps_below losses n q ≡ []
  unfolding steps_below
  never h zero = refl
  never h (suc zero) = ap (begun_at None) (h 0)
  never h (suc (suc q)) = ap₂ ◌++◌ (never h (suc q)) (ap (λ o. begun_at (path_at losses q n) o) (h (suc q)))
