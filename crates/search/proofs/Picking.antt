-- One more start for the search over the starts.
use Rattle.std.proofs.Common.{◌≡◌, ℕ, ◌+◌, ◌<◌, ◌≤◌, Bool, true, false, cond, ◌⊎◌, IfSome, Some, None, Option, sym, refl, ap, ◌∙◌, subst, inl, inr, arith}
use native.Mathlib.Decide.{dec_lt}
use Rattle.tally.specs.Order.{Tallying, Order}
use Rattle.search.specs.Rows.{Picked, smaller}
use Rattle.search.proofs.Optimal.{asym, no_less}

-- b is below i, or is i
last : (b i : ℕ) → b < i + 1 → (b < i) ⊎ (b ≡ i)
last b i h = elim (dec_lt b i) [ yes lt ↦ inl lt | no ge ↦ inr (omega arith) ]

module _ {V : Type 0} (m : Tallying V) (can : ℕ → Type 0) (row : ℕ → Option V) (i t : ℕ) where
  -- a start that has no entry or cannot precede t
  pub skips : (o : Option (V × ℕ)) → Picked m can row i t o → (can i → (w : V) → row i ≡ Some w → ⊥) → Picked m can row (i + 1) t o
  skips None h none = λ b lt ok w e.
      elim (last b i lt) [ inl l ↦ h b l ok w e | inr q ↦ none (subst can q ok) w (subst (λ x. row x ≡ Some w) q e) ]
  skips (Some (v, a)) h none = (
    omega (arith, h.0),
    h.1,
    h.2,
    (λ b lt ok w e. elim (last b i lt) [ inl l ↦ h.3 b l ok w e | inr q ↦ absurd (none (subst can q ok) w (subst (λ x. row x ≡ Some w) q e)) ]),
    (λ b gt lt ok w e. elim (last b i lt) [ inl l ↦ h.4 b gt l ok w e | inr q ↦ absurd (none (subst can q ok) w (subst (λ x. row x ≡ Some w) q e)) ]),
  )

  module _ (order : Order m.below) (u : V) (can-i : can i) (at_i : row i ≡ Some u) where
    value : (b : ℕ) → b ≡ i → (w : V) → row b ≡ Some w → m.step b t w ≡ m.step i t u
    value b q w e = let same : w ≡ u = cc in ap (λ x. m.step x t w) q ∙ ap (m.step i t) same

    pub takes : (o : Option (V × ℕ)) → Picked m can row i t o → Picked m can row (i + 1) t (smaller m.below o (m.step i t u) i)
    takes None h = (
      omega arith,
      can-i,
      (u, at_i, refl),
      (λ b lt ok w e. elim (last b i lt) [ inl l ↦ absurd (h b l ok w e) | inr q ↦ subst (λ x. m.below x (m.step i t u) ≡ false) (sym (value b q w e)) (order.never _) ]),
      (λ b gt lt ok w e. absurd (omega arith)),
    )
    takes (Some (v, a)) h =
        let goal : (x : Bool) → m.below v (m.step i t u) ≡ x → Picked m can row (i + 1) t (cond x (Some (v, a)) (Some (m.step i t u, i))) =
        λ x. elim x as (λ x. m.below v (m.step i t u) ≡ x → Picked m can row (i + 1) t (cond x (Some (v, a)) (Some (m.step i t u, i)))) [
          | true ↦ λ k. (
            omega (arith, h.0),
            h.1,
            h.2,
            (λ b lt ok w e. elim (last b i lt) [ inl l ↦ h.3 b l ok w e | inr q ↦ subst (λ y. m.below y v ≡ false) (sym (value b q w e)) (asym order _ _ k) ]),
            (λ b gt lt ok w e. elim (last b i lt) [ inl l ↦ h.4 b gt l ok w e | inr q ↦ subst (λ y. m.below v y ≡ true) (sym (value b q w e)) k ]),
          )
          | false ↦ λ k. (
            omega arith,
            can-i,
            (u, at_i, refl),
            (λ b lt ok w e. elim (last b i lt) [ inl l ↦ no_less order _ _ _ (h.3 b l ok w e) k | inr q ↦ subst (λ y. m.below y (m.step i t u) ≡ false) (sym (value b q w e)) (order.never _) ]),
            (λ b gt lt ok w e. absurd (omega arith)),
          )
        ] in
        goal _ refl

-- starts that cannot precede t
pub widens : {V : Type 0} (m : Tallying V) (can : ℕ → Type 0) (row : ℕ → Option V) (i j t : ℕ) (o : Option (V × ℕ)) → i ≤ j → ((b : ℕ) → i ≤ b → b < j → can b → ⊥)
    → Picked m can row i t o → Picked m can row j t o
widens m can row i j t None le bar h = λ b lt ok w e. elim (dec_lt b i) [ yes l ↦ h b l ok w e | no ge ↦ bar b (omega arith) lt ok ]
widens m can row i j t (Some (v, a)) le bar h = (
  omega (arith, h.0),
  h.1,
  h.2,
  (λ b lt ok w e. elim (dec_lt b i) [ yes l ↦ h.3 b l ok w e | no ge ↦ absurd (bar b (omega arith) lt ok) ]),
  (λ b gt lt ok w e. elim (dec_lt b i) [ yes l ↦ h.4 b gt l ok w e | no ge ↦ absurd (bar b (omega arith) lt ok) ]),
)

pub fits_of : {V : Type 0} (fits : V → Type 0) (o : Option V) (u : V) → Some u ≡ o → IfSome o fits → fits u
fits_of fits o u e h = subst (λ x. IfSome x fits) (sym e) h

pub smaller_fits : {V : Type 0} (fits : V → Type 0) (below : V → V → Bool) (o : Option (V × ℕ)) (v : V) (a : ℕ) → IfSome o (λ p. fits p.0) → fits v → IfSome (smaller below o v a) (λ p. fits p.0)
smaller_fits fits below None v a h k = k
smaller_fits {V} fits below (Some p) v a h k =
    let P : Option (V × ℕ) → Type 0 = λ o. IfSome o (λ p. fits p.0) in
    let both : (x : Bool) → P (cond x (Some p) (Some (v, a))) = λ x. elim x as (λ x. P (cond x (Some p) (Some (v, a)))) [ true ↦ h | false ↦ k ] in
    both (below p.0 v)
