-- The best starts to t, from the best starts to each start that can precede it.
use Rattle.std.proofs.Common.{◌≡◌, ℕ, ◌<◌, ◌≤◌, Bool, true, false, ◌⊎◌, List, [], ◌∷◌, Some, None, Option, sym, refl, ap, ◌∙◌, subst, inl, inr, arith}
use native.Mathlib.Decide.{dec_lt, dec_le}
use Rattle.tally.specs.Order.{Tallying, Order, Strict, Weak}
use Rattle.search.specs.Starts.{Stages, Starts, tally_of, Best, NoLater, WinningStarts}
use Rattle.search.specs.Rows.{Picked, Entry, Extended}

pub clash : {A : Type 0} {b : Bool} → b ≡ true → b ≡ false → A
clash {A} {b} p q = let z : ◌≡◌ {A = Bool} true false = sym p ∙ q in let e : ◌≡◌ {A = ℕ} 0 1 = cc in absurd (omega arith)

pub tell : (b : Bool) → (b ≡ true) ⊎ (b ≡ false)
tell true = inl refl
tell false = inr refl

module _ {V : Type 0} {below : V → V → Bool} (order : Order below) where
  pub asym : (x y : V) → below x y ≡ true → below y x ≡ false
  asym x y h = elim (tell (below y x)) [ inl k ↦ clash (order.trans x y x h k) (order.never x) | inr k ↦ k ]

  -- no smaller, twice
  pub no_less : (x y z : V) → below x y ≡ false → below y z ≡ false → below x z ≡ false
  no_less x y z h k =
      elim (tell (below x z)) [
        | inr r ↦ r
        | inl r ↦ elim (tell (below z y)) [
          | inl q ↦ clash (order.trans x z y r q) h
          | inr q ↦ let e : y ≡ z = order.same y z k q in clash (subst (λ w. below x w ≡ true) (sym e) r) h
        ]
      ]

module _ {V : Type 0} (m : Tallying V) (order : Order m.below) (strict : Strict m) where
  pub weak : Weak m
  weak a b x y h =
      elim (tell (m.below y x)) [
        | inl k ↦ asym order (m.step a b y) (m.step a b x) (strict a b y x k)
        | inr k ↦ let e : x ≡ y = order.same x y h k in subst (λ w. m.below (m.step a b x) (m.step a b w) ≡ false) e (order.never (m.step a b x))
      ]

  -- a stretch is added to one value only
  pub one_value : (a b : ℕ) (x y : V) → m.step a b x ≡ m.step a b y → x ≡ y
  one_value a b x y e =
      let not-below : (p q : V) → m.step a b p ≡ m.step a b q → m.below p q ≡ false = λ p q f.
      elim (tell (m.below p q)) [ inr k ↦ k | inl k ↦ clash (subst (λ w. m.below w (m.step a b q) ≡ true) f (strict a b p q k)) (order.never (m.step a b q)) ] in
      order.same x y (not-below x y e) (not-below y x (sym e))

no_later_both : (ds es : List ℕ) → NoLater ds es → NoLater es ds → ds ≡ es
no_later_both [] [] p q = refl
no_later_both [] (b ∷ bs) p q = absurd p
no_later_both (a ∷ more) [] p q = absurd p
no_later_both (a ∷ more) (b ∷ bs) p q =
    elim p [
      | inl l ↦ elim q [ inl k ↦ absurd (omega arith) | inr k ↦ absurd (omega (arith, k.0)) ]
      | inr l ↦ elim q [ inl k ↦ absurd (omega (arith, l.0)) | inr k ↦ ap (λ x. x ∷ more) l.0 ∙ ap (λ (x : List ℕ). b ∷ x) (no_later_both more bs l.1 k.1) ]
    ]

module _ {V S : Type 0} (m : Tallying V) (n : Stages S) (order : Order m.below) where
  pub best_starts : (s : S) (t : ℕ) (ds : List ℕ) → Best m n s t ds → Starts n s t ds
  best_starts s t [] h = h
  best_starts s t (a ∷ more) h = (h.0, h.1, best_starts (n.prev s) a more h.4)

  pub best_least : (s : S) (t : ℕ) (ds : List ℕ) → Best m n s t ds → (es : List ℕ) → Starts n s t es → m.below (tally_of m t es) (tally_of m t ds) ≡ false
  best_least s t [] h [] w = order.never m.zero
  best_least s t [] h (b ∷ bs) w = let e : t ≡ 0 = n.at_zero s t h in absurd (omega (arith, w.0))
  best_least s t (a ∷ more) h es w = h.2 es w

  -- with the strict law, the best starts are the latest of all that tally as much, from the last start back
  pub best_latest : Strict m → (s : S) (t : ℕ) (ds : List ℕ) → Best m n s t ds → (es : List ℕ) → Starts n s t es → tally_of m t es ≡ tally_of m t ds → NoLater es ds
  best_latest strict s t [] h [] w e = tt
  best_latest strict s t [] h (b ∷ bs) w e = let z : t ≡ 0 = n.at_zero s t h in absurd (omega (arith, w.0))
  best_latest strict s t (a ∷ more) h [] w e = let z : t ≡ 0 = n.at_zero s t w in absurd (omega (arith, h.0))
  best_latest strict s t (a ∷ more) h (b ∷ bs) w e =
      elim (dec_lt b a) [
        | yes lt ↦ inl lt
        | no ge ↦
            let le : b ≤ a = h.3 b bs w e in
            let eq : b ≡ a = omega arith in
            let starts : Starts n (n.prev s) a bs = subst (λ x. Starts n (n.prev s) x bs) eq w.2 in
            let even : m.step a t (tally_of m a bs) ≡ m.step a t (tally_of m a more) = subst (λ x. m.step x t (tally_of m x bs) ≡ m.step a t (tally_of m a more)) eq e in
            inr (eq, best_latest strict (n.prev s) a more h.4 bs starts (one_value m order strict a t _ _ even))
      ]

  pub best_wins : Strict m → (s : S) (t : ℕ) (ds : List ℕ) → Best m n s t ds → WinningStarts m n s t ds
  best_wins strict s t ds h = (best_starts s t ds h, best_least s t ds h, best_latest strict s t ds h)

  -- at most one list of starts wins
  pub wins_one : (s : S) (t : ℕ) (ds es : List ℕ) → WinningStarts m n s t ds → WinningStarts m n s t es → ds ≡ es
  wins_one s t ds es p q =
      let even : tally_of m t ds ≡ tally_of m t es = order.same _ _ (q.1 ds p.0) (p.1 es q.0) in
      no_later_both ds es (q.2 ds p.0 even) (p.2 es q.0 (sym even))

  module _ (weakly : Weak m) (s : S) (t : ℕ) (row : ℕ → Option V) (kept : ℕ → List ℕ → Type 0) (later : n.begins s t → ⊥)
      (rows : (a : ℕ) → a < t → Entry m n (kept a) (n.prev s) a (row a)) where
    -- where there are starts to b, the row has an entry that is no larger
    pub held : (b : ℕ) → b < t → (bs : List ℕ) → Starts n (n.prev s) b bs → (w : V) × (row b ≡ Some w) × (m.below (tally_of m b bs) w ≡ false)
    held b lt bs starts =
        let found : (o : Option V) → row b ≡ o → Entry m n (kept b) (n.prev s) b o → (w : V) × (row b ≡ Some w) × (m.below (tally_of m b bs) w ≡ false) =
        λ o. elim o as (λ o. row b ≡ o → Entry m n (kept b) (n.prev s) b o → (w : V) × (row b ≡ Some w) × (m.below (tally_of m b bs) w ≡ false)) [
          | None ↦ λ e h. absurd (h bs starts)
          | Some w ↦ λ e h. (w, e, subst (λ x. m.below (tally_of m b bs) x ≡ false) (sym h.2) (best_least (n.prev s) b h.0 h.1 bs starts))
        ] in
        found (row b) refl (rows b lt)

    no_starts : Picked m (λ a. n.permits s a t) row t t None → (ds : List ℕ) → Starts n s t ds → ⊥
    no_starts none [] starts = later starts
    no_starts none (b ∷ bs) starts = let h = held b starts.0 bs starts.2 in none b starts.0 starts.1 h.0 h.1

    pub keeps : (r : Option (V × ℕ)) → Picked m (λ a. n.permits s a t) row t t r → Extended m n kept s t r
    keeps None none = no_starts none
    keeps (Some (v, a)) picked =
        let u : V = picked.2.0 in
        let here : Entry m n (kept a) (n.prev s) a (Some u) = subst (λ o. Entry m n (kept a) (n.prev s) a o) picked.2.1 (rows a picked.0) in
        let ds : List ℕ = here.0 in
        let is-tally : v ≡ m.step a t (tally_of m a ds) = picked.2.2 ∙ ap (m.step a t) here.2 in
        let least : (es : List ℕ) → Starts n s t es → m.below (tally_of m t es) v ≡ false = λ es. elim es as (λ es. Starts n s t es → m.below (tally_of m t es) v ≡ false) [
          | [] ↦ λ starts. absurd (later starts)
          | b ∷ bs ↦ λ starts. (let h = held b starts.0 bs starts.2 in no_less order _ _ _ (weakly b t _ _ h.2) (picked.3 b starts.0 starts.1 h.0 h.1))
        ] in
        let latest : (b : ℕ) (bs : List ℕ) → Starts n s t (b ∷ bs) → tally_of m t (b ∷ bs) ≡ v → b ≤ a = λ b bs starts same.
        elim (dec_le b a) [
          | yes le ↦ le
          | no gt ↦ (let h = held b starts.0 bs starts.2 in
              let lt : a < b = omega arith in
              clash (picked.4 b lt starts.0 starts.1 h.0 h.1) (subst (λ x. m.below x (m.step b t h.0) ≡ false) same (weakly b t _ _ h.2)))
        ] in (
          ds,
          (
            picked.0,
            picked.1,
            subst (λ x. (es : List ℕ) → Starts n s t es → m.below (tally_of m t es) x ≡ false) is-tally least,
            subst (λ x. (b : ℕ) (bs : List ℕ) → Starts n s t (b ∷ bs) → tally_of m t (b ∷ bs) ≡ x → b ≤ a) is-tally latest,
            here.1,
          ),
          is-tally,
          here.3,
        )
