-- Counts fall along the path, and each step begins_at where its count first wins.
use Rattle.std.proofs.Common.{◌≡◌, ℕ, zero, suc, ◌+◌, ◌<◌, ◌≤◌, Bool, true, false, cond, eqb, ◌⊎◌, List, [], ◌∷◌, ◌++◌, Some, None, Option, sym, refl, ap, subst, ap₂, inl, inr, arith}
use Rattle.std.specs.List.{AllByRecursion}
use Rattle.std.proofs.lemmas.Bool.{cases_lt, cases_eq, eqb-false}
use Rattle.envelope.specs.declared.Step.{Step}
use Rattle.envelope.specs.Path.{better_count, path_at, begun_at, begins_at, steps_below, Cheapest, largest_penalty}
use Rattle.envelope.specs.Theorems.{CountsFall, Begins, StepsBegin, OnlyCountsBelow}
use Rattle.envelope.proofs.Named.{path_names_cheapest}
use Rattle.envelope.proofs.Prices.{later_cost_of}

pub counts_fall : CountsFall
counts_fall losses n p q s t h a b = go (cases_lt s.count t.count)
  where
    u : Cheapest losses n p s
    u = ((path_names_cheapest losses n p).some s).0 a

    v : Cheapest losses n q t
    v = ((path_names_cheapest losses n q).some t).0 b

    go : (s.count < t.count) ⊎ (t.count ≤ s.count) → t.count ≤ s.count
    go (inl c) = absurd (omega (arith, later_cost_of p q s.count t.count s.loss t.loss h (omega arith) (u.least t.count t.loss v.below v.held), v.fewest s.count s.loss c u.held))
    go (inr c) = c

module _ (losses : ℕ → Option ℕ) (n : ℕ) where
  all_append : (xs ys : List Step) → AllByRecursion (Begins losses n) xs → AllByRecursion (Begins losses n) ys → AllByRecursion (Begins losses n) (xs ++ ys)
  all_append [] ys h k = k
  all_append (x ∷ xs) ys h k = (h.0, all_append xs ys h.1 k)

  begins_at_at : (q : ℕ) (t : Step) → path_at losses q n ≡ Some t → ((p : ℕ) (s : Step) → p < q → path_at losses p n ≡ Some s → t.count < s.count) → Begins losses n t
  begins_at_at q t e h =
      let z : q ≡ t.penalty = sym (((path_names_cheapest losses n q).some t).0 e).penalty_is in
      record { wins = subst (λ (p : ℕ). path_at losses p n ≡ Some t) z e; first = λ p s b f. h p s (omega arith) f }

  begun_at_first : (o : Option Step) → path_at losses 0 n ≡ o → AllByRecursion (Begins losses n) (begun_at None o)
  begun_at_first None e = tt
  begun_at_first (Some t) e = (begins_at_at 0 t e (λ p s b f. absurd (omega arith)), tt)

  begun_at_next : (q : ℕ) (b o : Option Step) → path_at losses q n ≡ b → path_at losses (suc q) n ≡ o → AllByRecursion (Begins losses n) (begun_at b o)
  begun_at_next q None None f e = tt
  begun_at_next q (Some s) None f e = tt
  begun_at_next q None (Some t) f e = (begins_at_at (suc q) t e (λ p s b g. none_again p s (((path_names_cheapest losses n p).some s).0 g)), tt)
    where
      none_again : {X : Type 0} (p : ℕ) (s : Step) → Cheapest losses n p s → X
      none_again p s u = let g = (path_names_cheapest losses n q).none.0 f s.count u.below in let h = u.held in let z : ◌≡◌ {A = ℕ} 0 1 = cc in absurd (omega arith)
  begun_at_next q (Some s) (Some t) f e = go (eqb s.count t.count) refl
    where
      go : (v : Bool) → eqb s.count t.count ≡ v → AllByRecursion (Begins losses n) (cond v [] (t ∷ []))
      go true d = tt
      go false d = (
        begins_at_at (suc q) t e
            (λ p r b g. let ne : s.count ≡ t.count → ⊥ = eqb-false _ _ d in
            let x : t.count ≤ s.count = counts_fall losses n q (suc q) s t (omega arith) f e in
            let y : s.count ≤ r.count = counts_fall losses n p q r s (omega arith) g f in
            least_apart ne x y),
        tt,
      )
        where
          least_apart : {a b c : ℕ} → (b ≡ a → ⊥) → a ≤ b → b ≤ c → a < c
          least_apart {a = a} {b = b} {c = c} ne x y = at (cases_eq b a)
            where
              at : (b ≡ a) ⊎ (b ≡ a → ⊥) → a < c
              at (inl w) = absurd (ne w)
              at (inr w) = omega arith

  opening_at : (q : ℕ) → AllByRecursion (Begins losses n) (begins_at losses n q)
  opening_at zero = begun_at_first (path_at losses 0 n) refl
  opening_at (suc q) = begun_at_next q (path_at losses q n) (path_at losses (suc q) n) refl refl

  below_open : (q : ℕ) → AllByRecursion (Begins losses n) (steps_below losses n q)
  unfolding steps_below
  below_open zero = tt
  below_open (suc q) = all_append (steps_below losses n q) (begins_at losses n q) (below_open q) (opening_at q)

pub steps_begin : StepsBegin
steps_begin losses n = below_open losses n (largest_penalty + 1)

module _ (losses losses' : ℕ → Option ℕ) where
  pub path_at_same : (p n : ℕ) → ((k : ℕ) → k < n → losses k ≡ losses' k) → path_at losses p n ≡ path_at losses' p n
  path_at_same p zero h = refl
  path_at_same p (suc n) h = ap₂ (λ o l. better_count p o n l) (path_at_same p n (λ k b. h k (omega arith))) (h n (omega arith))

  begins_at_same : (n : ℕ) → ((k : ℕ) → k < n → losses k ≡ losses' k) → (q : ℕ) → begins_at losses n q ≡ begins_at losses' n q
  begins_at_same n h zero = ap (begun_at None) (path_at_same 0 n h)
  begins_at_same n h (suc q) = ap₂ begun_at (path_at_same q n h) (path_at_same (suc q) n h)

  steps_below_same : (n : ℕ) → ((k : ℕ) → k < n → losses k ≡ losses' k) → (q : ℕ) → steps_below losses n q ≡ steps_below losses' n q
  unfolding steps_below
  steps_below_same n h zero = refl
  steps_below_same n h (suc q) = ap₂ ◌++◌ (steps_below_same n h q) (begins_at_same n h q)

pub only_counts_below : OnlyCountsBelow
only_counts_below losses losses' n h = steps_below_same losses losses' n h (largest_penalty + 1)
