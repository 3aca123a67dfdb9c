-- `path_at` gives the cheapest, and there is one alone.
use Rattle.std.proofs.Common.{◌≡◌, ℕ, zero, suc, ◌<◌, ◌≤◌, Bool, true, false, cond, ltb, ◌⊎◌, Some, None, Option, sym, refl, ap, ◌∙◌, subst, inl, inr, arith}
use Rattle.std.proofs.lemmas.Bool.{cases_order, cases_lt, ltb-true, ltb-false}
use Rattle.envelope.specs.declared.Step.{Step}
use Rattle.envelope.specs.Path.{cost_of, better_count, path_at, Cheapest}
use Rattle.envelope.specs.Theorems.{PathNamesCheapest}

pub clash : {X : Type 0} {A : Type 0} (o : Option A) (x : A) → o ≡ Some x → o ≡ None → X
clash o x e f = let z : ◌≡◌ {A = ℕ} 0 1 = cc in absurd (omega arith)

pub some_same : {A : Type 0} (o : Option A) (x y : A) → o ≡ Some x → o ≡ Some y → x ≡ y
some_same o x y e f = cc

pub step_same : (s t : Step) → s.penalty ≡ t.penalty → s.count ≡ t.count → s.loss ≡ t.loss → s ≡ t
step_same s t a b c = λ i. record { penalty = a i; count = b i; loss = c i }

same_cost_of : (losses : ℕ → Option ℕ) (p j n m x : ℕ) → j ≡ n → losses j ≡ Some m → losses n ≡ Some x → cost_of p j m ≡ cost_of p n x
same_cost_of losses p j n m x e f g = cc

module _ (losses : ℕ → Option ℕ) (p : ℕ) where
  abbrev Outcome : ℕ → Option Step → Type 0
  Outcome n None = (k : ℕ) → k < n → losses k ≡ None
  Outcome n (Some s) = Cheapest losses n p s

  at_end : {P : ℕ → Type 0} (n k : ℕ) → k < suc n → ((k : ℕ) → k < n → P k) → P n → P k
  at_end {P = P} n k h below here = go (cases_lt k n)
    where
      go : (k < n) ⊎ (n ≤ k) → P k
      go (inl l) = below k l
      go (inr l) = let e : n ≡ k = omega arith in subst P e here

  grown : (n : ℕ) (o : Option Step) (l : Option ℕ) → losses n ≡ l → Outcome n o → Outcome (suc n) (better_count p o n l)
  grown n None None e h = λ k b. at_end {P = λ k. losses k ≡ None} n k b h e
  grown n (Some s) None e h =
      let b : s.count < n = h.below in
      record {
        penalty_is = h.penalty_is;
        below = omega arith;
        held = h.held;
        least = λ j m b f. at_end {P = λ j. losses j ≡ Some m → cost_of p s.count s.loss ≤ cost_of p j m} n j b (λ j b f. h.least j m b f) (λ f. clash (losses n) m f e) f;
        fewest = h.fewest;
      }
  grown n None (Some x) e h =
      record {
        penalty_is = refl;
        below = omega arith;
        held = e;
        least = λ j m b f. at_end {P = λ j. losses j ≡ Some m → cost_of p n x ≤ cost_of p j m} n j b (λ j b f. clash (losses j) m f (h j b)) (λ f. omega (arith, same_cost_of losses p n n m x refl f e)) f;
        fewest = λ j m b f. clash (losses j) m f (h j b);
      }
  grown n (Some s) (Some x) e h = go (ltb (cost_of p n x) (cost_of p s.count s.loss)) refl
    where
      go : (b : Bool) → ltb (cost_of p n x) (cost_of p s.count s.loss) ≡ b → Cheapest losses (suc n) p (cond b (record { penalty = p; count = n; loss = x }) s)
      go true t =
          let l : cost_of p n x < cost_of p s.count s.loss = ltb-true _ _ t in
          record {
            penalty_is = refl;
            below = omega arith;
            held = e;
            least = λ j m b f. at_end {P = λ j. losses j ≡ Some m → cost_of p n x ≤ cost_of p j m} n j b (λ j b f. omega (arith, h.least j m b f)) (λ f. omega (arith, same_cost_of losses p n n m x refl f e)) f;
            fewest = λ j m b f. omega (arith, h.least j m b f);
          }
      go false t =
          let l : cost_of p s.count s.loss ≤ cost_of p n x = ltb-false _ _ t in
          let b : s.count < n = h.below in
          record {
            penalty_is = h.penalty_is;
            below = omega arith;
            held = h.held;
            least = λ j m b f. at_end {P = λ j. losses j ≡ Some m → cost_of p s.count s.loss ≤ cost_of p j m} n j b (λ j b f. h.least j m b f) (λ f. omega (arith, same_cost_of losses p n n m x refl f e)) f;
            fewest = h.fewest;
          }

  pub outcome : (n : ℕ) → Outcome n (path_at losses p n)
  outcome zero = λ k h. absurd (omega arith)
  outcome (suc n) = grown n (path_at losses p n) (losses n) refl (outcome n)

  pub one_cheapest : (n : ℕ) (s t : Step) → Cheapest losses n p s → Cheapest losses n p t → s ≡ t
  one_cheapest n s t h k = go (cases_order s.count t.count)
    where
      go : (s.count ≡ t.count) ⊎ ((s.count < t.count) ⊎ (t.count < s.count)) → s ≡ t
      go (inl e) = step_same s t (h.penalty_is ∙ sym k.penalty_is) e (some_same (losses s.count) s.loss t.loss h.held (ap losses e ∙ k.held))
      go (inr (inl l)) = absurd (omega (arith, k.fewest s.count s.loss l h.held, h.least t.count t.loss k.below k.held))
      go (inr (inr l)) = absurd (omega (arith, h.fewest t.count t.loss l k.held, k.least s.count s.loss h.below h.held))

  some_from : (n : ℕ) (o : Option Step) → Outcome n o → (s : Step) → Cheapest losses n p s → o ≡ Some s
  some_from n None h s w = clash (losses s.count) s.loss w.held (h s.count w.below)
  some_from n (Some t) h s w = ap Some (one_cheapest n t s h w)

  none_from : (n : ℕ) (o : Option Step) → Outcome n o → ((k : ℕ) → k < n → losses k ≡ None) → o ≡ None
  none_from n None h k = refl
  none_from n (Some s) h k = clash (losses s.count) s.loss h.held (k s.count h.below)

pub path_names_cheapest : PathNamesCheapest
path_names_cheapest losses n p =
    record {
      some = λ s. (λ e. subst (Outcome losses p n) e (outcome losses p n), some_from losses p n (path_at losses p n) (outcome losses p n) s);
      none = (λ e. subst (Outcome losses p n) e (outcome losses p n), none_from losses p n (path_at losses p n) (outcome losses p n));
    }
