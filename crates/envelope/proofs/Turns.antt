-- The loops' turns, and the step that comes next.
use Rattle.std.proofs.Common.{◌≡◌, ℕ, suc, ◌+◌, ◌-◌, ◌<◌, ◌≤◌, min, ◌⊎◌, List, length, get_or, Some, IfSome, None, Option, sym, refl, subst, inl, inr, arith}
use Rattle.std.proofs.lemmas.Bool.Decides.{nat_tests}
use Rattle.std.proofs.lemmas.Bool.{cases_lt}
use Rattle.envelope.specs.declared.Step.{Step}
use Rattle.envelope.specs.Path.{cost_of, present, path_at, Cheapest, losses_in, largest_penalty}
use Rattle.envelope.specs.Next.{Holds, crossing, sooner, Overtakes, Overtaken, Next, FitLoss, Fit, Small}
use Rattle.envelope.proofs.Named.{path_names_cheapest, clash, some_same}
use Rattle.envelope.proofs.Prices.{later_cost_of, dearer, up, up_small, crosses_at, crosses_not}

present_small : (x y : ℕ) → FitLoss x → present x ≡ Some y → y ≤ largest_penalty
present_small x y f h = grind (arith, nat_tests)

pub small_loss : (row : List ℕ) → Fit row → (k m : ℕ) → k < length row → losses_in row k ≡ Some m → m ≤ largest_penalty
small_loss row f k m b h = present_small (get_or row k 0) m (f.small k b) h

pub small_at : (row : List ℕ) (p k : ℕ) → Fit row → k ≤ length row → Small (path_at (losses_in row) p k)
small_at row p k f b = go (path_at (losses_in row) p k) refl
  where
    go : (o : Option Step) → path_at (losses_in row) p k ≡ o → Small o
    go None e = tt
    go (Some s) e =
        let u : Cheapest (losses_in row) k p s = ((path_names_cheapest (losses_in row) k p).some s).0 e in
        let c : s.count < k = u.below in
        let d : length row ≤ 512 = f.short in
        (omega arith, small_loss row f s.count s.loss (omega arith) u.held)

module _ (losses : ℕ → Option ℕ) (n : ℕ) (s : Step) (u : Cheapest losses n s.penalty s) where
  last_below : {P : ℕ → Type 0} (j i : ℕ) → i < suc j → ((i : ℕ) → i < j → P i) → P j → P i
  last_below {P = P} j i h below here = go (cases_lt i j)
    where
      go : (i < j) ⊎ (j ≤ i) → P i
      go (inl l) = below i l
      go (inr l) = let e : j ≡ i = omega arith in subst P e here

  -- a count j of the loss m overtakes s at q
  module _ (j m : ℕ) (held : losses j ≡ Some m) (c : j < s.count) (small : m ≤ largest_penalty) where
    l : s.loss < m
    l = dearer s.penalty s.count j s.loss m (omega arith) (u.fewest j m c held)

    q : ℕ
    q = up (m - s.loss) (s.count - j)

    q_small : q ≤ largest_penalty
    unfolding q
    q_small = omega (arith, up_small (m - s.loss) (s.count - j) (omega arith))

    q_at : cost_of q j m ≤ cost_of q s.count s.loss
    unfolding q
    q_at = crosses_at s.count j s.loss m c l

    q_not : (p : ℕ) → p < q → cost_of p s.count s.loss < cost_of p j m
    unfolding q
    q_not p b = crosses_not s.count j s.loss m p c l b

    here : (m' p : ℕ) → losses j ≡ Some m' → p < q → cost_of p s.count s.loss < cost_of p j m'
    here m' p h b = let e : m ≡ m' = some_same (losses j) m m' held h in omega (arith, q_not p b)

    over_first : ((i : ℕ) → i < j → losses i ≡ None) → Overtakes losses s (suc j) q
    over_first h =
        record {
          by = j;
          by_loss = m;
          by_below = omega arith;
          by_held = held;
          no_worse = q_at;
          within = q_small;
          before = λ i m' p b f k. last_below {P = λ i. losses i ≡ Some m' → cost_of p s.count s.loss < cost_of p i m'} j i b (λ i b f. clash (losses i) m' f (h i b)) (λ f. here m' p f k) f;
        }

    over_again : (a : ℕ) → Overtakes losses s j a → Overtakes losses s (suc j) (min a q)
    over_again a h = go (cases_lt a q)
      where
        before : (i m' p : ℕ) → i < suc j → losses i ≡ Some m' → p < min a q → cost_of p s.count s.loss < cost_of p i m'
        before i m' p b f k = last_below {P = λ i. losses i ≡ Some m' → cost_of p s.count s.loss < cost_of p i m'} j i b (λ i b f. h.before i m' p b f (omega arith)) (λ f. here m' p f (omega arith)) f

        go : (a < q) ⊎ (q ≤ a) → Overtakes losses s (suc j) (min a q)
        go (inl b) =
            let e : a ≡ min a q = omega arith in
            let below : h.by < j = h.by_below in
            record {
              by = h.by;
              by_loss = h.by_loss;
              by_below = omega arith;
              by_held = h.by_held;
              no_worse = subst (λ (x : ℕ). cost_of x h.by h.by_loss ≤ cost_of x s.count s.loss) e h.no_worse;
              within = omega (arith, h.within);
              before = before;
            }
        go (inr b) =
            let e : q ≡ min a q = omega arith in
            record {
              by = j;
              by_loss = m;
              by_below = omega arith;
              by_held = held;
              no_worse = subst (λ (x : ℕ). cost_of x j m ≤ cost_of x s.count s.loss) e q_at;
              within = omega (arith, q_small);
              before = before;
            }

    over_some : (o : Option ℕ) → Overtaken losses s j o → Overtaken losses s (suc j) (sooner o (Some q))
    over_some None h = over_first h
    over_some (Some a) h = over_again a h

    over_some_at : (o : Option ℕ) → Overtaken losses s j o → Overtaken losses s (suc j) (sooner o (crossing s j (Some m)))
    unfolding q
    over_some_at o h = over_some o h

  over_past : (j : ℕ) → losses j ≡ None → (o : Option ℕ) → Overtaken losses s j o → Overtaken losses s (suc j) (sooner o None)
  over_past j e None h = λ i b. last_below {P = λ i. losses i ≡ None} j i b h e
  over_past j e (Some a) h =
      let below : h.by < j = h.by_below in
      record {
        by = h.by;
        by_loss = h.by_loss;
        by_below = omega arith;
        by_held = h.by_held;
        no_worse = h.no_worse;
        within = h.within;
        before = λ i m p b f k. last_below {P = λ i. losses i ≡ Some m → cost_of p s.count s.loss < cost_of p i m} j i b (λ i b f. h.before i m p b f k) (λ f. clash (losses j) m f e) f;
      }

  pub over_more : (j : ℕ) (x o : Option ℕ) → losses j ≡ x → j < s.count → ((m : ℕ) → losses j ≡ Some m → m ≤ largest_penalty) → Overtaken losses s j o → Overtaken losses s (suc j) (sooner o (crossing s j x))
  over_more j None o e c small h = over_past j e o h
  over_more j (Some m) o e c small h = over_some_at j m e c (small m e) o h

  -- ---- the step that comes next
  on : (p j m : ℕ) → s.penalty ≤ p → s.count ≤ j → j < n → losses j ≡ Some m → cost_of p s.count s.loss ≤ cost_of p j m
  on p j m h c b f = later_cost_of s.penalty p s.count j s.loss m h c (u.least j m b f)

  holds : (to : ℕ) → ((i m p : ℕ) → i < s.count → losses i ≡ Some m → p < to → cost_of p s.count s.loss < cost_of p i m) → Holds losses n s to
  holds to before p a b =
      ((path_names_cheapest losses n p).some _).1
      (record {
        penalty_is = refl;
        below = u.below;
        held = u.held;
        least = λ j m c f. go j m c f (cases_lt j s.count);
        fewest = λ j m c f. before j m p c f b;
      })
    where
      go : (j m : ℕ) → j < n → losses j ≡ Some m → (j < s.count) ⊎ (s.count ≤ j) → cost_of p s.count s.loss ≤ cost_of p j m
      go j m c f (inl k) = omega (arith, before j m p k f b)
      go j m c f (inr k) = on p j m a k c f

  pub next_none : Overtaken losses s s.count None → Next losses n s None
  next_none h = λ to. holds to (λ i m p b f k. clash (losses i) m f (h i b))

  module _ (q : ℕ) (h : Overtakes losses s s.count q) where
    after : s.penalty < q
    after = go (cases_lt s.penalty q)
      where
        go : (s.penalty < q) ⊎ (q ≤ s.penalty) → s.penalty < q
        go (inl b) = b
        go (inr b) =
            let c : h.by < s.count = h.by_below in
            absurd (omega (arith, later_cost_of q s.penalty h.by s.count h.by_loss s.loss b (omega arith) h.no_worse, u.fewest h.by h.by_loss c h.by_held))

    pub next_some : (o : Option Step) → path_at losses q n ≡ o → Next losses n s o
    next_some None e = clash (losses s.count) s.loss u.held ((path_names_cheapest losses n q).none.0 e s.count u.below)
    next_some (Some t) e =
        let v : Cheapest losses n q t = ((path_names_cheapest losses n q).some t).0 e in
        let z : q ≡ t.penalty = sym v.penalty_is in
        let a : s.penalty < q = after in
        record {
          later = omega arith;
          within = omega (arith, h.within);
          fewer = fewer t v (cases_lt t.count s.count);
          until = subst (Holds losses n s) z (holds q h.before);
          best = subst (λ (p : ℕ). path_at losses p n ≡ Some t) z e;
        }
      where
        fewer : (t : Step) → Cheapest losses n q t → (t.count < s.count) ⊎ (s.count ≤ t.count) → t.count < s.count
        fewer t v (inl b) = b
        fewer t v (inr b) =
            let c : h.by < s.count = h.by_below in
            let a : s.penalty < q = after in
            absurd (omega (arith, h.no_worse, v.fewest h.by h.by_loss (omega arith) h.by_held, on q t.count t.loss (omega arith) b v.below v.held))

-- ---- the walk over the counts below the one that is cheapest
module _ (row : List ℕ) (s : Step) (cheapest : path_at (losses_in row) s.penalty (length row) ≡ Some s) where
  u : Cheapest (losses_in row) (length row) s.penalty s
  u = ((path_names_cheapest (losses_in row) (length row) s.penalty).some s).0 cheapest

  pub count_below : s.count < length row
  count_below = u.below

  pub fewer_dearer : (k : ℕ) (o : Option ℕ) → losses_in row k ≡ o → k < s.count → IfSome o (λ l. s.loss < l)
  fewer_dearer k None e h = tt
  fewer_dearer k (Some l) e h = dearer s.penalty s.count k s.loss l (omega arith) (u.fewest k l h e)

  pub overtaken_more : Fit row → (k : ℕ) (o first : Option ℕ) → losses_in row k ≡ o → k < s.count → Overtaken (losses_in row) s k first → Overtaken (losses_in row) s (k + 1) (sooner first (crossing s k o))
  overtaken_more fit k o first f h t =
      let b : s.count < length row = count_below in
      let e : suc k ≡ k + 1 = omega arith in
      subst (λ j. Overtaken (losses_in row) s j (sooner first (crossing s k o))) e (over_more (losses_in row) (length row) s u k o first f h (λ m g. small_loss row fit k m (omega arith) g) t)
