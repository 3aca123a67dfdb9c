-- The winner solves the problem.
use Rattle.std.proofs.Common.{◌≡◌, ℕ, zero, suc, ◌+◌, ◌-◌, ◌*◌, ◌<◌, ◌≤◌, ◌⊎◌, List, [], ◌∷◌, ◌++◌, length, get_or, take, drop, replicate, ℤ, pos, ◌-ℤ◌, nat_abs, Some, sym, refl, ap, ◌∙◌, subst, ap₂, inl, inr, add-zero, add_assoc, zero-add, arith}
use Rattle.std.proofs.lemmas.List.{take_rest, drop-drop, length-take, length-drop, length-append, length-replicate, get_or-take, get_or-drop, get_or-replicate, get_or_append_left, get_or-append_right, take_at, drop_at}
use Rattle.std.proofs.lemmas.Bool.{cases_order}
use Rattle.std.specs.List.{AllByRecursion}
use Rattle.std.proofs.ByRecursion.{All-append, All-take, All-drop}
use Rattle.leaves.specs.Readings.{cost_at, least_of, Rising, Between, stretch_of, loss_of, table_of}
use Rattle.leaves.specs.LeastLevel.{least_of_all, reached_between}
use Rattle.division.specs.declared.mark.Mark.{Mark}
use Rattle.division.specs.Division.{Division, EachStretch, sum_stretches, loss}
use Rattle.division.specs.Theorems.{In}
use Rattle.division.specs.Winner.{Criterion, by_penalty, by_count, total, winner, Wins}
use Rattle.division.proofs.Listed.{below}
use Rattle.division.proofs.Best.{winner_wins, winner_costs_least, candidate_divides}
use Rattle.division.proofs.ByStretch.{each_map}
use Rattle.labeled.specs.Problem.{LevelRow, row_cost, choice_cost, WinnerSolves, WinnerKeptBetween, NoWinnerNoChoice, SolvedBy, RowSplits, OneLevel}

cost_split : (g : ℕ → ℕ) (k : ℕ) (xs ms : List ℤ) → row_cost g xs ms ≡ row_cost g (take k xs) (take k ms) + row_cost g (drop k xs) (drop k ms)
cost_split g zero xs ms = sym (zero-add (row_cost g xs ms))
cost_split g (suc k) [] ms = refl
cost_split g (suc k) (x ∷ xs) [] = go (drop k xs)
  where
    go : (ys : List ℤ) → 0 ≡ 0 + row_cost g ys []
    go [] = refl
    go (y ∷ ys) = refl
cost_split g (suc k) (x ∷ xs) (m ∷ ms) =
    ap (λ (n : ℕ). g (nat_abs (x -ℤ m)) + n) (cost_split g k xs ms) ∙ sym (add_assoc (g (nat_abs (x -ℤ m))) (row_cost g (take k xs) (take k ms)) (row_cost g (drop k xs) (drop k ms)))

same_level : (g : ℕ → ℕ) (v : ℤ) (xs ms : List ℤ) → length xs ≤ length ms → ((i : ℕ) → i < length xs → get_or ms i (pos 0) ≡ v) → row_cost g xs ms ≡ cost_at g xs v
same_level g v [] ms le h = refl
same_level g v (x ∷ xs) [] le h = absurd (omega arith)
same_level g v (x ∷ xs) (m ∷ ms) le h =
    ap₂ (λ (z : ℤ) (n : ℕ). g (nat_abs (x -ℤ z)) + n) (h 0 (omega arith)) (same_level g v xs ms (omega arith) (λ i t. h (suc i) (omega arith)))

abbrev Rises : ℕ → ℕ → List ℕ → Type 0
Rises n a ds = EachStretch (λ a b. a < b) n a ds

in_at : (x y : ℕ) (ds : List ℕ) → x ≡ y → In y ds → In x ds
in_at x y ds e i = subst (λ (z : ℕ). In z ds) (sym e) i

-- what is chosen later lies later
past : (n a : ℕ) (ds : List ℕ) → Rises n a ds → (x : ℕ) → In x ds → a < x
past n a [] h x i = absurd i
past n a (b ∷ ds) h x (inl e) = omega (arith, h.0)
past n a (b ∷ ds) h x (inr i) = omega (arith, h.0, past n b ds h.1 x i)

drop_on : (xs : List ℤ) (a b : ℕ) → a < b → drop (b - a) (drop a xs) ≡ drop b xs
drop_on xs a b h = let e : a + (b - a) ≡ b = omega arith in drop-drop (b - a) a xs ∙ ap (λ (n : ℕ). drop n xs) e

splits : (g : ℕ → ℕ) (xs ms : List ℤ) (n : ℕ) → length xs ≡ n → length ms ≡ n → (a : ℕ) (ds : List ℕ) → Rises n a ds →
    row_cost g (drop a xs) (drop a ms) ≡ sum_stretches (λ a b. row_cost g (stretch_of xs a b) (stretch_of ms a b)) n a ds
splits g xs ms n ex em a [] h =
    let p : take (n - a) (drop a xs) ≡ drop a xs = ap (λ (k : ℕ). take (k - a) (drop a xs)) (sym ex) ∙ take_rest xs a in
    let q : take (n - a) (drop a ms) ≡ drop a ms = ap (λ (k : ℕ). take (k - a) (drop a ms)) (sym em) ∙ take_rest ms a in
    sym (ap₂ (row_cost g) p q)
splits g xs ms n ex em a (b ∷ ds) h =
    let p = drop_on xs a b h.0 in
    let q = drop_on ms a b h.0 in
    let r : row_cost g (drop (b - a) (drop a xs)) (drop (b - a) (drop a ms)) ≡ row_cost g (drop b xs) (drop b ms) = ap₂ (row_cost g) p q in
    omega (arith, cost_split g (b - a) (drop a xs) (drop a ms), r, splits g xs ms n ex em b ds h.1)

pub row_splits : RowSplits
row_splits g xs ms ds h e = splits g xs ms (length xs) refl e 0 ds h

-- the levels from a on change only at the gaps of ds
abbrev Steady : ℕ → List ℤ → ℕ → List ℕ → Type 0
Steady n ms a ds = (i : ℕ) → a ≤ i → suc i < n → (In (suc i) ds → ⊥) → get_or ms i (pos 0) ≡ get_or ms (suc i) (pos 0)

constant : (n a b : ℕ) (ms : List ℤ) → b ≤ n → ((i : ℕ) → a ≤ i → suc i < b → get_or ms i (pos 0) ≡ get_or ms (suc i) (pos 0)) → (j : ℕ) → a + j < b → get_or ms (a + j) (pos 0) ≡ get_or ms a (pos 0)
constant n a b ms bn h zero lt = ap (λ (i : ℕ). get_or ms i (pos 0)) (add-zero a)
constant n a b ms bn h (suc j) lt =
    let e : a + suc j ≡ suc (a + j) = omega arith in
    ap (λ (i : ℕ). get_or ms i (pos 0)) e ∙ sym (h (a + j) (omega arith) (omega arith)) ∙ constant n a b ms bn h j (omega arith)

on_stretch : (g : ℕ → ℕ) (xs ms : List ℤ) (n a b : ℕ) → length xs ≡ n → length ms ≡ n → b ≤ n → ((i : ℕ) → a ≤ i → suc i < b → get_or ms i (pos 0) ≡ get_or ms (suc i) (pos 0)) →
    row_cost g (stretch_of xs a b) (stretch_of ms a b) ≡ cost_at g (stretch_of xs a b) (get_or ms a (pos 0))
on_stretch g xs ms n a b ex em bn h =
    same_level g (get_or ms a (pos 0)) (stretch_of xs a b) (stretch_of ms a b) (simp (length-take, length-drop) (omega arith))
    (λ i t.
    let lt : i < b - a = omega (arith, length-take (b - a) (drop a xs)) in
    get_or-take (b - a) (drop a ms) i (pos 0) lt ∙ get_or-drop a ms i (pos 0) ∙ constant n a b ms bn h i (omega arith))

one_level_from : (g : ℕ → ℕ) (xs ms : List ℤ) (n : ℕ) → length xs ≡ n → length ms ≡ n → (a : ℕ) (ds : List ℕ) → Rises n a ds → Steady n ms a ds →
    EachStretch (λ a b. row_cost g (stretch_of xs a b) (stretch_of ms a b) ≡ cost_at g (stretch_of xs a b) (get_or ms a (pos 0))) n a ds
one_level_from g xs ms n ex em a [] h s = on_stretch g xs ms n a n ex em (omega arith) (λ i le lt. s i le lt (λ z. z))
one_level_from g xs ms n ex em a (b ∷ ds) h s =
    let bn : b < n = below n b ds h.1 in (
      on_stretch g xs ms n a b ex em (omega arith) (λ i le lt. s i le (omega arith) (λ z. outside i lt z)),
      one_level_from g xs ms n ex em b ds h.1 (λ i le lt z. s i (omega (arith, h.0)) lt (λ t. later i le z t)),
    )
  where
    outside : (i : ℕ) → suc i < b → In (suc i) (b ∷ ds) → ⊥
    outside i lt (inl e) = omega arith
    outside i lt (inr t) = omega (arith, past n b ds h.1 (suc i) t)

    later : (i : ℕ) → b ≤ i → (In (suc i) ds → ⊥) → In (suc i) (b ∷ ds) → ⊥
    later i le z (inl e) = omega arith
    later i le z (inr t) = z t

pub one_level : OneLevel
one_level g xs ms ds h row = one_level_from g xs ms (length xs) refl row.as_many 0 ds h (λ i le lt z. row.steady i lt z)

sum_below : (f f' : ℕ → ℕ → ℕ) (n a : ℕ) (ds : List ℕ) → EachStretch (λ a b. f a b ≤ f' a b) n a ds → sum_stretches f n a ds ≤ sum_stretches f' n a ds
sum_below f f' n a [] h = h
sum_below f f' n a (b ∷ ds) h = omega (arith, h.0, sum_below f f' n b ds h.1)

module _ (g : ℕ → ℕ) (rises : Rising g) (xs : List ℤ) where
  -- no row of levels costs less than the loss of its division
  no_less : (ds : List ℕ) (ms : List ℤ) → Division (length xs) ds → LevelRow (length xs) ds ms → loss (loss_of g xs) (length xs) ds ≤ row_cost g xs ms
  no_less ds ms h row =
      let k = sum_below (loss_of g xs) (λ a b. row_cost g (stretch_of xs a b) (stretch_of ms a b)) (length xs) 0 ds
      (each_map (λ a b. row_cost g (stretch_of xs a b) (stretch_of ms a b) ≡ cost_at g (stretch_of xs a b) (get_or ms a (pos 0))) (λ a b. loss_of g xs a b ≤ row_cost g (stretch_of xs a b) (stretch_of ms a b))
      (λ a b e. omega (arith, e, (least_of_all g rises (stretch_of xs a b)).least (get_or ms a (pos 0)))) (length xs) 0 ds (one_level g xs ms ds h row)) in
      omega (arith, k, row_splits g xs ms ds h row.as_many)

all_flat : (P : ℤ → Type 0) (k : ℕ) (v : ℤ) → P v → AllByRecursion P (replicate k v)
all_flat P zero v h = tt
all_flat P (suc k) v h = (h, all_flat P k v h)

-- a level for each stretch, which costs its loss
module _ (g : ℕ → ℕ) (xs : List ℤ) (P : ℤ → Type 0) (best : ℕ → ℕ → ℤ) (best-P : (a b : ℕ) → P (best a b)) (best_is : (a b : ℕ) → cost_at g (stretch_of xs a b) (best a b) ≡ loss_of g xs a b) where
  -- a row of levels from a on
  pub record Built (n a : ℕ) (ds : List ℕ) : Type 0 where
    pub row : List ℤ
    pub long : length row ≡ n - a
    pub each : AllByRecursion P row
    pub steady : (i : ℕ) → a + suc i < n → (In (a + suc i) ds → ⊥) → get_or row i (pos 0) ≡ get_or row (suc i) (pos 0)
    pub cost : row_cost g (drop a xs) row ≡ sum_stretches (loss_of g xs) n a ds

  flat : (a b k : ℕ) → length (stretch_of xs a b) ≤ k → row_cost g (stretch_of xs a b) (replicate k (best a b)) ≡ loss_of g xs a b
  flat a b k le =
      same_level g (best a b) (stretch_of xs a b) (replicate k (best a b)) (rw length-replicate le) (λ i t. get_or-replicate k i (best a b) (pos 0) (omega arith))
      ∙ best_is a b

  build : (n : ℕ) → length xs ≡ n → (a : ℕ) (ds : List ℕ) → Rises n a ds → Built n a ds
  build n ex a [] h =
      let p : take (n - a) (drop a xs) ≡ drop a xs = ap (λ (k : ℕ). take (k - a) (drop a xs)) (sym ex) ∙ take_rest xs a in
      let v = best a n in
      record {
        row = replicate (n - a) v;
        long = length-replicate (n - a) v;
        each = all_flat P (n - a) v (best-P a n);
        steady = λ i lt z. get_or-replicate (n - a) i v (pos 0) (omega arith) ∙ sym (get_or-replicate (n - a) (suc i) v (pos 0) (omega arith));
        cost = ap (λ (ys : List ℤ). row_cost g ys (replicate (n - a) v)) (sym p) ∙ flat a n (n - a) (simp (length-take, length-drop) (omega arith));
      }
  build n ex a (b ∷ ds) h =
      let bn : b < n = below n b ds h.1 in
      let ab : a < b = h.0 in
      let k = b - a in
      let v = best a b in
      let front = replicate k v in
      let rest = build n ex b ds h.1 in
      let fk : length front ≡ k = length-replicate k v in
      let p : take k (front ++ rest.row) ≡ front = take_at front rest.row k fk in
      let q : drop k (front ++ rest.row) ≡ rest.row = drop_at front rest.row k fk in
      let r = drop_on xs a b ab in
      let s = cost_split g k (drop a xs) (front ++ rest.row) in
      let s1 : row_cost g (take k (drop a xs)) (take k (front ++ rest.row)) ≡ loss_of g xs a b = ap (row_cost g (take k (drop a xs))) p ∙ flat a b k (simp (length-take, length-drop) (omega arith)) in
      let s2 : row_cost g (drop k (drop a xs)) (drop k (front ++ rest.row)) ≡ sum_stretches (loss_of g xs) n b ds = ap₂ (row_cost g) r q ∙ rest.cost in
      record {
        row = front ++ rest.row;
        long = simp length-append (omega (arith, fk, rest.long));
        each = All-append P front rest.row (all_flat P k v (best-P a b)) rest.each;
        steady = λ i lt z. step i lt z (cases_order (suc i) k) fk rest;
        cost = omega (arith, s, s1, s2);
      }
    where
      step :
          (i : ℕ) → a + suc i < n → (In (a + suc i) (b ∷ ds) → ⊥) → (suc i ≡ b - a) ⊎ ((suc i < b - a) ⊎ (b - a < suc i)) →
          length (replicate (b - a) (best a b)) ≡ b - a → (rest : Built n b ds) →
          get_or (replicate (b - a) (best a b) ++ rest.row) i (pos 0) ≡ get_or (replicate (b - a) (best a b) ++ rest.row) (suc i) (pos 0)
      step i lt z (inl e) fk rest = absurd (z (inl (omega (arith, h.0))))
      step i lt z (inr (inl t)) fk rest =
          get_or_append_left (replicate (b - a) (best a b)) rest.row (pos 0) i (omega arith) ∙ get_or-replicate (b - a) i (best a b) (pos 0) (omega arith)
          ∙ sym (get_or_append_left (replicate (b - a) (best a b)) rest.row (pos 0) (suc i) (omega arith) ∙ get_or-replicate (b - a) (suc i) (best a b) (pos 0) t)
      step i lt z (inr (inr t)) fk rest =
          let e : a + suc i ≡ b + suc (i - (b - a)) = omega (arith, h.0) in
          let f : suc i - (b - a) ≡ suc (i - (b - a)) = omega arith in
          get_or-append_right (replicate (b - a) (best a b)) rest.row (b - a) i (pos 0) fk (omega arith)
          ∙ rest.steady (i - (b - a)) (omega (arith, e)) (λ w. z (inr (in_at (a + suc i) (b + suc (i - (b - a))) ds e w)))
          ∙ sym (get_or-append_right (replicate (b - a) (best a b)) rest.row (b - a) (suc i) (pos 0) fk (omega arith) ∙ ap (λ (j : ℕ). get_or rest.row j (pos 0)) f)

  -- some row of levels costs the loss of its division
  as_much : (ds : List ℕ) → Division (length xs) ds → (ms : List ℤ) × LevelRow (length xs) ds ms × AllByRecursion P ms × (row_cost g xs ms ≡ loss (loss_of g xs) (length xs) ds)
  as_much ds h =
      let t = build (length xs) refl 0 ds h in (
        t.row,
        record { as_many = omega (arith, t.long); steady = λ i lt z. t.steady i (omega arith) (λ w. z (in_at (suc i) (0 + suc i) ds (sym (zero-add (suc i))) w)) },
        t.each,
        t.cost,
      )

module _ (g : ℕ → ℕ) (rises : Rising g) (xs : List ℤ) where
  any_level : (ds : List ℕ) → Division (length xs) ds → (ms : List ℤ) × LevelRow (length xs) ds ms × AllByRecursion (λ _. Unit {0}) ms × (row_cost g xs ms ≡ loss (loss_of g xs) (length xs) ds)
  any_level =
      as_much g xs (λ _. Unit {0}) (λ a b. (least_of_all g rises (stretch_of xs a b)).reached.0) (λ a b. tt) (λ a b. (least_of_all g rises (stretch_of xs a b)).reached.1)

-- what a choice costs beside its levels
extra : Criterion → List ℕ → ℕ
extra (by_penalty p) ds = p * length ds
extra (by_count k) ds = 0

choice_is : (c : Criterion) (g : ℕ → ℕ) (xs : List ℤ) (ds : List ℕ) (ms : List ℤ) → choice_cost c g xs ds ms ≡ row_cost g xs ms + extra c ds
unfolding extra
choice_is (by_penalty p) g xs ds ms = refl
choice_is (by_count k) g xs ds ms = omega arith

total_is : (c : Criterion) (f : ℕ → ℕ → ℕ) (n : ℕ) (ds : List ℕ) → total c f n ds ≡ loss f n ds + extra c ds
unfolding extra
total_is (by_penalty p) f n ds = refl
total_is (by_count k) f n ds = omega arith

won : (c : Criterion) (f : ℕ → ℕ → ℕ) (marks : List Mark) (m n : ℕ) (d : List ℕ) → winner c f marks m n ≡ Some d → Wins c f marks m n d
won c f marks m n d e = ((winner_wins c f marks m n).wins d).0 e

pub winner_solves : WinnerSolves
winner_solves g rises c marks m xs d e =
    let n = length xs in
    let f = loss_of g xs in
    let w = won c f marks m n d e in
    let t = any_level g rises xs d (candidate_divides c marks m n d w.candidate) in
    record {
      candidate = w.candidate;
      reached = (t.0, t.1, omega (arith, t.3, choice_is c g xs d t.0, total_is c f n d));
      least = λ ds ms k row.
          omega (arith, winner_costs_least c f marks m n d ds w k, no_less g rises xs ds ms (candidate_divides c marks m n ds k) row, choice_is c g xs ds ms, total_is c f n ds);
    }

pub winner_kept_between : WinnerKeptBetween
winner_kept_between g rises lo span c marks m xs d fits e =
    let n = length xs in
    let f = loss_of g xs in
    let w = won c f marks m n d e in
    let r : (a b : ℕ) → (v : ℤ) × Between lo span v × (cost_at g (stretch_of xs a b) v ≡ least_of g (stretch_of xs a b)) =
    λ a b. reached_between g rises lo span (stretch_of xs a b) (All-take (Between lo span) (b - a) (drop a xs) (All-drop (Between lo span) a xs fits)) in
    let t = as_much g xs (Between lo span) (λ a b. (r a b).0) (λ a b. (r a b).1) (λ a b. (r a b).2) d (candidate_divides c marks m n d w.candidate) in
    (t.0, t.1, t.2, omega (arith, t.3, choice_is c g xs d t.0, total_is c f n d))

pub no_winner_no_choice : NoWinnerNoChoice
no_winner_no_choice g c marks m xs e = (winner_wins c (loss_of g xs) marks m (length xs)).none.0 e

pub solved_by : (g : ℕ → ℕ) → Rising g → (lo : ℤ) (span dearest : ℕ) (xs : List ℤ) → AllByRecursion (Between lo span) xs → SolvedBy g lo span xs (table_of g dearest xs)
solved_by g rises lo span dearest xs fits = record {
  solves = λ c marks m d e. winner_solves g rises c marks m xs d e;
  between = λ c marks m d e. winner_kept_between g rises lo span c marks m xs d fits e;
  none = λ c marks m e. no_winner_no_choice g c marks m xs e;
}
