-- `all_divisions n` has every division of n readings, and nothing else.
use Rattle.std.proofs.Common.{◌≡◌, ℕ, zero, suc, ◌+◌, ◌<◌, ◌≤◌, ◌⊎◌, List, [], ◌∷◌, ◌++◌, map, length, refl, ap, inl, inr, arith}
use Rattle.std.proofs.lemmas.Bool.{cases_order}
use Rattle.division.specs.Division.{EachStretch, Division, choices, all_divisions}
use Rattle.division.specs.Theorems.{In, AllListed}

pub in_left : {A : Type 0} (x : A) (xs ys : List A) → In x xs → In x (xs ++ ys)
in_left x [] ys h = absurd h
in_left x (y ∷ xs) ys (inl h) = inl h
in_left x (y ∷ xs) ys (inr h) = inr (in_left x xs ys h)

pub in_right : {A : Type 0} (x : A) (xs ys : List A) → In x ys → In x (xs ++ ys)
in_right x [] ys h = h
in_right x (y ∷ xs) ys h = inr (in_right x xs ys h)

pub in_map : {A B : Type 0} (f : A → B) (x : A) (xs : List A) → In x xs → In (f x) (map f xs)
in_map f x [] h = absurd h
in_map f x (y ∷ xs) (inl h) = inl (ap f h)
in_map f x (y ∷ xs) (inr h) = inr (in_map f x xs h)

pub below : (n a : ℕ) (ds : List ℕ) → EachStretch (λ x y. x < y) n a ds → a < n
below n a [] h = h
below n a (b ∷ ds) h = let k : b < n = below n b ds h.1 in omega arith

-- a division has fewer boundaries than the line has readings
pub few_boundaries : (n a : ℕ) (ds : List ℕ) → EachStretch (λ x y. x < y) n a ds → a + length ds < n
few_boundaries n a [] h = omega arith
few_boundaries n a (b ∷ ds) h = omega (arith, h.0, few_boundaries n b ds h.1)

-- ds is empty, or its first gap is g or later
abbrev From : ℕ → ℕ → List ℕ → Type 0
From g n [] = Unit {0}
From g n (b ∷ ds) = (g ≤ b) × EachStretch (λ x y. x < y) n b ds

after : (n a : ℕ) (ds : List ℕ) → EachStretch (λ x y. x < y) n a ds → From (suc a) n ds
after n a [] h = tt
after n a (b ∷ ds) h = h

listed : (k g n : ℕ) (ds : List ℕ) → n ≡ g + k → From g n ds → In ds (choices g k)
listed zero g n [] e h = inl refl
listed zero g n (b ∷ ds) e h = let j : b < n = below n b ds h.1 in absurd (omega arith)
listed (suc k) g n [] e h = in_left [] (choices (suc g) k) (map (λ ds. g ∷ ds) (choices (suc g) k)) (listed k (suc g) n [] (omega arith) tt)
listed (suc k) g n (b ∷ ds) e h =
    go (cases_order b g) (λ l. listed k (suc g) n (b ∷ ds) (omega arith) (l, h.1)) (λ r. listed k (suc g) n ds (omega arith) r)
  where
    go :
        (b ≡ g) ⊎ ((b < g) ⊎ (g < b)) →
        (g < b → In (b ∷ ds) (choices (suc g) k)) →
        (From (suc g) n ds → In ds (choices (suc g) k)) →
        In (b ∷ ds) (choices g (suc k))
    go (inl q) past here =
        in_right (b ∷ ds) (choices (suc g) k) (map (λ ds. g ∷ ds) (choices (suc g) k))
        (rw q (in_map (λ ds. g ∷ ds) ds (choices (suc g) k) (here (after n g ds (rw q at h.1)))))
    go (inr (inl q)) past here = absurd (omega arith)
    go (inr (inr q)) past here = in_left (b ∷ ds) (choices (suc g) k) (map (λ ds. g ∷ ds) (choices (suc g) k)) (past q)

pub every_division_listed : (n : ℕ) (ds : List ℕ) → Division n ds → In ds (all_divisions n)
unfolding all_divisions
every_division_listed zero ds h = let j : 0 < 0 = below 0 0 ds h in absurd (omega arith)
every_division_listed (suc k) ds h = listed k 1 (suc k) ds (omega arith) (after (suc k) 0 ds h)

in_append : {A : Type 0} (x : A) (xs ys : List A) → In x (xs ++ ys) → In x xs ⊎ In x ys
in_append x [] ys h = inr h
in_append x (y ∷ xs) ys (inl h) = inl (inl h)
in_append x (y ∷ xs) ys (inr h) = go (in_append x xs ys h)
  where
    go : In x xs ⊎ In x ys → In x (y ∷ xs) ⊎ In x ys
    go (inl k) = inl (inr k)
    go (inr k) = inr k

-- what is in the image comes from what is in the list
from_map : {A B : Type 0} (f : A → B) (y : B) (xs : List A) → In y (map f xs) → (x : A) × In x xs × (y ≡ f x)
from_map f y [] h = absurd h
from_map f y (x ∷ xs) (inl h) = (x, inl refl, h)
from_map f y (x ∷ xs) (inr h) = let r = from_map f y xs h in (r.0, inr r.1, r.2)

-- a choice of the gaps from g on begins at g or later, and rises
chosen : (k g n a : ℕ) (ds : List ℕ) → n ≡ g + k → a < g → In ds (choices g k) → EachStretch (λ x y. x < y) n a ds
chosen zero g n a ds e l (inl h) = rw h (omega arith)
chosen zero g n a ds e l (inr h) = absurd h
chosen (suc k) g n a ds e l h =
    go (in_append ds (choices (suc g) k) (map (λ ds. g ∷ ds) (choices (suc g) k)) h)
    (λ j. chosen k (suc g) n a ds (omega arith) (omega arith) j)
    (λ es j. chosen k (suc g) n g es (omega arith) (omega arith) j)
  where
    go :
        In ds (choices (suc g) k) ⊎ In ds (map (λ ds. g ∷ ds) (choices (suc g) k)) →
        (In ds (choices (suc g) k) → EachStretch (λ x y. x < y) n a ds) →
        ((es : List ℕ) → In es (choices (suc g) k) → EachStretch (λ x y. x < y) n g es) →
        EachStretch (λ x y. x < y) n a ds
    go (inl j) past here = past j
    go (inr j) past here = let r = from_map (λ ds. g ∷ ds) ds (choices (suc g) k) j in rw r.2 (l, here r.0 r.1)

only_divisions_listed : (n : ℕ) (ds : List ℕ) → In ds (all_divisions n) → Division n ds
unfolding all_divisions
only_divisions_listed zero ds h = absurd h
only_divisions_listed (suc k) ds h = chosen k 1 (suc k) 0 ds (omega arith) (omega arith) h

pub all_listed : AllListed
all_listed n ds = (only_divisions_listed n ds, every_division_listed n ds)
