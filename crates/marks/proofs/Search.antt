-- What the searches of the marks find, in the words of laying and lifting.
use Rattle.std.proofs.Common.{◌≡◌, ℕ, ◌+◌, ◌<◌, ◌≤◌, ◌⊎◌, Bool, true, false, cond, ◌||◌, List, [], ◌∷◌, length, Option, Some, None, refl, ap, ◌∙◌, inl, inr, suc, arith, nat_lt}
use Rattle.std.proofs.lemmas.Bool.{lt-ltb, le-ltb, cases_lt}
use Rattle.std.proofs.lemmas.List.Sums.{prefix_len-le-length}
use Rattle.std.specs.Prelude.{◌==◌, not, MatchOption, unwrap_or}
use Rattle.std.specs.List.{insert, remove, position, position_or_len}
use Rattle.division.specs.declared.mark.Mark.{Mark}
use Rattle.marks.specs.Marks.{laid, begins_at, lifted}

-- a mark is laid where the first stands that begins after it
pub laid_at : (m : Mark) (xs : List Mark) → laid m xs ≡ insert xs (position_or_len (λ x. nat_lt m.first x.first) xs) m
laid_at m [] = refl
laid_at m (x ∷ xs) = go (nat_lt m.first x.first) (position_or_len (λ y. nat_lt m.first y.first) xs) (laid m xs) (laid_at m xs)
  where
    go : (after : Bool) (k : ℕ) (ys : List Mark) → ys ≡ insert xs k m → cond after (m ∷ x ∷ xs) (x ∷ ys) ≡ insert (x ∷ xs) (cond (not after) (1 + k) 0) m
    go true k ys e = refl
    go false k ys e = let one : 1 + k ≡ suc k = omega arith in rw one (ap (λ zs. x ∷ zs) e)

-- the place k of the mark that begins there, or the length where none does
record LiftedAt (begins : Bool) (ys xs : List Mark) (k : ℕ) : Type 0 where
  pub found : k < length xs → (begins ≡ true) × (ys ≡ remove xs k)
  pub none : length xs ≤ k → begins ≡ false

lifted_from : (first : ℕ) (xs : List Mark) → LiftedAt (begins_at first xs) (lifted first xs) xs (position_or_len (λ x. x.first == first) xs)
lifted_from first [] = record { found = λ h. absurd (omega arith); none = λ h. refl }
lifted_from first (x ∷ xs) = go (x.first == first) (position_or_len (λ y. y.first == first) xs) (begins_at first xs) (lifted first xs) (lifted_from first xs)
  where
    go : (here : Bool) (k : ℕ) (begins : Bool) (ys : List Mark) → LiftedAt begins ys xs k
        → LiftedAt (here || begins) (cond here xs (x ∷ ys)) (x ∷ xs) (cond (not here) (1 + k) 0)
    go true k begins ys l = record { found = λ h. (refl, refl); none = λ h. absurd (omega arith) }
    go false k begins ys l = record {
      found = λ h. let f = l.found (omega arith) in let one : 1 + k ≡ suc k = omega arith in (f.0, rw one (ap (λ zs. x ∷ zs) f.1));
      none = λ h. l.none (omega arith);
    }

-- the search for the first mark that begins later, and what is laid
pub laid_by : (m : Mark) (xs ys : List Mark) (n at : ℕ) (o : Option ℕ)
    → ys ≡ xs → n ≡ length xs → o ≡ position (λ x. nat_lt m.first x.first) ys → at ≡ unwrap_or o n → laid m xs ≡ insert xs at m
laid_by m xs ys n at o same whole is_o is_at =
    let o_is : o ≡ position (λ x. nat_lt m.first x.first) xs = rw same at is_o in
    let at_is : at ≡ position_or_len (λ x. nat_lt m.first x.first) xs = is_at ∙ ap (λ p. unwrap_or p n) o_is ∙ go (position_or_len (λ x. nat_lt m.first x.first) xs) (prefix_len-le-length (λ x. not (nat_lt m.first x.first)) xs) (cases_lt (position_or_len (λ x. nat_lt m.first x.first) xs) (length xs)) in
    rw at_is (laid_at m xs)
  where
    go : (k : ℕ) → k ≤ length xs → (k < length xs) ⊎ (length xs ≤ k) → unwrap_or (cond (nat_lt k (length xs)) (Some k) None) n ≡ k
    go k most (inl h) = rw (lt-ltb k (length xs) h) refl
    go k most (inr h) = rw (le-ltb k (length xs) h) (omega arith)

-- the search for the mark that begins there, and what is lifted
pub lifted_by : (first : ℕ) (xs ys : List Mark) (o : Option ℕ) → ys ≡ xs → o ≡ position (λ x. x.first == first) ys
    → MatchOption o (begins_at first xs ≡ false)
    (λ i. (begins_at first xs ≡ true) × (lifted first xs ≡ remove xs i) × (i < length xs))
lifted_by first xs ys o same is_o = rw (is_o, same) (go (position_or_len (λ x. x.first == first) xs) (cases_lt (position_or_len (λ x. x.first == first) xs) (length xs)) (lifted_from first xs))
  where
    go : (k : ℕ) → (k < length xs) ⊎ (length xs ≤ k) → LiftedAt (begins_at first xs) (lifted first xs) xs k
        → MatchOption (cond (nat_lt k (length xs)) (Some k) None) (begins_at first xs ≡ false)
        (λ i. (begins_at first xs ≡ true) × (lifted first xs ≡ remove xs i) × (i < length xs))
    go k (inl h) l = let f = l.found h in rw (lt-ltb k (length xs) h) (f.0, f.1, h)
    go k (inr h) l = rw (le-ltb k (length xs) h) (l.none h)
