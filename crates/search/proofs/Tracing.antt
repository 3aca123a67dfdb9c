-- The starts that a trace keeps.
use Rattle.std.proofs.Common.{◌≡◌, ℕ, zero, suc, ◌+◌, ◌-◌, ◌*◌, ◌<◌, ◌≤◌, false, cond, eqb, List, [], ◌∷◌, length, get_or, take, drop, set, Some, None, Option, sym, refl, ap, ◌∙◌, subst, add-mul, one-mul, zero-mul, arith}
use native.Mathlib.Decide.{dec_lt}
use Rattle.std.proofs.lemmas.List.{drop-set}
use Rattle.std.proofs.lemmas.Bool.{cond-false}
use Rattle.std.proofs.lemmas.Bool.Decides.{nat_tests}
use Rattle.tally.specs.Order.{Tallying, Order, Strict}
use Rattle.search.specs.Starts.{Stages, Starts, Falling, exactly, boundaries_of}
use Rattle.search.specs.Rows.{Entry, Found, Traced, kept_start, start_at, row_before, part}
use Rattle.search.proofs.Optimal.{best_starts, best_wins}

pub starts_fall : {S : Type 0} (n : Stages S) (s : S) (t : ℕ) (ds : List ℕ) → Starts n s t ds → Falling t ds
starts_fall n s t [] h = n.at_zero s t h
starts_fall n s t (a ∷ more) h = (h.0, starts_fall n (n.prev s) a more h.2)

pub traced_one : {S : Type 0} (prev : S → S) (start-for : S → ℕ → ℕ) (s : S) (t : ℕ) (ds es : List ℕ) → Falling t ds → Falling t es → Traced prev start-for s t ds → Traced prev start-for s t es → ds ≡ es
traced_one prev start-for s t [] [] f h p q = refl
traced_one prev start-for s t [] (b ∷ bs) f h p q = absurd (omega (arith, f, h.0))
traced_one prev start-for s t (a ∷ more) [] f h p q = absurd (omega (arith, h, f.0))
traced_one prev start-for s t (a ∷ more) (b ∷ bs) f h p q =
    let e : a ≡ b = sym p.0 ∙ q.0 in
    let same : more ≡ bs = traced_one prev start-for (prev s) b more bs (subst (λ x. Falling x more) e f.1) h.1 (subst (λ x. Traced prev start-for (prev s) x more) e p.1) q.1 in
    ap (λ x. x ∷ more) e ∙ ap (λ (x : List ℕ). b ∷ x) same

-- one more entry before a part
pub part_more : (xs : List ℕ) (i end a : ℕ) → i < length xs → i < end → part i end (set xs i a) ≡ a ∷ part (i + 1) end xs
part_more xs i end a lt le =
    let k : end - i ≡ suc (end - (i + 1)) = omega arith in
    ap (λ (l : List ℕ). take (end - i) l) (drop-set xs i a lt) ∙ ap (λ (n : ℕ). take n (a ∷ drop (i + 1) xs)) k

pub part_none : (xs : List ℕ) (end : ℕ) → part end end xs ≡ []
part_none xs end = let k : end - end ≡ 0 = omega arith in ap (λ (n : ℕ). take n (drop end xs)) k

-- the first step back
pub first_back : (prev : ℕ → ℕ) (start-for : ℕ → ℕ → ℕ) (s t : ℕ) → 0 < t → (ds : List ℕ) → Falling t ds → Traced prev start-for s t ds
    → (start-for s t < t) × ((more : List ℕ) × Falling (start-for s t) more × Traced prev start-for (prev s) (start-for s t) more × (ds ≡ start-for s t ∷ more))
first_back prev start-for s t pos [] f h = absurd (omega (arith, f))
first_back prev start-for s t pos (a ∷ more) f h =
    let e : a ≡ start-for s t = sym h.0 in
    (subst (λ x. x < t) e f.0, (more, subst (λ x. Falling x more) e f.1, subst (λ x. Traced prev start-for (prev s) x more) e h.1, ap (λ x. x ∷ more) e))

pub at_zero : (a : ℕ) (more rest : List ℕ) → a ≤ 0 → Falling a more → boundaries_of (a ∷ more) rest ≡ rest
at_zero a [] rest le f = refl
at_zero a (b ∷ more) rest le f = absurd (omega (arith, f.0))

-- a trace of one row
pub one_row : (trace : List ℕ) (r t : ℕ) (ds : List ℕ) → r ≡ 0 → Traced (λ (x : Unit {0}). x) (λ _ x. get_or trace x 0) tt t ds → Traced (row_before 0) (start_at trace) r t ds
one_row trace r t [] z h = tt
one_row trace r t (a ∷ more) z h = let e : r + t ≡ t = omega arith in (ap (λ x. get_or trace x 0) e ∙ h.0, one_row trace (r - 0) a more (omega arith) h.1)

row_less : (s w : ℕ) → (s - 1) * w ≡ s * w - w
row_less zero w = omega (arith, zero-mul w)
row_less (suc s) w =
    let e : suc s ≡ s + 1 = omega arith in
    let d : suc s * w ≡ s * w + w = ap (λ (x : ℕ). x * w) e ∙ add-mul s 1 w ∙ ap (λ (x : ℕ). s * w + x) (one-mul w) in
    let f : suc s - 1 ≡ s = omega arith in
    ap (λ (x : ℕ). x * w) f ∙ (let g : s * w ≡ suc s * w - w = omega arith in g)

not_zero : (s : ℕ) → 0 < s → eqb s 0 ≡ false
not_zero s h = grind (arith, nat_tests)

pub kept_start_at : (trace : List ℕ) (w j t : ℕ) → kept_start trace w (j + 1) t ≡ get_or trace (j * w + t) 0
kept_start_at trace w j t =
    let e : j + 1 - 1 ≡ j = omega arith in
    cond-false (eqb (j + 1) 0) 0 _ (not_zero (j + 1) (omega arith)) ∙ ap (λ (x : ℕ). get_or trace (x * w + t) 0) e

pub kept_start_same : (trace trace' : List ℕ) (w k t : ℕ) → (0 < k → get_or trace' ((k - 1) * w + t) 0 ≡ get_or trace ((k - 1) * w + t) 0) → kept_start trace' w k t ≡ kept_start trace w k t
kept_start_same trace trace' w k t h =
    elim (dec_lt 0 k) [
      | yes pos ↦ ap (λ (x : ℕ). cond (eqb k 0) 0 x) (h pos)
      | no z ↦ (let e : k ≡ 0 = omega arith in subst (λ (k : ℕ). kept_start trace' w k t ≡ kept_start trace w k t) (sym e) refl)
    ]

-- a trace with a row for each stage
pub by_rows : (can : ℕ → ℕ → Type 0) (trace : List ℕ) (w s r t : ℕ) (ds : List ℕ) → r ≡ (s - 1) * w → Starts (exactly can) s t ds → Traced (λ s. s - 1) (kept_start trace w) s t ds → Traced (row_before w) (start_at trace) r t ds
by_rows can trace w s r t [] e starts h = tt
by_rows can trace w s r t (a ∷ more) e starts h = (
  ap (λ (x : ℕ). get_or trace (x + t) 0) e ∙ sym (cond-false (eqb s 0) 0 (get_or trace ((s - 1) * w + t) 0) (not_zero s starts.1.0)) ∙ h.0,
  by_rows can trace w (s - 1) (r - w) a more (ap (λ (x : ℕ). x - w) e ∙ sym (row_less (s - 1) w)) starts.2 h.1,
)

module _ {V S : Type 0} (m : Tallying V) (n : Stages S) (order : Order m.below) (strict : Strict m) (fits : V → Type 0) (s : S) (t : ℕ) (kept read : List ℕ → Type 0)
    (reads : (ds : List ℕ) → Starts n s t ds → kept ds → read ds) (o : Option V) (entry : Entry m n kept s t o) (v : V) where
  there : Some v ≡ o → Entry m n kept s t (Some v)
  there e = subst (λ x. Entry m n kept s t x) (sym e) entry

  pub leads : Some v ≡ o → (ds : List ℕ) × Falling t ds × read ds
  leads e = let h = there e in let starts = best_starts m n order s t h.0 h.1 in (h.0, starts_fall n s t h.0 starts, reads h.0 starts h.3)

  pub found_some : Some v ≡ o → (end : ℕ) (list : List ℕ) (from : ℕ) → fits v → from ≤ end → ((ds : List ℕ) → Falling t ds → read ds → part from end list ≡ boundaries_of ds []) → Found m n fits s t end list (Some (v, from))
  found_some e end list from fit le boundaries =
      let h = there e in
      let starts = best_starts m n order s t h.0 h.1 in
      (h.0, best_wins m n order strict s t h.0 h.1, h.2, fit, le, boundaries h.0 (starts_fall n s t h.0 starts) (reads h.0 starts h.3))

pub found_none : {V S : Type 0} (m : Tallying V) (n : Stages S) (fits : V → Type 0) (s : S) (t end : ℕ) (kept : List ℕ → Type 0) (list : List ℕ) (o : Option V) → Entry m n kept s t o → None ≡ o → Found m n fits s t end list None
found_none m n fits s t end kept list o entry e = subst (λ x. Entry m n kept s t x) (sym e) entry
