-- What is kept, with one reading more.
use Rattle.std.proofs.Common.{◌≡◌, ℕ, ◌+◌, ◌<◌, ◌≤◌, ◌≢◌, List, [], ◌∷◌, ◌++◌, length, get_or, take, set, sym, ap, ◌∙◌, inl, inr, arith, get_or-set_other, get_or-set_same, length-append}
use Rattle.std.proofs.lemmas.List.{length-set, length-take, take-append-le, take_all}
use Rattle.std.proofs.lemmas.List.Sums.{sum_by_push, sum_by-le}
use Rattle.std.proofs.lemmas.Bool.Decides.{nat_tests, leb_tells, eqb_tells}
use Rattle.std.specs.List.{sum_by}
use Rattle.leaves.specs.declared.votes.Votes.{Votes}
use Rattle.leaves.specs.Kept.{hit, Counts, Wide}

-- the first i of the distances, with one more behind them: as before, or all of them
front_of : (us : List ℕ) (u i : ℕ) → i ≤ length us → take i (us ++ u ∷ []) ≡ take i us
front_of us u i h = take-append-le i us (u ∷ []) h

whole : (us : List ℕ) (u : ℕ) → take (length us + 1) (us ++ u ∷ []) ≡ us ++ u ∷ []
whole us u = take_all (length us + 1) (us ++ u ∷ []) (omega (arith, length-append us (u ∷ [])))

all_of : (us : List ℕ) → take (length us) us ≡ us
all_of us = take_all (length us) us (omega arith)

-- the last place of one more is one of the old places, or the new one
at_most : (us : List ℕ) (u i : ℕ) → i ≤ length (us ++ u ∷ []) → i ≤ length us + 1
at_most us u i h = omega (arith, length-append us (u ∷ []))

-- a count one higher
abbrev one_up : List ℕ → ℕ → List ℕ
one_up row u = set row u (get_or row u 0 + 1)

one_up_is : (row : List ℕ) (u k : ℕ) → u < length row → get_or (one_up row u) k 0 ≡ get_or row k 0 + hit k u
one_up_is row u k lt =
    elim (eqb_tells u k) [
      | inl t ↦ (
          let e = t.0 in
          let p : get_or (one_up row u) u 0 ≡ get_or row u 0 + 1 = rw get_or-set_same in
          simp e (rw (← t.1) p))
      | inr t ↦ (
          let e = t.0 in
          let ne : k ≢ u = λ z. t.1 (sym z) in
          let p : get_or (one_up row u) k 0 ≡ get_or row k 0 = rw get_or-set_other in
          simp e (omega (arith, p)))
    ]

counts_more : (us : List ℕ) (rows : List (List ℕ)) (u : ℕ) → length us + 1 < length rows → u < length (get_or rows (length us) []) → Counts us rows
    → Counts (us ++ u ∷ []) (set rows (length us + 1) (one_up (get_or rows (length us) []) u))
counts_more us rows u lr lw h i k le =
    let n = length us in
    let w = one_up (get_or rows n []) u in
    elim (leb_tells i n) [
      | inl t ↦ (
          let ne : i ≢ (n + 1) = omega (arith, t.1) in
          let p : get_or (set rows (n + 1) w) i [] ≡ get_or rows i [] = rw get_or-set_other in
          ap (λ (r : List ℕ). get_or r k 0) p ∙ h i k t.1 ∙ ap (sum_by (hit k)) (sym (front_of us u i t.1)))
      | inr t ↦ (
          let ie : i ≡ n + 1 = omega (arith, t.1, at_most us u i le) in
          let p : get_or (set rows (n + 1) w) (n + 1) [] ≡ w = rw get_or-set_same in
          let old : get_or (get_or rows n []) k 0 ≡ sum_by (hit k) us = h n k (omega arith) ∙ ap (sum_by (hit k)) (all_of us) in
          let new : sum_by (hit k) (take (n + 1) (us ++ u ∷ [])) ≡ sum_by (hit k) us + hit k u = ap (sum_by (hit k)) (whole us u) ∙ sum_by_push (hit k) us u in
          rw ie (ap (λ (r : List ℕ). get_or r k 0) p ∙ one_up_is (get_or rows n []) u k lw ∙ ap (λ (m : ℕ). m + hit k u) old ∙ sym new))
    ]

wide_more : (n : ℕ) (rows : List (List ℕ)) (u : ℕ) → n + 1 < length rows → n < 512 → Wide rows → Wide (set rows (n + 1) (one_up (get_or rows n []) u))
wide_more n rows u lr room h i lt =
    elim (eqb_tells i (n + 1)) [
      | inl t ↦ (
          let e = t.1 in
          let p : get_or (set rows (n + 1) (one_up (get_or rows n []) u)) (n + 1) [] ≡ one_up (get_or rows n []) u = rw get_or-set_same in
          rw (e, p) (length-set (get_or rows n []) u (get_or (get_or rows n []) u 0 + 1) ∙ h n (omega arith)))
      | inr t ↦ (
          let ne : i ≢ (n + 1) = t.1 in
          let p : get_or (set rows (n + 1) (one_up (get_or rows n []) u)) i [] ≡ get_or rows i [] = rw get_or-set_other in
          rw p (h i lt))
    ]

hit_le : (k u : ℕ) → hit k u ≤ 1
hit_le k u = grind (arith, nat_tests)

module _ (x : Votes) where
  abbrev us : List ℕ
  us = x.held.distances.items

  -- a count has room for one more
  pub count_fits : (n k : ℕ) → n ≡ length us → get_or (get_or x.counts n []) k 0 ≤ 512
  count_fits n k e =
      let s = sum_by-le (hit k) 1 (take n us) (λ i d h. hit_le k (get_or (take n us) i d)) in
      omega (arith, x.tallied n k (omega arith), s, length-take n us, x.held.few)

  -- the rows, with one reading more of the class u
  pub record Tallied (more : List ℕ) (rows : List (List ℕ)) : Type 0 where
    pub wide : Wide rows
    pub tallied : Counts more rows

  pub tallied_more : (n k u : ℕ) (more : List ℕ) → n ≡ length us → k ≡ u → more ≡ us ++ u ∷ [] → length us < 512 → u ≤ 15 → length x.counts ≡ 513
      → Tallied more (set x.counts (n + 1) (one_up (get_or x.counts n []) k))
  tallied_more n k u more en ek em room small rows =
      let lw : length (get_or x.counts (length us) []) ≡ 16 = x.wide (length us) (omega arith) in
      rw (en, ek, em)
      (record { wide = wide_more (length us) x.counts u (omega arith) room x.wide; tallied = counts_more us x.counts u (omega arith) (omega (arith, lw)) x.tallied })
