-- Readings that are offered together: each of those that fit is taken in its turn.
use Rattle.std.proofs.Common.{◌≡◌, ℕ, ◌+◌, ◌<◌, ◌≤◌, true, ltb, leb, List, [], ◌∷◌, ◌++◌, length, get_or, take, ℤ, pos, Ok, Err, sym, ap, ◌∙◌, append_assoc, arith}
use Rattle.std.proofs.lemmas.List.{length-append, length-take, take_more}
use Rattle.std.proofs.lemmas.List.Sums.{AllPass-from_list_all}
use Rattle.std.proofs.lemmas.Bool.Decides.{nat_tests}
use Rattle.fault.specs.declared.Fault.{Fault}
use Rattle.leaves.specs.Taking.{between, all_between, taken, after, gathered, after_all}

module _ (lo : ℤ) (span : ℕ) (ys : List ℤ) where
  each_between : all_between lo span ys ≡ true → (i : ℕ) → i < length ys → between lo span (get_or ys i (pos 0)) ≡ true
  each_between h i lt = AllPass-from_list_all (between lo span) ys h i (pos 0) lt

  -- the next of those that fit, where those before it are taken
  module _ (was : List ℤ) (fit : all_between lo span ys ≡ true) (room : length was + length ys ≤ 512) (i : ℕ) (lt : i < length ys) (xs : List ℤ) (so_far : xs ≡ was ++ take i ys) where
    one_more : (taken lo span xs (get_or ys i (pos 0)) ≡ Ok tt) × (after lo span xs (get_or ys i (pos 0)) ≡ xs ++ get_or ys i (pos 0) ∷ [])
    one_more =
        let b = each_between fit i lt in
        let n : length xs ≡ length was + length (take i ys) = ap length so_far ∙ length-append was (take i ys) in
        let l : ltb (length xs) 512 ≡ true = grind (arith, nat_tests, length-take i ys) in
        (simp (b, l), simp (b, l))

    pub next_taken : after lo span xs (get_or ys i (pos 0)) ≡ was ++ take (i + 1) ys
    next_taken =
        one_more.1 ∙ ap (λ (zs : List ℤ). zs ++ get_or ys i (pos 0) ∷ []) so_far ∙ append_assoc was (take i ys) (get_or ys i (pos 0) ∷ [])
        ∙ ap (λ (zs : List ℤ). was ++ zs) (sym (take_more ys i (pos 0) lt))

    pub none_refused : (f : Fault) → Err f ≡ taken lo span xs (get_or ys i (pos 0)) → ⊥
    none_refused f h = let z : ◌≡◌ {A = ℕ} 0 1 = cc (h, one_more.0) in omega arith

  pub all_taken : (was : List ℤ) → all_between lo span ys ≡ true → length was + length ys ≤ 512 → (Ok tt ≡ gathered lo span was ys) × (was ++ ys ≡ after_all lo span was ys)
  all_taken was b room = let l : leb (length was + length ys) 512 ≡ true = grind (arith, nat_tests) in (simp (b, l), simp (b, l))
