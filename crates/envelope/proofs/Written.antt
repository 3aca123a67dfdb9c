-- What the walk has written so far.
use Rattle.std.proofs.Common.{◌≡◌, ℕ, zero, suc, ◌+◌, ◌<◌, ◌≤◌, ◌≢◌, List, [], ◌∷◌, ◌++◌, length, drop, Some, None, sym, refl, ap, ◌∙◌, subst, arith, length-append, length-set, drop-set-lt}
use Rattle.list.specs.declared.List.{List as Lent}
use Rattle.list.specs.Entries.{entries, places}
use Rattle.envelope.specs.declared.Step.{Step}
use Rattle.envelope.specs.Path.{path_at, path_steps, steps_below, losses_in, largest_penalty, Cheapest}
use Rattle.envelope.specs.Next.{Follows, Next, Added, Holding}
use Rattle.envelope.proofs.Named.{path_names_cheapest}
use Rattle.envelope.proofs.Along.{still, onward, first}

pub record Walked (row : List ℕ) (o l : Lent Step) (s : Step) : Type 0 where
  pub written : entries l ≡ steps_below (losses_in row) (length row) (suc s.penalty)
  pub best : path_at (losses_in row) s.penalty (length row) ≡ Some s
  pub within : s.penalty ≤ largest_penalty
  pub some : 0 < length (entries l)
  pub room : length (entries l) + s.count ≤ length row
  pub long : length row ≤ length (places l)
  pub as_many : length (places l) ≡ length (places o)
  pub past : drop (length (entries l)) (places l) ≡ drop (length (entries l)) (places o)
  pub lender : l.items.ghost_name ≡ o.items.ghost_name

grown : (l l' : Lent Step) (s : Step) → Added l l' s → length (entries l') ≡ length (entries l) + 1
grown l l' s a = ap length a.entries_are ∙ length-append (entries l) (s ∷ [])

as_long : (l l' : Lent Step) (s : Step) → Added l l' s → length (places l') ≡ length (places l)
as_long l l' s a = ap length a.places_are ∙ length-set _ _ _

pub begun : (row : List ℕ) (o l : Lent Step) (s : Step) → path_at (losses_in row) 0 (length row) ≡ Some s → length row ≤ length (places o) → entries o ≡ [] → Added o l s → Walked row l l s
begun row o l s e h z a =
    let u : Cheapest (losses_in row) (length row) 0 s = ((path_names_cheapest (losses_in row) (length row) 0).some s).0 e in
    let p : s.penalty ≡ 0 = u.penalty_is in
    let c : s.count < length row = u.below in
    let g : length (entries l) ≡ length (entries o) + 1 = grown o l s a in
    let zero-long : length (entries o) ≡ 0 = ap length z in
    record {
      written = a.entries_are ∙ ap (λ x. x ++ s ∷ []) z ∙ sym (first (losses_in row) (length row) s e);
      best = subst (λ (q : ℕ). path_at (losses_in row) q (length row) ≡ Some s) (sym p) e;
      within = omega arith;
      some = omega arith;
      room = omega arith;
      long = omega (arith, as_long o l s a);
      as_many = refl;
      past = refl;
      lender = refl;
    }

pub again : (row : List ℕ) (o l l' : Lent Step) (s t : Step) → Walked row o l s → Follows (losses_in row) (length row) s t → Added l l' t → Walked row o l' t
again row o l l' s t w f a =
    let g : length (entries l') ≡ length (entries l) + 1 = grown l l' t a in
    let fewer : t.count < s.count = f.fewer in
    let d : s.count ≢ t.count = omega arith in
    let r : length (entries l) + s.count ≤ length row = w.room in
    let lt : length (entries l) < length (entries l') = omega arith in
    record {
      written = a.entries_are ∙ ap (λ x. x ++ t ∷ []) w.written ∙ sym (onward (losses_in row) (length row) s t f.until f.later f.best d);
      best = f.best;
      within = f.within;
      some = omega arith;
      room = omega arith;
      long = omega (arith, as_long l l' t a, w.long);
      as_many = as_long l l' t a ∙ w.as_many;
      past =
          ap (drop (length (entries l'))) a.places_are ∙ drop-set-lt (length (entries l')) (places l) (length (entries l)) t lt
          ∙ past_more (length (entries l)) (places l) (places o) w.past (length (entries l')) g;
      lender = a.lender ∙ w.lender;
    }
  where
    drop_one : (n : ℕ) (xs ys : List Step) → drop n xs ≡ drop n ys → drop (suc n) xs ≡ drop (suc n) ys
    drop_one n xs ys e = sym (drop_drop_one n xs) ∙ ap (drop 1) e ∙ drop_drop_one n ys
      where
        drop_drop_one : (n : ℕ) (xs : List Step) → drop 1 (drop n xs) ≡ drop (suc n) xs
        drop_drop_one zero xs = refl
        drop_drop_one (suc n) [] = refl
        drop_drop_one (suc n) (x ∷ xs) = drop_drop_one n xs

    past_more : (n : ℕ) (xs ys : List Step) → drop n xs ≡ drop n ys → (k : ℕ) → k ≡ n + 1 → drop k xs ≡ drop k ys
    past_more n xs ys e k h = let q : suc n ≡ k = omega arith in subst (λ (k : ℕ). drop k xs ≡ drop k ys) q (drop_one n xs ys e)

pub ended : (row : List ℕ) (i o b l : Lent Step) (s t : Step) → places o ≡ places i → o.items.ghost_name ≡ i.items.ghost_name → entries o ≡ [] → Added o b t → Walked row b l s → Next (losses_in row) (length row) s None → Holding (path_steps (losses_in row) (length row)) i l
ended row i o b l s t p m z a w h =
    let e : entries l ≡ path_steps (losses_in row) (length row) = w.written ∙ sym (still (losses_in row) (length row) s (largest_penalty + 1) (largest_penalty + 1) (h (largest_penalty + 1)) (omega (arith, w.within)) (omega arith)) in
    let zero-long : length (entries o) ≡ 0 = ap length z in
    let lt : length (entries o) < length (entries l) = omega (arith, w.some) in
    record {
      entries_are = e;
      past =
          subst (λ (xs : List Step). drop (length xs) (places l) ≡ drop (length xs) (places i)) e
          (w.past ∙ ap (drop (length (entries l))) a.places_are ∙ drop-set-lt (length (entries l)) (places o) (length (entries o)) t lt ∙ ap (drop (length (entries l))) p);
      lender = w.lender ∙ a.lender ∙ m;
    }

-- as many places at the end as at the beginning
pub kept_long : (row : List ℕ) (i o b l : Lent Step) (s t : Step) → places o ≡ places i → Added o b t → Walked row b l s → length (places l) ≡ length (places i)
kept_long row i o b l s t p a w = w.as_many ∙ as_long o b t a ∙ ap length p
