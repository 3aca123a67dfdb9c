-- `winner` gives the one that wins.
use Rattle.std.proofs.Common.{◌≡◌, ℕ, ◌<◌, ◌≤◌, Bool, true, false, cond, ◌⊎◌, List, [], ◌∷◌, Some, None, Decides, filter, Option, sym, refl, ap, ◌∙◌, subst, inl, inr, arith}
use Rattle.std.specs.List.{AllByRecursion}
use Rattle.std.proofs.lemmas.Bool.Decides.{not_from_Decides}
use Rattle.std.proofs.lemmas.Bool.{cases_order}
use Rattle.division.specs.declared.mark.Mark.{Mark}
use Rattle.division.specs.Division.{Division, all_divisions}
use Rattle.division.specs.Order.{Beats, beats}
use Rattle.division.specs.Winner.{Criterion, by_penalty, by_count, Candidate, candidate, total, best, better, winner, Wins}
use Rattle.division.specs.Theorems.{In, Answered, WinnerWins, OneWins, WinnerCostsLeast}
use Rattle.division.proofs.Tested.{beats_tested, candidate_tested}
use Rattle.division.proofs.Order.{beats_self, beats_trans, beats_total}
use Rattle.division.proofs.Listed.{every_division_listed}

all_in : (P : List ℕ → Type 0) (xs : List (List ℕ)) (x : List ℕ) → AllByRecursion P xs → In x xs → P x
all_in P [] x h i = absurd i
all_in P (y ∷ xs) x h (inl e) = rw e h.0
all_in P (y ∷ xs) x h (inr i) = all_in P xs x h.1 i

all_map : (P Q : List ℕ → Type 0) → ((x : List ℕ) → P x → Q x) → (xs : List (List ℕ)) → AllByRecursion P xs → AllByRecursion Q xs
all_map P Q f [] h = tt
all_map P Q f (x ∷ xs) h = (f x h.0, all_map P Q f xs h.1)

kept_in : (ok : List ℕ → Bool) (xs : List (List ℕ)) (x : List ℕ) → In x xs → ok x ≡ true → In x (filter ok xs)
kept_in ok [] x i h = i
kept_in ok (y ∷ xs) x (inl e) h = let k : ok y ≡ true = ap ok (sym e) ∙ h in rw k (inl e)
kept_in ok (y ∷ xs) x (inr i) h = go (ok y) (kept_in ok xs x i h)
  where
    go : (b : Bool) → In x (filter ok xs) → In x (cond b (y ∷ filter ok xs) (filter ok xs))
    go true j = inr j
    go false j = j

kept_ok : (ok : List ℕ → Bool) (xs : List (List ℕ)) (x : List ℕ) → In x (filter ok xs) → ok x ≡ true
kept_ok ok [] x i = absurd i
kept_ok ok (y ∷ xs) x i = go (kept_ok ok xs x) (ok y) refl i
  where
    go : (In x (filter ok xs) → ok x ≡ true) → (b : Bool) → ok y ≡ b → In x (cond b (y ∷ filter ok xs) (filter ok xs)) → ok x ≡ true
    go rest true e (inl j) = ap ok j ∙ e
    go rest true e (inr j) = rest j
    go rest false e j = rest j

-- what `best` chose of xs
abbrev Chosen : (List ℕ → ℕ) → Option (List ℕ) → List (List ℕ) → Type 0
Chosen cost None xs = xs ≡ []
Chosen cost (Some d) xs = In d xs × AllByRecursion (λ e. Beats cost e d → ⊥) xs

module _ (cost : List ℕ → ℕ) where
  chosen_more : (x : List ℕ) (xs : List (List ℕ)) (o : Option (List ℕ)) → Chosen cost o xs → Chosen cost (better (beats cost) x o) (x ∷ xs)
  chosen_more x xs None e = (inl refl, (beats_self cost x, rw e tt))
  chosen_more x xs (Some d) h = go (beats cost d x) (beats_tested cost d x)
    where
      go : (b : Bool) → Decides b (Beats cost d x) → Chosen cost (Some (cond b d x)) (x ∷ xs)
      go true t = (inr h.0, ((λ k. beats_self cost x (beats_trans cost x d x k (t.0 refl))), h.1))
      go false t =
          (inl refl, (beats_self cost x, all_map (λ e. Beats cost e d → ⊥) (λ e. Beats cost e x → ⊥) (λ e u k. less e u k (beats_total cost d e)) xs h.1))
        where
          less : (e : List ℕ) → (Beats cost e d → ⊥) → Beats cost e x → (d ≡ e) ⊎ (Beats cost d e ⊎ Beats cost e d) → ⊥
          less e u k (inl q) = not_from_Decides false t refl (rw q k)
          less e u k (inr (inl q)) = not_from_Decides false t refl (beats_trans cost d e x q k)
          less e u k (inr (inr q)) = u q

  chosen : (xs : List (List ℕ)) → Chosen cost (best (beats cost) xs) xs
  chosen [] = refl
  chosen (x ∷ xs) = chosen_more x xs (best (beats cost) xs) (chosen xs)

pub one_wins : OneWins
one_wins c f marks m n d e h k = go (beats_total (total c f n) d e)
  where
    go : (d ≡ e) ⊎ (Beats (total c f n) d e ⊎ Beats (total c f n) e d) → d ≡ e
    go (inl q) = q
    go (inr (inl q)) = absurd (k.unbeaten d h.candidate q)
    go (inr (inr q)) = absurd (h.unbeaten e k.candidate q)

pub winner_costs_least : WinnerCostsLeast
winner_costs_least c f marks m n d e h k = go (cases_order (total c f n d) (total c f n e))
  where
    go : (total c f n d ≡ total c f n e) ⊎ ((total c f n d < total c f n e) ⊎ (total c f n e < total c f n d)) → total c f n d ≤ total c f n e
    go (inl q) = omega arith
    go (inr (inl q)) = omega arith
    go (inr (inr q)) = absurd (h.unbeaten e k (inl q))

pub candidate_divides : (c : Criterion) (marks : List Mark) (m n : ℕ) (ds : List ℕ) → Candidate c marks m n ds → Division n ds
candidate_divides (by_penalty p) marks m n ds h = h.division
candidate_divides (by_count k) marks m n ds h = h.0.division

module _ (c : Criterion) (f : ℕ → ℕ → ℕ) (marks : List Mark) (m n : ℕ) where
  abbrev Ok : List ℕ → Type 0
  Ok = Candidate c marks m n

  abbrev candidates : List (List ℕ)
  candidates = filter (candidate c marks m n) (all_divisions n)

  -- o is the one that wins, or there is none to choose from
  abbrev pub BestOfAll : Option (List ℕ) → Type 0
  BestOfAll None = (e : List ℕ) → Ok e → ⊥
  BestOfAll (Some d) = Wins c f marks m n d

  there : (e : List ℕ) → Ok e → In e candidates
  there e h = kept_in (candidate c marks m n) (all_divisions n) e (every_division_listed n e (candidate_divides c marks m n e h)) ((candidate_tested c marks m n e).1 h)

  outcome : (o : Option (List ℕ)) → Chosen (total c f n) o candidates → BestOfAll o
  outcome None h = λ e k. rw h at (there e k)
  outcome (Some d) h =
      record {
        candidate = (candidate_tested c marks m n d).0 (kept_ok (candidate c marks m n) (all_divisions n) d h.0);
        unbeaten = λ e k. all_in (λ e. Beats (total c f n) e d → ⊥) candidates e h.1 (there e k);
      }

  some_from : (o : Option (List ℕ)) → BestOfAll o → (d : List ℕ) → Wins c f marks m n d → o ≡ Some d
  some_from None h d w = absurd (h d w.candidate)
  some_from (Some e) h d w = ap Some (one_wins c f marks m n e d h w)

  none_from : (o : Option (List ℕ)) → BestOfAll o → ((e : List ℕ) → Ok e → ⊥) → o ≡ None
  none_from None h k = refl
  none_from (Some e) h k = absurd (k e h.candidate)

  -- the winner is what is best of all, and nothing else is
  pub winner_is_best : (o : Option (List ℕ)) → BestOfAll o → winner c f marks m n ≡ o
  winner_is_best None h = none_from (winner c f marks m n) (outcome (winner c f marks m n) (chosen (total c f n) candidates)) h
  winner_is_best (Some d) h = some_from (winner c f marks m n) (outcome (winner c f marks m n) (chosen (total c f n) candidates)) d h

  pub answered : Answered c f marks m n (winner c f marks m n)
  answered =
      let h : BestOfAll (winner c f marks m n) = outcome (winner c f marks m n) (chosen (total c f n) candidates) in
      record {
        wins = λ d. (λ e. subst BestOfAll e h, winner_is_best (Some d));
        none = (λ e. subst BestOfAll e h, winner_is_best None);
      }

pub winner_wins : WinnerWins
winner_wins c f marks m n = answered c f marks m n
