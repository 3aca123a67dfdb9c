-- The winner at a penalty is the winner of its count, and its count is the path's.
use Rattle.std.proofs.Common.{◌≡◌, ℕ, ◌*◌, ◌<◌, ◌≤◌, ◌⊎◌, List, length, Some, None, Option, sym, refl, ap, ◌∙◌, inl, inr, arith}
use Rattle.std.proofs.lemmas.Bool.{cases_order}
use Rattle.division.specs.declared.mark.Mark.{Mark}
use Rattle.division.specs.Division.{loss}
use Rattle.division.specs.Marks.{Allowed}
use Rattle.division.specs.Order.{Beats}
use Rattle.division.specs.Winner.{by_penalty, by_count, Candidate, total, winner, Wins}
use Rattle.division.proofs.Best.{winner_wins, winner_costs_least}
use Rattle.division.proofs.Listed.{few_boundaries}
use Rattle.division.proofs.Order.{later_short}
use Rattle.envelope.specs.Path.{path_at, path_steps, Cheapest, cost_of}
use Rattle.envelope.proofs.Named.{path_names_cheapest, clash}
use Rattle.envelope.proofs.Chains.{one_path}
use Rattle.path.specs.Cuts.{loss_if_any, least_loss, as_step, PathNamesTheCut, StepsNameEveryCut, NoCountNoCut}

module _ (f : ℕ → ℕ → ℕ) (marks : List Mark) (m n : ℕ) where
  -- what a loss by count comes from
  counted : (k l : ℕ) (o : Option (List ℕ)) → winner (by_count k) f marks m n ≡ o → loss_if_any f n o ≡ Some l → (e : List ℕ) × Candidate (by_count k) marks m n e × (loss f n e ≡ l)
  counted k l None q h = clash (Some l) l refl (sym h)
  counted k l (Some e) q h = (e, (((winner_wins (by_count k) f marks m n).wins e).0 q).candidate, cc)

  absent : ((e : List ℕ) → Allowed marks m n e → ⊥) → (k : ℕ) → least_loss f marks m n k ≡ None
  absent h k = ap (loss_if_any f n) ((winner_wins (by_count k) f marks m n).none.1 (λ e a. h e a.0))

  module _ (p : ℕ) where
    same_length : (d e : List ℕ) → length e ≡ length d → Beats (loss f n) e d → Beats (total (by_penalty p) f n) e d
    same_length d e q (inl h) = let z : p * length e ≡ p * length d = ap (λ x. p * x) q in inl (omega arith)
    same_length d e q (inr h) = let z : p * length e ≡ p * length d = ap (λ x. p * x) q in inr (omega arith, h.1)

    wins_count : (d : List ℕ) → Wins (by_penalty p) f marks m n d → Wins (by_count (length d)) f marks m n d
    wins_count d w = record { candidate = (w.candidate, refl); unbeaten = λ e a b. w.unbeaten e a.0 (same_length d e a.1 b) }

    cheapest : (d : List ℕ) → Wins (by_penalty p) f marks m n d → Cheapest (least_loss f marks m n) n p (record { penalty = p; count = length d; loss = loss f n d })
    cheapest d w =
        record {
          penalty_is = refl;
          below = omega (arith, few_boundaries n 0 d w.candidate.division);
          held = ap (loss_if_any f n) (((winner_wins (by_count (length d)) f marks m n).wins d).1 (wins_count d w));
          least = λ j l b h. least j l (counted j l (winner (by_count j) f marks m n) refl h);
          fewest = λ j l b h. fewest j l b (counted j l (winner (by_count j) f marks m n) refl h);
        }
      where
        priced : (j l : ℕ) (e : List ℕ) → length e ≡ j → loss f n e ≡ l → total (by_penalty p) f n e ≡ cost_of p j l
        priced j l e a b = cc

        least : (j l : ℕ) → ((e : List ℕ) × Candidate (by_count j) marks m n e × (loss f n e ≡ l)) → total (by_penalty p) f n d ≤ cost_of p j l
        least j l r = omega (arith, priced j l r.0 r.1.1 r.2, winner_costs_least (by_penalty p) f marks m n d r.0 w r.1.0)

        fewest : (j l : ℕ) → j < length d → ((e : List ℕ) × Candidate (by_count j) marks m n e × (loss f n e ≡ l)) → total (by_penalty p) f n d < cost_of p j l
        fewest j l b r = go (cases_order (total (by_penalty p) f n r.0) (total (by_penalty p) f n d))
          where
            go : (total (by_penalty p) f n r.0 ≡ total (by_penalty p) f n d) ⊎ ((total (by_penalty p) f n r.0 < total (by_penalty p) f n d) ⊎ (total (by_penalty p) f n d < total (by_penalty p) f n r.0)) → total (by_penalty p) f n d < cost_of p j l
            go (inl q) = absurd (w.unbeaten r.0 r.1.0 (inr (q, later_short r.0 d (omega (arith, r.1.1)))))
            go (inr (inl q)) = absurd (w.unbeaten r.0 r.1.0 (inl q))
            go (inr (inr q)) = omega (arith, priced j l r.0 r.1.1 r.2)

    named : (o : Option (List ℕ)) → winner (by_penalty p) f marks m n ≡ o → path_at (least_loss f marks m n) p n ≡ as_step f n p o
    named None q = (path_names_cheapest (least_loss f marks m n) n p).none.1 (λ k b. absent ((winner_wins (by_penalty p) f marks m n).none.0 q) k)
    named (Some d) q = ((path_names_cheapest (least_loss f marks m n) n p).some _).1 (cheapest d (((winner_wins (by_penalty p) f marks m n).wins d).0 q))

    no_step : (o : Option (List ℕ)) → as_step f n p o ≡ None → o ≡ None
    no_step None h = refl
    no_step (Some d) h = clash (as_step f n p (Some d)) _ refl h

pub path_names_the_cut : PathNamesTheCut
path_names_the_cut f p marks m n = named f marks m n p (winner (by_penalty p) f marks m n) refl

pub steps_name_every_cut : StepsNameEveryCut
steps_name_every_cut f marks m n p h = ((one_path (least_loss f marks m n) n (path_steps (least_loss f marks m n) n)).1 refl).names p h ∙ path_names_the_cut f p marks m n

pub no_count_no_cut : NoCountNoCut
no_count_no_cut f p marks m n = (
  (λ e k b. absent f marks m n ((winner_wins (by_penalty p) f marks m n).none.0 e) k),
  (λ h. no_step f marks m n p (winner (by_penalty p) f marks m n) (sym (path_names_the_cut f p marks m n) ∙ (path_names_cheapest (least_loss f marks m n) n p).none.1 h)),
)
