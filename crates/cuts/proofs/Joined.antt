-- The boundaries of the starts that win are the winner.
use Rattle.std.proofs.Common.{◌≡◌, ℕ, ◌+◌, ◌<◌, true, false, ltb, List, [], ◌∷◌, length, Some, None, Option, sym, ap, ◌∙◌, subst, ap₂, inl, inr, arith}
use native.Mathlib.Decide.{dec_lt}
use Rattle.std.specs.List.{AllByRecursion}
use Rattle.std.proofs.lemmas.Bool.Decides.{nat_tests}
use Rattle.std.proofs.lemmas.Bool.{ltb-true, ltb-false, lt-ltb}
use Rattle.std.specs.Option.{option_map}
use Rattle.division.specs.declared.mark.Mark.{Mark}
use Rattle.division.specs.Division.{EachStretch, Division, loss}
use Rattle.division.specs.Stretches.{WellFormed, Permitted}
use Rattle.division.specs.Winner.{by_penalty, by_count, Candidate, total, winner, Wins}
use Rattle.division.proofs.Best.{winner_is_best, candidate_divides}
use Rattle.division.proofs.ByStretch.{allowed_by_stretch, each_map}
use Rattle.tally.specs.Entries.{pair_below}
use Rattle.tally.specs.Order.{Order, Strict}
use Rattle.search.specs.Starts.{Starts, tally_of, any_number, exactly, boundaries_of, NoLater, WinningStarts}
use Rattle.search.specs.Rows.{Found, Least, part}
use Rattle.search.proofs.Optimal.{clash, best_wins}
use Rattle.search.proofs.Tracing.{starts_fall}
use Rattle.cuts.proofs.Divisions.{starts_of, division_of_starts, starts_of_boundaries, starts_of_division, later_starts, later_length, any_many, exactly_many, length_starts}
use Rattle.cuts.proofs.Tallied.{total_tally, total_is, loss_tally, loss_is}

pair_less : (a b x y : ℕ) → a < b → pair_below (a, x) (b, y) ≡ true
pair_less a b x y h = grind (arith, nat_tests)

pair_fewer : (a b x y : ℕ) → a ≡ b → x < y → pair_below (a, x) (b, y) ≡ true
pair_fewer a b x y e h = grind (arith, nat_tests)

ltb_less : (a b : ℕ) → a < b → ltb a b ≡ true
ltb_less a b h = grind (arith, nat_tests)

ltb_order : Order ltb
ltb_order =
    record {
      never = λ x. grind (arith, nat_tests);
      trans = λ x y z h k. grind (arith, nat_tests);
      same = λ x y h k. omega (arith, ltb-false x y h, ltb-false y x k);
    }

loss_strict : (f : ℕ → ℕ → ℕ) → Strict (loss_tally f)
loss_strict f a b x y h = lt-ltb (x + f a b) (y + f a b) (omega (arith, ltb-true x y h))

-- a division has fewer boundaries than readings
few : (n a : ℕ) (ds : List ℕ) → EachStretch (λ x y. x < y) n a ds → length ds + a < n
few n a [] h = omega (arith, h)
few n a (b ∷ ds) h = let k : length ds + b < n = few n b ds h.1 in let l : a < b = h.0 in omega arith

pub few_boundaries : (n : ℕ) (ds : List ℕ) → Division n ds → length ds < n
few_boundaries n ds h = let k : length ds + 0 < n = few n 0 ds h in omega arith

module _ (f : ℕ → ℕ → ℕ) (marks : List Mark) (m n : ℕ) (pos : 0 < n) (sound : AllByRecursion WellFormed marks) where
  abbrev Edge : ℕ → ℕ → Type 0
  Edge = Permitted marks m n

  rise : (a b : ℕ) → Edge a b → a < b
  rise a b h = h.rises

  rising : (e : List ℕ) → EachStretch Edge n 0 e → Division n e
  rising e h = each_map Edge (λ x y. x < y) rise n 0 e h

  -- by penalty
  module _ (p : ℕ) where
    starts_any : (e : List ℕ) → Candidate (by_penalty p) marks m n e → Starts (any_number Edge) tt n (starts_of e)
    starts_any e h = starts_of_division Edge rise n e ((allowed_by_stretch marks m n e sound).0 h)

    pub penalty_none : ((ds : List ℕ) → Starts (any_number Edge) tt n ds → ⊥) → winner (by_penalty p) f marks m n ≡ None
    penalty_none h = winner_is_best (by_penalty p) f marks m n None (λ e k. h (starts_of e) (starts_any e k))

    penalty_wins : (ds : List ℕ) → WinningStarts (total_tally f p) (any_number Edge) tt n ds
        → Wins (by_penalty p) f marks m n (boundaries_of ds []) × (tally_of (total_tally f p) n ds ≡ (total (by_penalty p) f n (boundaries_of ds []), length (boundaries_of ds [])))
    penalty_wins ds w =
        let d : List ℕ = boundaries_of ds [] in
        let cost : List ℕ → ℕ = total (by_penalty p) f n in
        let ok : EachStretch Edge n 0 d = division_of_starts Edge n ds pos w.0 in
        let back : starts_of d ≡ ds = starts_of_boundaries n ds pos (starts_fall (any_number Edge) tt n ds w.0) in
        let value : tally_of (total_tally f p) n ds ≡ (cost d, length d) = ap (tally_of (total_tally f p) n) (sym back) ∙ total_is f p n d (rising d ok) in (
          record {
            candidate = (allowed_by_stretch marks m n d sound).1 ok;
            unbeaten = λ e h b.
                (let starts : Starts (any_number Edge) tt n (starts_of e) = starts_any e h in
                let other : tally_of (total_tally f p) n (starts_of e) ≡ (cost e, length e) = total_is f p n e h.division in
                let level : pair_below (cost e, length e) (cost d, length d) ≡ false =
                subst (λ (v : ℕ × ℕ). pair_below (cost e, length e) v ≡ false) value (subst (λ (v : ℕ × ℕ). pair_below v (tally_of (total_tally f p) n ds) ≡ false) other (w.1 (starts_of e) starts)) in
                elim b [
                  | inl l ↦ clash (pair_less (cost e) (cost d) (length e) (length d) l) level
                  | inr q ↦ (
                      elim (dec_lt (length e) (length d)) [
                        | yes l ↦ clash (pair_fewer (cost e) (cost d) (length e) (length d) q.0 l) level
                        | no ge ↦ (
                            let same : length e ≡ length d = omega (arith, later_length e d q.1) in
                            let even : tally_of (total_tally f p) n (starts_of e) ≡ tally_of (total_tally f p) n ds = other ∙ ap₂ (λ (y z : ℕ). (y, z)) q.0 same ∙ sym value in
                            later_starts e d q.1 same (subst (λ (z : List ℕ). NoLater (starts_of e) z) (sym back) (w.2 (starts_of e) starts even)))
                      ])
                ]);
          },
          value,
        )

    pub penalty_some : (fits : ℕ × ℕ → Type 0) (end : ℕ) (list : List ℕ) (t k from : ℕ) → Found (total_tally f p) (any_number Edge) fits tt n end list (Some ((t, k), from))
        → (winner (by_penalty p) f marks m n ≡ Some (part from end list)) × (t ≡ total (by_penalty p) f n (part from end list)) × (length (part from end list) < n)
    penalty_some fits end list t k from h =
        let d : List ℕ = boundaries_of h.0 [] in
        let won = penalty_wins h.0 h.1 in
        let Said : List ℕ → Type 0 = λ d. (winner (by_penalty p) f marks m n ≡ Some d) × (t ≡ total (by_penalty p) f n d) × (length d < n) in
        let said : Said d =
        (winner_is_best (by_penalty p) f marks m n (Some d) won.0, ap (λ (v : ℕ × ℕ). v.0) (h.2 ∙ won.1), few_boundaries n d (candidate_divides (by_penalty p) marks m n d won.0.candidate)) in
        subst Said (sym h.5) said

  -- by count
  module _ (k : ℕ) where
    starts_many : (e : List ℕ) → Candidate (by_count k) marks m n e → Starts (exactly Edge) (k + 1) n (starts_of e)
    starts_many e h =
        exactly_many Edge (k + 1) n (starts_of e) (starts_of_division Edge rise n e ((allowed_by_stretch marks m n e sound).0 h.0)) (omega (arith, length_starts e, h.1))

    pub count_none : ((ds : List ℕ) → Starts (exactly Edge) (k + 1) n ds → ⊥) → winner (by_count k) f marks m n ≡ None
    count_none h = winner_is_best (by_count k) f marks m n None (λ e c. h (starts_of e) (starts_many e c))

    pub count_wins : (ds : List ℕ) → WinningStarts (loss_tally f) (exactly Edge) (k + 1) n ds
        → Wins (by_count k) f marks m n (boundaries_of ds []) × (tally_of (loss_tally f) n ds ≡ loss f n (boundaries_of ds []))
    count_wins ds w =
        let d : List ℕ = boundaries_of ds [] in
        let free = any_many Edge (k + 1) n ds w.0 in
        let ok : EachStretch Edge n 0 d = division_of_starts Edge n ds pos free.0 in
        let back : starts_of d ≡ ds = starts_of_boundaries n ds pos (starts_fall (any_number Edge) tt n ds free.0) in
        let many : length d ≡ k = omega (arith, length_starts d, ap length back, free.1) in
        let value : tally_of (loss_tally f) n ds ≡ loss f n d = ap (tally_of (loss_tally f) n) (sym back) ∙ loss_is f n d in (
          record {
            candidate = ((allowed_by_stretch marks m n d sound).1 ok, many);
            unbeaten = λ e h b.
                (let starts : Starts (exactly Edge) (k + 1) n (starts_of e) = starts_many e h in
                let level : ltb (loss f n e) (loss f n d) ≡ false =
                subst (λ (v : ℕ). ltb (loss f n e) v ≡ false) value (subst (λ (v : ℕ). ltb v (tally_of (loss_tally f) n ds) ≡ false) (loss_is f n e) (w.1 (starts_of e) starts)) in
                elim b [
                  | inl l ↦ clash (ltb_less (loss f n e) (loss f n d) l) level
                  | inr q ↦ (
                      let same : length e ≡ length d = h.1 ∙ sym many in
                      let even : tally_of (loss_tally f) n (starts_of e) ≡ tally_of (loss_tally f) n ds = loss_is f n e ∙ q.0 ∙ sym value in
                      later_starts e d q.1 same (subst (λ (z : List ℕ). NoLater (starts_of e) z) (sym back) (w.2 (starts_of e) starts even)))
                ]);
          },
          value,
        )

    pub count_some : (fits : ℕ → Type 0) (end : ℕ) (list : List ℕ) (t from : ℕ) → Found (loss_tally f) (exactly Edge) fits (k + 1) n end list (Some (t, from))
        → (winner (by_count k) f marks m n ≡ Some (part from end list)) × (t ≡ total (by_count k) f n (part from end list)) × (length (part from end list) < n)
    count_some fits end list t from h =
        let d : List ℕ = boundaries_of h.0 [] in
        let won = count_wins h.0 h.1 in
        let Said : List ℕ → Type 0 = λ d. (winner (by_count k) f marks m n ≡ Some d) × (t ≡ total (by_count k) f n d) × (length d < n) in
        let said : Said d =
        (winner_is_best (by_count k) f marks m n (Some d) won.0, h.2 ∙ won.1, few_boundaries n d (candidate_divides (by_count k) marks m n d won.0.candidate)) in
        subst Said (sym h.5) said

    -- the least loss of so many stretches is the winner's
    pub count_least : (o : Option ℕ) → Least (loss_tally f) (exactly Edge) (k + 1) n o → o ≡ option_map (total (by_count k) f n) (winner (by_count k) f marks m n)
    count_least None h = sym (ap (option_map (total (by_count k) f n)) (count_none h))
    count_least (Some v) h =
        let d : List ℕ = boundaries_of h.0 [] in
        let won = count_wins h.0 (best_wins (loss_tally f) (exactly Edge) ltb_order (loss_strict f) (k + 1) n h.0 h.1) in
        ap Some (h.2 ∙ won.1) ∙ sym (ap (option_map (total (by_count k) f n)) (winner_is_best (by_count k) f marks m n (Some d) won.0))
