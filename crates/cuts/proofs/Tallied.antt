-- What the starts of a division tally: the total with the number of boundaries, or the loss.
use Rattle.std.proofs.Common.{◌≡◌, ℕ, suc, ◌+◌, ◌*◌, ◌<◌, Bool, false, cond, eqb, ltb, List, [], ◌∷◌, length, sym, refl, ap, ◌∙◌, ap₂, mul-suc, arith}
use Rattle.std.proofs.lemmas.Bool.Decides.{nat_tests}
use Rattle.division.specs.Division.{EachStretch, sum_stretches, loss}
use Rattle.division.specs.Winner.{by_penalty, total}
use Rattle.tally.specs.Order.{Tallying, tallying}
use Rattle.tally.specs.Entries.{pair_below, pair_added, loss_added}
use Rattle.search.specs.Starts.{tally_of}
use Rattle.cuts.proofs.Divisions.{starts_onto, starts_of}

added_later : (p : ℕ) (v : ℕ × ℕ) (a l : ℕ) → 0 < a → pair_added p v a l ≡ (v.0 + l + p, v.1 + 1)
added_later p v a l h = let e : eqb a 0 ≡ false = grind (arith, nat_tests) in ap (λ (b : Bool). cond b (v.0 + l, v.1) (v.0 + l + p, v.1 + 1)) e

module _ (f : ℕ → ℕ → ℕ) (p : ℕ) where
  abbrev pub total_tally : Tallying (ℕ × ℕ)
  total_tally = tallying {M = ℕ} (0, 0) pair_added pair_below p f

  total_onto : (t a x c : ℕ) (acc ds : List ℕ) → 0 < a → EachStretch (λ x y. x < y) t a ds → tally_of total_tally a acc ≡ (x, c)
      → tally_of total_tally t (starts_onto (a ∷ acc) ds) ≡ (x + sum_stretches f t a ds + p * suc (length ds), c + suc (length ds))
  total_onto t a x c acc [] pos r e =
      let one : p * 1 ≡ p = omega arith in
      added_later p (tally_of total_tally a acc) a (f a t) pos ∙ ap (λ (v : ℕ × ℕ). (v.0 + f a t + p, v.1 + 1)) e ∙ ap (λ (q : ℕ). (x + f a t + q, c + 1)) (sym one)
  total_onto t a x c acc (b ∷ ds) pos r e =
      let l : a < b = r.0 in
      let here : tally_of total_tally b (a ∷ acc) ≡ (x + f a b + p, c + 1) = added_later p (tally_of total_tally a acc) a (f a b) pos ∙ ap (λ (v : ℕ × ℕ). (v.0 + f a b + p, v.1 + 1)) e in
      let rest = total_onto t b (x + f a b + p) (c + 1) (a ∷ acc) ds (omega arith) r.1 here in
      let k : ℕ = suc (length ds) in
      let s : ℕ = sum_stretches f t b ds in
      let i : x + f a b + p + s + p * k ≡ x + (f a b + s) + p * suc k = omega (arith, mul-suc p k) in
      let j : c + 1 + k ≡ c + suc k = omega arith in
      rest ∙ ap₂ (λ (y z : ℕ). (y, z)) i j

  pub total_is : (t : ℕ) (ds : List ℕ) → EachStretch (λ x y. x < y) t 0 ds → tally_of total_tally t (starts_of ds) ≡ (total (by_penalty p) f t ds, length ds)
  total_is t [] r = let i : 0 + f 0 t ≡ f 0 t + p * 0 = omega arith in ap (λ (y : ℕ). (y, 0)) i
  total_is t (b ∷ ds) r =
      let l : 0 < b = r.0 in
      let k : ℕ = suc (length ds) in
      let i : 0 + f 0 b + sum_stretches f t b ds + p * k ≡ f 0 b + sum_stretches f t b ds + p * k = omega arith in
      let j : 0 + k ≡ k = omega arith in
      total_onto t b (0 + f 0 b) 0 (0 ∷ []) ds l r.1 refl ∙ ap₂ (λ (y z : ℕ). (y, z)) i j

module _ (f : ℕ → ℕ → ℕ) where
  abbrev pub loss_tally : Tallying ℕ
  loss_tally = tallying {M = Unit {0}} 0 loss_added ltb tt f

  loss_onto : (t a x : ℕ) (acc ds : List ℕ) → tally_of loss_tally a acc ≡ x → tally_of loss_tally t (starts_onto (a ∷ acc) ds) ≡ x + sum_stretches f t a ds
  loss_onto t a x acc [] e = ap (λ (y : ℕ). y + f a t) e
  loss_onto t a x acc (b ∷ ds) e =
      let i : x + f a b + sum_stretches f t b ds ≡ x + (f a b + sum_stretches f t b ds) = omega arith in
      loss_onto t b (x + f a b) (a ∷ acc) ds (ap (λ (y : ℕ). y + f a b) e) ∙ i

  pub loss_is : (t : ℕ) (ds : List ℕ) → tally_of loss_tally t (starts_of ds) ≡ loss f t ds
  loss_is t ds = let i : 0 + sum_stretches f t 0 ds ≡ sum_stretches f t 0 ds = omega arith in loss_onto t 0 0 [] ds refl ∙ i
