-- The tests say what the relations say.
use Rattle.std.proofs.Common.{◌≡◌, ℕ, ◌+◌, ◌<◌, ◌≤◌, Bool, ◌&&◌, eqb, ltb, leb, List, [], ◌∷◌, length, Decides, refl, ap₂}
use Rattle.std.specs.List.{AllByRecursion}
use Rattle.std.proofs.lemmas.Bool.Decides.{Decides-and, Decides-or, Decides-ltb, Decides-eqb, Decides-like}
use Rattle.std.proofs.ByRecursion.{Decides-by_and}
use Rattle.std.proofs.lemmas.Bool.{leb-true, le-leb, false≢true}
use Rattle.division.specs.declared.mark.Mark.{Mark}
use Rattle.division.specs.Division.{EachStretch, each_stretch, division, long_enough}
use Rattle.division.specs.Marks.{Covers, covers, Obeys, obeys, obeys_all, allowed}
use Rattle.division.specs.Order.{same, Later, later}
use Rattle.division.specs.Winner.{by_penalty, by_count}
use Rattle.division.specs.Theorems.{AllowedTested, CandidateTested, BeatsTested}

pub decides_leb : (a b : ℕ) → Decides (leb a b) (a ≤ b)
decides_leb a b = (leb-true a b, le-leb a b)

pub decides_covers : (k : Mark) (g : ℕ) → Decides (covers k g) (Covers k g)
decides_covers k g = Decides-and (leb k.first g) (ltb g k.last) (decides_leb k.first g) (Decides-ltb g k.last)

pub decides_each : (p : ℕ → ℕ → Bool) (P : ℕ → ℕ → Type 0) → ((a b : ℕ) → Decides (p a b) (P a b)) → (n a : ℕ) (ds : List ℕ) → Decides (each_stretch p n a ds) (EachStretch P n a ds)
decides_each p P each n a [] = each a n
decides_each p P each n a (b ∷ ds) = Decides-and (p a b) (each_stretch p n b ds) (each a b) (decides_each p P each n b ds)

pub decides_obeys : (ds : List ℕ) (marks : List Mark) → Decides (obeys_all ds marks) (AllByRecursion (Obeys ds) marks)
decides_obeys ds marks = Decides-by_and (obeys ds) (Obeys ds) (obeys_all ds) (λ k. Decides-eqb _ _) refl (λ _ _. refl) marks

pub allowed_tested : AllowedTested
allowed_tested marks m n ds =
    Decides-like (allowed marks m n ds)
    (λ h. record { division = h.0; long_enough = h.1.0; obeyed = h.1.1 })
    (λ h. (h.division, (h.long_enough, h.obeyed)))
    (Decides-and (division n ds) (long_enough m n ds && obeys_all ds marks) (decides_each ltb (λ a b. a < b) Decides-ltb n 0 ds)
    (Decides-and (long_enough m n ds) (obeys_all ds marks) (decides_each (λ a b. leb (a + m) b) (λ a b. a + m ≤ b) (λ a b. decides_leb (a + m) b) n 0 ds)
    (decides_obeys ds marks)))

pub candidate_tested : CandidateTested
candidate_tested (by_penalty p) marks m n ds = allowed_tested marks m n ds
candidate_tested (by_count k) marks m n ds = Decides-and (allowed marks m n ds) (eqb (length ds) k) (allowed_tested marks m n ds) (Decides-eqb (length ds) k)

pub decides_same : (xs ys : List ℕ) → Decides (same xs ys) (xs ≡ ys)
decides_same [] [] = (λ _. refl, λ _. refl)
decides_same [] (y ∷ ys) = (λ h. absurd (false≢true h), λ h. cc)
decides_same (x ∷ xs) [] = (λ h. absurd (false≢true h), λ h. cc)
decides_same (x ∷ xs) (y ∷ ys) =
    Decides-like (eqb x y && same xs ys) (λ h. ap₂ ◌∷◌ h.0 h.1) (λ h. (cc, cc))
    (Decides-and (eqb x y) (same xs ys) (Decides-eqb x y) (decides_same xs ys))

pub decides_later : (xs ys : List ℕ) → Decides (later xs ys) (Later xs ys)
decides_later [] [] = (λ h. false≢true h, λ h. absurd h)
decides_later [] (y ∷ ys) = (λ _. tt, λ _. refl)
decides_later (x ∷ xs) [] = (λ h. false≢true h, λ h. absurd h)
decides_later (x ∷ xs) (y ∷ ys) =
    Decides-or (later xs ys) (same xs ys && ltb y x) (decides_later xs ys) (Decides-and (same xs ys) (ltb y x) (decides_same xs ys) (Decides-ltb y x))

pub beats_tested : BeatsTested
beats_tested cost d e =
    Decides-or (ltb (cost d) (cost e)) (eqb (cost d) (cost e) && later d e) (Decides-ltb (cost d) (cost e))
    (Decides-and (eqb (cost d) (cost e)) (later d e) (Decides-eqb (cost d) (cost e)) (decides_later d e))
