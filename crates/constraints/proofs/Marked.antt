-- What holds of the first marks of a list, with one mark more and where there are no more.
use Rattle.std.proofs.Common.{◌≡◌, ℕ, zero, suc, ◌+◌, ◌<◌, ◌≤◌, ◌↔◌, List, [], ◌∷◌, length, get_or, take, sym, ap, subst, add-one, arith}
use Rattle.std.proofs.lemmas.List.{take_all}
use Rattle.std.specs.List.{AllByRecursion}
use Rattle.division.specs.declared.mark.Mark.{Mark}
use Rattle.division.specs.Stretches.{Permits, Permitted}

all_suc : {X : Type 0} (P : X → Type 0) (xs : List X) (i : ℕ) (d : X) → i < length xs → AllByRecursion P (take (suc i) xs) ↔ (AllByRecursion P (take i xs) × P (get_or xs i d))
all_suc P [] i d lt = absurd (omega arith)
all_suc P (y ∷ xs) zero d lt = (λ h. (tt, h.0), λ h. (h.1, tt))
all_suc P (y ∷ xs) (suc i) d lt =
    let r = all_suc P xs i d (omega arith) in
    (λ h. ((h.0, (r.0 h.1).0), (r.0 h.1).1), λ h. (h.0.0, r.1 (h.0.1, h.1)))

pub all_more : {X : Type 0} (P : X → Type 0) (xs items : List X) (i : ℕ) (d : X) → items ≡ xs → i < length items → AllByRecursion P (take (i + 1) xs) ↔ (AllByRecursion P (take i xs) × P (get_or items i d))
all_more P xs items i d e lt =
    subst (λ (ys : List _). AllByRecursion P (take (i + 1) ys) ↔ (AllByRecursion P (take i ys) × P (get_or items i d))) e (rw add-one (all_suc P items i d lt))

-- a stretch that every mark permits
pub all_marks : (marks items : List Mark) (i m n a b : ℕ) → items ≡ marks → length items ≤ i
    → ((a < b) × (a + m ≤ b) × AllByRecursion (Permits n a b) (take i marks)) ↔ Permitted marks m n a b
all_marks marks items i m n a b e le =
    let whole : take i marks ≡ marks = take_all i marks (omega (arith, ap length e)) in (
      λ h. record { rises = h.0; long = h.1; marked = subst (AllByRecursion (Permits n a b)) whole h.2 },
      λ h. (h.rises, h.long, subst (AllByRecursion (Permits n a b)) (sym whole) h.marked),
    )
