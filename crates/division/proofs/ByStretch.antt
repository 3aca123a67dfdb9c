-- A division is allowed exactly where each of its stretches is permitted. Each mark is so by itself: that marks share no gap is not used.
use Rattle.std.proofs.Common.{◌≡◌, ℕ, suc, ◌+◌, ◌<◌, ◌≤◌, true, false, ◌⊎◌, ◌↔◌, List, [], ◌∷◌, sym, refl, ap, ◌∙◌, inl, inr, arith}
use Rattle.std.specs.List.{AllByRecursion}
use Rattle.std.proofs.lemmas.Bool.{cases_lt, cond-true, cond-false, cases_Bool}
use Rattle.division.specs.Division.{EachStretch, Division}
use Rattle.division.specs.declared.mark.Mark.{Mark}
use Rattle.division.specs.Marks.{boundaries_in, Obeys, Covers, covers}
use Rattle.division.specs.Stretches.{WellFormed, KeepsNone, KeepsOne, Permits, Permitted}
use Rattle.division.specs.Theorems.{AllowedByStretch}
use Rattle.division.proofs.Tested.{decides_covers}
use Rattle.division.proofs.Listed.{below}

pub each_map : (P Q : ℕ → ℕ → Type 0) → ((a b : ℕ) → P a b → Q a b) → (n a : ℕ) (ds : List ℕ) → EachStretch P n a ds → EachStretch Q n a ds
each_map P Q f n a [] h = f a n h
each_map P Q f n a (b ∷ ds) h = (f a b h.0, each_map P Q f n b ds h.1)

pub each_zip : (P Q : ℕ → ℕ → Type 0) (n a : ℕ) (ds : List ℕ) → EachStretch P n a ds → EachStretch Q n a ds → EachStretch (λ a b. P a b × Q a b) n a ds
each_zip P Q n a [] h k = (h, k)
each_zip P Q n a (b ∷ ds) h k = ((h.0, k.0), each_zip P Q n b ds h.1 k.1)

pub each_any : (P : ℕ → ℕ → Type 0) → ((a b : ℕ) → P a b) → (n a : ℕ) (ds : List ℕ) → EachStretch P n a ds
each_any P f n a [] = f a n
each_any P f n a (b ∷ ds) = (f a b, each_any P f n b ds)

module _ (k : Mark) where
  covers? : (g : ℕ) → Covers k g ⊎ (Covers k g → ⊥)
  covers? g = go (cases_lt g k.first) (cases_lt g k.last)
    where
      go : (g < k.first) ⊎ (k.first ≤ g) → (g < k.last) ⊎ (k.last ≤ g) → Covers k g ⊎ (Covers k g → ⊥)
      go (inl p) q = inr (λ w. omega arith)
      go (inr p) (inl q) = inl (p, q)
      go (inr p) (inr q) = inr (λ w. omega arith)

  counted : (b : ℕ) (ds : List ℕ) → Covers k b → boundaries_in k (b ∷ ds) ≡ suc (boundaries_in k ds)
  counted b ds w = cond-true _ _ _ ((decides_covers k b).1 w)

  skipped : (b : ℕ) (ds : List ℕ) → (Covers k b → ⊥) → boundaries_in k (b ∷ ds) ≡ boundaries_in k ds
  skipped b ds w = go (cases_Bool (covers k b))
    where
      go : (covers k b ≡ true) ⊎ (covers k b ≡ false) → boundaries_in k (b ∷ ds) ≡ boundaries_in k ds
      go (inl e) = absurd (w ((decides_covers k b).0 e))
      go (inr e) = cond-false _ _ _ e

module _ (n : ℕ) (k : Mark) (sound : WellFormed k) where
  abbrev Count : List ℕ → ℕ
  Count ds = boundaries_in k ds

  abbrev Rises : ℕ → List ℕ → Type 0
  Rises a ds = EachStretch (λ x y. x < y) n a ds

  -- none wanted
  none_to : (a : ℕ) (ds : List ℕ) → Count ds ≡ 0 → EachStretch (KeepsNone n k) n a ds
  none_to a [] e = λ l w. omega arith
  none_to a (b ∷ ds) e = go (covers? k b) (none_to b ds)
    where
      go : Covers k b ⊎ (Covers k b → ⊥) → (Count ds ≡ 0 → EachStretch (KeepsNone n k) n b ds) → EachStretch (KeepsNone n k) n a (b ∷ ds)
      go (inl w) rest = absurd (omega (arith, counted k b ds w))
      go (inr w) rest = ((λ _. w), rest (omega (arith, skipped k b ds w)))

  none_from : (a : ℕ) (ds : List ℕ) → Rises a ds → EachStretch (KeepsNone n k) n a ds → Count ds ≡ 0
  none_from a [] r h = refl
  none_from a (b ∷ ds) r h = skipped k b ds (h.0 (below n b ds r.1)) ∙ none_from b ds r.1 h.1

  abbrev Edges : ℕ → List ℕ → Type 0
  Edges a ds = EachStretch (KeepsOne n k) n a ds

  -- one wanted, and the mark is behind
  past : (a : ℕ) (ds : List ℕ) → k.last ≤ a → Rises a ds → (Count ds ≡ 0) × Edges a ds
  past a [] p r = (refl, omega arith)
  past a (b ∷ ds) p r =
      let l : a < b = r.0 in
      let rest : (Count ds ≡ 0) × Edges b ds = past b ds (omega arith) r.1 in
      (skipped k b ds (λ w. omega arith) ∙ rest.0, (omega arith, rest.1))

  -- a is the one
  inside : (a : ℕ) (ds : List ℕ) → Covers k a → Rises a ds → (Count ds ≡ 0) ↔ Edges a ds
  inside a [] w r = (λ e. omega arith, λ h. refl)
  inside a (b ∷ ds) w r = go (cases_lt b k.last)
    where
      go : (b < k.last) ⊎ (k.last ≤ b) → (Count (b ∷ ds) ≡ 0) ↔ Edges a (b ∷ ds)
      go (inl q) =
          let l : a < b = r.0 in
          let v : Covers k b = omega arith in
          (λ e. absurd (omega (arith, counted k b ds v)), λ h. absurd (h.0.0 (below n b ds r.1) w v))
      go (inr q) =
          let rest : (Count ds ≡ 0) × Edges b ds = past b ds q r.1 in
          (λ e. (omega arith, rest.1), λ h. skipped k b ds (λ v. omega arith) ∙ rest.0)

  -- the mark lies ahead
  before : (a : ℕ) (ds : List ℕ) → a < k.first → Rises a ds → (Count ds ≡ 1) ↔ Edges a ds
  before a [] p r = (λ e. absurd (omega arith), λ h. absurd (h.2 p (omega arith)))
  before a (b ∷ ds) p r = go (cases_lt b k.first) (cases_lt b k.last) (λ q. before b ds q r.1)
    where
      on : b < n
      on = below n b ds r.1

      go :
          (b < k.first) ⊎ (k.first ≤ b) → (b < k.last) ⊎ (k.last ≤ b) → (b < k.first → (Count ds ≡ 1) ↔ Edges b ds) →
          (Count (b ∷ ds) ≡ 1) ↔ Edges a (b ∷ ds)
      go (inl q) _ rest =
          let s : Count (b ∷ ds) ≡ Count ds = skipped k b ds (λ w. omega arith) in
          let c : k.first < k.last = sound.rises in
          let l : b < n = on in
          (λ e. (omega arith, (rest q).0 (sym s ∙ e)), λ h. s ∙ (rest q).1 h.1)
      go (inr q) (inl q') rest =
          let s : Count (b ∷ ds) ≡ suc (Count ds) = counted k b ds (q, q') in
          let here : (Count ds ≡ 0) ↔ Edges b ds = inside b ds (q, q') r.1 in
          let l : b < n = on in
          (λ e. (omega arith, here.0 (omega arith)), λ h. s ∙ ap suc (here.1 h.1))
      go (inr q) (inr q') rest =
          let s : Count (b ∷ ds) ≡ Count ds = skipped k b ds (λ w. omega arith) in
          let z : Count ds ≡ 0 = (past b ds q' r.1).0 in
          (λ e. absurd (omega arith), λ h. absurd (h.0.1 p q'))

  pub by_mark : (ds : List ℕ) → Division n ds → Obeys ds k ↔ EachStretch (λ a b. Permits n a b k) n 0 ds
  by_mark ds r = go (cases_lt 0 k.boundaries)
    where
      go : (0 < k.boundaries) ⊎ (k.boundaries ≤ 0) → Obeys ds k ↔ EachStretch (λ a b. Permits n a b k) n 0 ds
      go (inl p) =
          let y : k.boundaries ≡ 1 = omega (arith, sound.zero_or_one) in
          let both = before 0 ds sound.starts r in (
            λ h. each_map (KeepsOne n k) (λ a b. Permits n a b k) (λ a b o. record { none = λ z. absurd (omega arith); one = λ _. o }) n 0 ds (both.0 (h ∙ y)),
            λ h. both.1 (each_map (λ a b. Permits n a b k) (KeepsOne n k) (λ a b o. o.one p) n 0 ds h) ∙ sym y,
          )
      go (inr p) =
          let y : k.boundaries ≡ 0 = omega arith in (
            λ h. each_map (KeepsNone n k) (λ a b. Permits n a b k) (λ a b o. record { none = λ _. o; one = λ z. absurd (omega arith) }) n 0 ds (none_to 0 ds (h ∙ y)),
            λ h. none_from 0 ds r (each_map (λ a b. Permits n a b k) (KeepsNone n k) (λ a b o. o.none y) n 0 ds h) ∙ sym y,
          )

by_marks : (n : ℕ) (ds : List ℕ) → Division n ds → (marks : List Mark) → AllByRecursion WellFormed marks → AllByRecursion (Obeys ds) marks ↔ EachStretch (λ a b. AllByRecursion (Permits n a b) marks) n 0 ds
by_marks n ds r [] s = (λ _. each_any (λ a b. Unit {0}) (λ _ _. tt) n 0 ds, λ _. tt)
by_marks n ds r (k ∷ marks) s =
    let here : Obeys ds k ↔ EachStretch (λ a b. Permits n a b k) n 0 ds = by_mark n k s.0 ds r in
    let rest : AllByRecursion (Obeys ds) marks ↔ EachStretch (λ a b. AllByRecursion (Permits n a b) marks) n 0 ds = by_marks n ds r marks s.1 in (
      λ h. each_zip (λ a b. Permits n a b k) (λ a b. AllByRecursion (Permits n a b) marks) n 0 ds (here.0 h.0) (rest.0 h.1),
      λ h. (
        here.1 (each_map (λ a b. Permits n a b k × AllByRecursion (Permits n a b) marks) (λ a b. Permits n a b k) (λ a b p. p.0) n 0 ds h),
        rest.1 (each_map (λ a b. Permits n a b k × AllByRecursion (Permits n a b) marks) (λ a b. AllByRecursion (Permits n a b) marks) (λ a b p. p.1) n 0 ds h),
      ),
    )

pub allowed_by_stretch : AllowedByStretch
allowed_by_stretch marks m n ds s = (
  λ h. each_map (λ a b. (a < b) × ((a + m ≤ b) × AllByRecursion (Permits n a b) marks)) (Permitted marks m n) (λ a b p. record { rises = p.0; long = p.1.0; marked = p.1.1 }) n 0 ds
      (each_zip (λ a b. a < b) (λ a b. (a + m ≤ b) × AllByRecursion (Permits n a b) marks) n 0 ds h.division
      (each_zip (λ a b. a + m ≤ b) (λ a b. AllByRecursion (Permits n a b) marks) n 0 ds h.long_enough ((by_marks n ds h.division marks s).0 h.obeyed))),
  λ h. let r : Division n ds = each_map (Permitted marks m n) (λ a b. a < b) (λ a b p. p.rises) n 0 ds h in
      record {
        division = r;
        long_enough = each_map (Permitted marks m n) (λ a b. a + m ≤ b) (λ a b p. p.long) n 0 ds h;
        obeyed = (by_marks n ds r marks s).1 (each_map (Permitted marks m n) (λ a b. AllByRecursion (Permits n a b) marks) (λ a b p. p.marked) n 0 ds h);
      },
)
