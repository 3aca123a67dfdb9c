-- The test of a shared gap says that some gap is covered twice.
use Rattle.std.proofs.Common.{◌≡◌, ℕ, ◌<◌, ◌≤◌, true, false, ltb, List, [], ◌∷◌, length, sym, refl, ap, inl, inr, ⊎_elim, arith}
use Rattle.std.proofs.lemmas.Bool.{cases_lt}
use Rattle.std.proofs.lemmas.Bool.Decides.{nat_tests}
use Rattle.division.specs.declared.mark.Mark.{Mark}
use Rattle.marks.specs.Marks.{well_formed, shares_gap, shares_any, in_order}
use Rattle.division.specs.Marks.{Covers}
use Rattle.division.specs.Theorems.{In}
use Rattle.marks.specs.Theorems.{Apart, LaidWhenLayable}
use Rattle.marks.proofs.Order.{begun, allowed}
use Rattle.marks.proofs.Stand.{ordered}

pub apart : (m : Mark) (ms : List Mark) → shares_any m ms ≡ false → Apart m ms
apart m [] h x g a c d = a
apart m (k ∷ ks) h x g a c d =
    ⊎_elim
    (λ (e : x ≡ k).
    let f = ap (λ t. t.first) e in
    let l = ap (λ t. t.last) e in
    let p : m.first < k.last = omega arith in
    let q : k.first < m.last = omega arith in
    let z : ◌≡◌ {A = ℕ} 0 1 = grind (arith, nat_tests) in
    absurd (omega arith))
    (λ (b : In x ks). let r : shares_any m ks ≡ false = grind (arith, nat_tests) in apart m ks r x g b c d)
    a

-- Two marks that cover a gap each, and none in common.
pub one_apart : (m k : Mark) → m.first < m.last → k.first < k.last → ((g : ℕ) → Covers m g → Covers k g → ⊥) → shares_gap m k ≡ false
one_apart m k a b h =
    ⊎_elim
    (λ (p : m.first < k.first).
    ⊎_elim
    (λ (q : k.first < m.last). absurd (h k.first (omega arith, q) (omega arith, b)))
    (λ (q : m.last ≤ k.first). grind (arith, nat_tests))
    (cases_lt k.first m.last))
    (λ (p : k.first ≤ m.first).
    ⊎_elim
    (λ (q : m.first < k.last). absurd (h m.first (omega arith, a) (p, q)))
    (λ (q : k.last ≤ m.first). grind (arith, nat_tests))
    (cases_lt m.first k.last))
    (cases_lt m.first k.first)

pub unshared : (low : ℕ) (m : Mark) (ms : List Mark) → in_order low ms ≡ true → m.first < m.last → Apart m ms → shares_any m ms ≡ false
unshared low m [] h l a = refl
unshared low m (k ∷ ks) h l a =
    let o = begun low k ks h in
    let p : shares_gap m k ≡ false = one_apart m k l o.covers (λ g c d. a k g (inl refl) c d) in
    let q : shares_any m ks ≡ false = unshared k.last m ks o.rest l (λ x g b c d. a x g (inr b) c d) in
    rw (p, q)

pub laid_when_layable : LaidWhenLayable
laid_when_layable n m ms s = (
  (λ h. let a = allowed n m ms (sym h) in
      record { well_formed = record { starts = a.from_one; rises = a.covers; zero_or_one = a.none_or_one }; on_line = a.on_line; apart = apart m ms a.apart; room = a.room }),
  (λ k.
      let u : shares_any m ms ≡ false = unshared 1 m ms (ordered ms s) k.well_formed.rises k.apart in
      let a = k.well_formed.starts in
      let b = k.well_formed.rises in
      let c = k.well_formed.zero_or_one in
      let w : well_formed n m ≡ true = grind (arith, nat_tests) in
      let r : ltb (length ms) 64 ≡ true = grind (arith, nat_tests) in
      rw (w, u, r)),
)
