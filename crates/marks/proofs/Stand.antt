-- The test of order says that marks stand together, and marks that do share no gap.
use Rattle.std.proofs.Common.{◌≡◌, ℕ, zero, suc, ◌<◌, ◌≤◌, true, List, [], ◌∷◌, length, get_or, sym, refl, ap, ◌∙◌, ⊎_elim, arith}
use Rattle.division.specs.declared.mark.Mark.{Mark}
use Rattle.marks.specs.Marks.{in_order}
use Rattle.division.specs.Marks.{Covers}
use Rattle.division.specs.Theorems.{In}
use Rattle.marks.specs.Theorems.{BeginFrom, Standing, OrderDecidesStanding, EveryTableStands, LaterMarksBeginLater, NoGapShared}
use Rattle.marks.specs.Table.{marks_of}
use Rattle.marks.proofs.Order.{begun, begin}
use Rattle.marks.proofs.Length.{length_marks}

pub first_from : (low : ℕ) (ms : List Mark) → in_order low ms ≡ true → BeginFrom low ms
first_from low [] h = tt
first_from low (m ∷ ms) h = (begun low m ms h).from_low

pub stands : (low : ℕ) (ms : List Mark) → 1 ≤ low → in_order low ms ≡ true → Standing ms
stands low [] k h = tt
stands low (m ∷ ms) k h =
    let o = begun low m ms h in
    let b : 1 ≤ m.first = omega arith in
    let l : 1 ≤ m.last = omega arith in
    (record { starts = b; rises = o.covers; zero_or_one = o.none_or_one }, first_from m.last ms o.rest, stands m.last ms l o.rest)

pub orders : (low : ℕ) (ms : List Mark) → BeginFrom low ms → Standing ms → in_order low ms ≡ true
orders low [] f s = refl
orders low (m ∷ ms) f s =
    begin low m ms record { from_low = f; covers = s.0.rises; none_or_one = s.0.zero_or_one; rest = orders m.last ms s.1 s.2 }

pub from_one : (ms : List Mark) → Standing ms → BeginFrom 1 ms
from_one [] s = tt
from_one (m ∷ ms) s = s.0.starts

pub ordered : (ms : List Mark) → Standing ms → in_order 1 ms ≡ true
ordered ms s = orders 1 ms (from_one ms s) s

pub order_decides_standing : OrderDecidesStanding
order_decides_standing ms = (stands 1 ms (omega arith), ordered ms)

pub every_table_stands : EveryTableStands
every_table_stands t = (stands 1 (marks_of t) (omega arith) t.rising, omega (arith, length_marks t, t.few))

-- Where one of the marks begins, and that it covers a gap.
pub among_from : (low : ℕ) (ms : List Mark) (x : Mark) → in_order low ms ≡ true → In x ms → (low ≤ x.first) × (x.first < x.last)
among_from low [] x h a = absurd a
among_from low (m ∷ ms) x h a =
    let o = begun low m ms h in
    ⊎_elim
    (λ (e : x ≡ m). let f = ap (λ k. k.first) e in let l = ap (λ k. k.last) e in (omega arith, omega arith))
    (λ (b : In x ms). let r = among_from m.last ms x o.rest b in (omega arith, r.1))
    a

pub place_from : (low : ℕ) (ms : List Mark) (j : ℕ) (d : Mark) → in_order low ms ≡ true → j < length ms → low ≤ (get_or ms j d).first
place_from low [] j d h k = absurd (omega arith)
place_from low (m ∷ ms) zero d h k = (begun low m ms h).from_low
place_from low (m ∷ ms) (suc j) d h k =
    let o = begun low m ms h in
    let r = place_from m.last ms j d o.rest (omega arith) in omega arith

pub rises : (low : ℕ) (ms : List Mark) (i j : ℕ) (d : Mark) → in_order low ms ≡ true → i < j → j < length ms → (get_or ms i d).last ≤ (get_or ms j d).first
rises low [] i j d h k l = absurd (omega arith)
rises low (m ∷ ms) i zero d h k l = absurd (omega arith)
rises low (m ∷ ms) zero (suc j) d h k l = place_from m.last ms j d (begun low m ms h).rest (omega arith)
rises low (m ∷ ms) (suc i) (suc j) d h k l = rises m.last ms i j d (begun low m ms h).rest (omega arith) (omega arith)

pub later_marks_begin_later : LaterMarksBeginLater
later_marks_begin_later ms s i j d k l = rises 1 ms i j d (ordered ms s) k l

pub one_covers : (low : ℕ) (ms : List Mark) (x y : Mark) (g : ℕ) → in_order low ms ≡ true → In x ms → In y ms → Covers x g → Covers y g → x ≡ y
one_covers low [] x y g h a b c d = absurd a
one_covers low (m ∷ ms) x y g h a b c d =
    let o = begun low m ms h in
    ⊎_elim
    (λ (e : x ≡ m). ⊎_elim
    (λ (f : y ≡ m). e ∙ sym f)
    (λ (v : In y ms). let l = ap (λ k. k.last) e in let r = among_from m.last ms y o.rest v in absurd (omega arith))
    b)
    (λ (u : In x ms). ⊎_elim
    (λ (f : y ≡ m). let l = ap (λ k. k.last) f in let r = among_from m.last ms x o.rest u in absurd (omega arith))
    (λ (v : In y ms). one_covers m.last ms x y g o.rest u v c d)
    b)
    a

pub no_gap_shared : NoGapShared
no_gap_shared ms s x y g a b c d = one_covers 1 ms x y g (ordered ms s) a b c d
