-- The marks of a line, first to last: which may stand together, and what laying one and lifting one gives.
use Rattle.std.specs.Prelude.{ℕ, Bool, true, cond, ◌&&◌, List, [], ◌∷◌, length, Some, None, Option, ◌==◌, nat_le, nat_lt}
use Rattle.std.specs.List.{list_any}
use Rattle.fault.specs.declared.Fault.{Fault}
use Rattle.fault.specs.declared.Fault.TheVariants.{BadMark, SharedGap, TooManyMarks, NoSuchMark}
use Rattle.division.specs.declared.mark.Mark.{Mark}

-- The mark lies on a line of n readings: 1 ≤ first < last ≤ n, with one boundary or none.
abbrev pub well_formed : ℕ → Mark → Bool
well_formed n m = nat_le 1 m.first && (nat_lt m.first m.last && (nat_le m.last n && nat_le m.boundaries 1))

-- Some gap is covered by both marks: each begins before the other ends.
abbrev pub shares_gap : Mark → Mark → Bool
shares_gap m x = nat_lt m.first x.last && nat_lt x.first m.last

-- The mark shares a gap with one of the list.
abbrev pub shares_any : Mark → List Mark → Bool
shares_any m ms = list_any (shares_gap m) ms

-- Each mark covers a gap and holds one boundary or none; the first begins at `low` or later, each next one where the one before it ends or later.
abbrev pub in_order : ℕ → List Mark → Bool
in_order low [] = true
in_order low (m ∷ ms) = (nat_le low m.first && (nat_lt m.first m.last && nat_le m.boundaries 1)) && in_order m.last ms

-- The marks with one more, put before the first that begins after it.
abbrev pub laid : Mark → List Mark → List Mark
laid m [] = m ∷ []
laid m (x ∷ xs) = cond (nat_lt m.first x.first) (m ∷ x ∷ xs) (x ∷ laid m xs)

-- One of the marks begins at the reading `first`.
abbrev pub begins_at : ℕ → List Mark → Bool
begins_at first ms = list_any (λ x. x.first == first) ms

-- The marks without the one that begins at the reading `first`.
abbrev pub lifted : ℕ → List Mark → List Mark
lifted first [] = []
lifted first (x ∷ xs) = cond (x.first == first) xs (x ∷ lifted first xs)

-- Why a mark cannot be laid on a line of n readings beside the marks ms.
abbrev pub lay_refusal : ℕ → Mark → List Mark → Option Fault
lay_refusal n m ms =
    cond (well_formed n m) (cond (shares_any m ms) (Some SharedGap) (cond (nat_lt (length ms) 64) None (Some TooManyMarks))) (Some BadMark)

-- Why no mark can be lifted from the reading `first`.
abbrev pub lift_refusal : ℕ → List Mark → Option Fault
lift_refusal first ms = cond (begins_at first ms) None (Some NoSuchMark)
