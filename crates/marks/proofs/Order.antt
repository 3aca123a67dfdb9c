-- Laying and lifting a mark keep the marks in order.
use Rattle.std.proofs.Common.{◌≡◌, ℕ, ◌<◌, ◌≤◌, true, false, eqb, ltb, List, [], ◌∷◌, length, None, sym, refl, ◌∙◌, subst, ⊎_elim, arith}
use Rattle.std.proofs.lemmas.Bool.{cases_lt, cases_eq, eq-eqb, ne_eqb}
use Rattle.std.proofs.lemmas.Bool.Decides.{nat_tests}
use Rattle.division.specs.declared.mark.Mark.{Mark}
use Rattle.marks.specs.Marks.{shares_any, in_order, laid, lifted, lay_refusal}

-- What `in_order` says of the first mark and of the rest.
pub record Begun (low : ℕ) (m : Mark) (ms : List Mark) : Type 0 where
  pub from_low : low ≤ m.first
  pub covers : m.first < m.last
  pub none_or_one : m.boundaries ≤ 1
  pub rest : in_order m.last ms ≡ true

pub begun : (low : ℕ) (m : Mark) (ms : List Mark) → in_order low (m ∷ ms) ≡ true → Begun low m ms
begun low m ms h = record { from_low = grind (arith, nat_tests); covers = grind (arith, nat_tests); none_or_one = grind (arith, nat_tests); rest = grind (arith, nat_tests) }

pub begin : (low : ℕ) (m : Mark) (ms : List Mark) → Begun low m ms → in_order low (m ∷ ms) ≡ true
begin low m ms k = grind (arith, nat_tests)

pub from_lower : (low lower : ℕ) (ms : List Mark) → lower ≤ low → in_order low ms ≡ true → in_order lower ms ≡ true
from_lower low lower [] k h = refl
from_lower low lower (x ∷ xs) k h =
    let o = begun low x xs h in
    begin lower x xs record { from_low = omega arith; covers = o.covers; none_or_one = o.none_or_one; rest = o.rest }

pub laid_in_order : (low : ℕ) (m : Mark) (ms : List Mark) → in_order low ms ≡ true → low ≤ m.first → m.first < m.last → m.boundaries ≤ 1 → shares_any m ms ≡ false → in_order low (laid m ms) ≡ true
laid_in_order low m [] h a b c q = grind (arith, nat_tests)
laid_in_order low m (x ∷ xs) h a b c q =
    let o = begun low x xs h in
    ⊎_elim
    (λ (l : m.first < x.first).
    let g : ltb m.first x.first ≡ true = grind (arith, nat_tests) in
    let f : m.last ≤ x.first = grind (arith, nat_tests) in
    rw g (begin low m (x ∷ xs) record { from_low = a; covers = b; none_or_one = c; rest = begin m.last x xs record { from_low = f; covers = o.covers; none_or_one = o.none_or_one; rest = o.rest } }))
    (λ (l : x.first ≤ m.first).
    let g : ltb m.first x.first ≡ false = grind (arith, nat_tests) in
    let f : x.last ≤ m.first = grind (arith, nat_tests) in
    let r : shares_any m xs ≡ false = grind (arith, nat_tests) in
    rw g (begin low x (laid m xs) record { from_low = o.from_low; covers = o.covers; none_or_one = o.none_or_one; rest = laid_in_order x.last m xs o.rest f b c r }))
    (cases_lt m.first x.first)

pub lifted_in_order : (low first : ℕ) (ms : List Mark) → in_order low ms ≡ true → in_order low (lifted first ms) ≡ true
lifted_in_order low first [] h = refl
lifted_in_order low first (x ∷ xs) h =
    let o = begun low x xs h in
    ⊎_elim
    (λ (e : x.first ≡ first). let f : eqb x.first first ≡ true = eq-eqb _ _ e in
    rw f (from_lower x.last low xs (omega arith) o.rest))
    (λ (e : x.first ≡ first → ⊥). let f : eqb x.first first ≡ false = ne_eqb _ _ e in
    rw f (begin low x (lifted first xs) record { from_low = o.from_low; covers = o.covers; none_or_one = o.none_or_one; rest = lifted_in_order x.last first xs o.rest }))
    (cases_eq x.first first)

-- What a mark has that is not refused.
pub record Allowed (n : ℕ) (m : Mark) (ms : List Mark) : Type 0 where
  pub from_one : 1 ≤ m.first
  pub covers : m.first < m.last
  pub on_line : m.last ≤ n
  pub none_or_one : m.boundaries ≤ 1
  pub apart : shares_any m ms ≡ false
  pub room : length ms < 64

pub allowed : (n : ℕ) (m : Mark) (ms : List Mark) → None ≡ lay_refusal n m ms → Allowed n m ms
allowed n m ms h = record { from_one = grind (arith, nat_tests); covers = grind (arith, nat_tests); on_line = grind (arith, nat_tests); none_or_one = grind (arith, nat_tests); apart = grind (arith, nat_tests); room = grind (arith, nat_tests) }

-- The marks that `lay` leaves in its places are in order.
pub lay_keeps : (n : ℕ) (m : Mark) (ms put new : List Mark) → in_order 1 ms ≡ true → None ≡ lay_refusal n m ms → laid m ms ≡ put → new ≡ put → in_order 1 new ≡ true
lay_keeps n m ms put new h k e d =
    let a = allowed n m ms k in
    subst (λ xs. in_order 1 xs ≡ true) (e ∙ sym d) (laid_in_order 1 m ms h a.from_one a.covers a.none_or_one a.apart)

-- And so are those that `lift` leaves.
pub lift_keeps : (first : ℕ) (ms left new : List Mark) → in_order 1 ms ≡ true → lifted first ms ≡ left → new ≡ left → in_order 1 new ≡ true
lift_keeps first ms left new h e d = subst (λ xs. in_order 1 xs ≡ true) (e ∙ sym d) (lifted_in_order 1 first ms h)
