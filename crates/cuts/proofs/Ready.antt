-- What holds where nothing refuses a cut.
use Rattle.std.proofs.Common.{◌≡◌, ℕ, ◌+◌, ◌-◌, ◌*◌, ◌^◌, ◌<◌, ◌≤◌, Bool, true, false, eqb, ltb, leb, List, [], ◌∷◌, Some, None, Option, refl, arith}
use Rattle.std.proofs.lemmas.Bool.Decides.{nat_tests}
use Rattle.std.specs.List.{AllByRecursion}
use Rattle.fault.specs.declared.Fault.{Fault}
use Rattle.fault.specs.Refusal.{or_else, when}
use Rattle.loss.specs.Table.{Table}
use Rattle.loss.specs.Lines.{line_refusal}
use Rattle.division.specs.declared.mark.Mark.{Mark}
use Rattle.division.specs.Stretches.{WellFormed}
use Rattle.marks.specs.declared.table.MarkTable.{MarkTable}
use Rattle.marks.specs.Table.{marks_of}
use Rattle.marks.specs.Theorems.{Standing}
use Rattle.marks.proofs.Stand.{every_table_stands}
use Rattle.search.specs.Usable.{Usable}
use Rattle.cuts.specs.Outcome.{room_refusal, penalty_refusal, count_refusal}

neither : (a b : Option Fault) → or_else a b ≡ None → (a ≡ None) × (b ≡ None)
neither None b h = (refl, h)
neither (Some f) b h = let z : ◌≡◌ {A = ℕ} 0 1 = cc in absurd (omega arith)

not_so : (test : Bool) (f : Fault) → when test f ≡ None → test ≡ false
not_so true f h = let z : ◌≡◌ {A = ℕ} 0 1 = cc in absurd (omega arith)
not_so false f h = refl

no_less : (a b : ℕ) (f : Fault) → when (ltb a b) f ≡ None → b ≤ a
no_less a b f h = let e : ltb a b ≡ false = not_so (ltb a b) f h in grind (arith, nat_tests)

no_most : (a b : ℕ) (f : Fault) → when (leb a b) f ≡ None → b < a
no_most a b f h = let e : leb a b ≡ false = not_so (leb a b) f h in grind (arith, nat_tests)

no_zero : (a : ℕ) (f : Fault) → when (eqb a 0) f ≡ None → 0 < a
no_zero a f h = let e : eqb a 0 ≡ false = not_so (eqb a 0) f h in grind (arith, nat_tests)

pub record Ready (t : Table) (n rows numbers trace places : ℕ) : Type 0 where
  pub some : 0 < n
  pub short : n ≤ 512
  pub usable : Usable t n
  pub numbers_room : 3 * (n + 1) ≤ numbers
  pub trace_room : rows * (n + 1) ≤ trace
  pub places_room : n - 1 ≤ places

ready : (t : Table) (n rows numbers trace places : ℕ) → or_else (line_refusal t n) (room_refusal n rows numbers trace places) ≡ None → Ready t n rows numbers trace places
ready t n rows numbers trace places h =
    let both = neither _ _ h in
    let heavy = neither _ _ both.0 in
    let none = neither _ _ heavy.1 in
    let many = neither _ _ none.1 in
    let short = neither _ _ both.1 in
    let back = neither _ _ short.1 in
    record {
      some = no_zero n _ none.0;
      short = no_less 512 n _ many.0;
      usable = record { light = no_less (2 ^ 40) t.ceiling _ heavy.0; long = no_less t.length n _ many.1 };
      numbers_room = no_less numbers (3 * (n + 1)) _ short.0;
      trace_room = no_less trace (rows * (n + 1)) _ back.0;
      places_room = no_less places (n - 1) _ back.1;
    }

pub ready_by_penalty : (t : Table) (n penalty numbers trace places : ℕ) → penalty_refusal t n penalty numbers trace places ≡ None → (penalty ≤ 2 ^ 49) × Ready t n 1 numbers trace places
ready_by_penalty t n penalty numbers trace places h =
    let both = neither _ _ h in (no_less (2 ^ 49) penalty _ both.0, ready t n 1 numbers trace places both.1)

pub ready_by_count : (t : Table) (n count numbers trace places : ℕ) → count_refusal t n count numbers trace places ≡ None → (count < n) × Ready t n (count + 1) numbers trace places
ready_by_count t n count numbers trace places h =
    let both = neither _ _ h in (no_most n count _ both.0, ready t n (count + 1) numbers trace places both.1)

all_formed : (ms : List Mark) → Standing ms → AllByRecursion WellFormed ms
all_formed [] s = tt
all_formed (m ∷ ms) s = (s.0, all_formed ms s.2)

-- the marks of a table are well formed
pub table_formed : (t : MarkTable) → AllByRecursion WellFormed (marks_of t)
table_formed t = all_formed (marks_of t) (every_table_stands t).0
