-- What the answer for a stretch tells of its readings.
use Rattle.std.proofs.Common.{◌≡◌, ℕ, ◌-◌, ◌^◌, ◌<◌, ◌≤◌, true, ◌&&◌, ltb, leb, List, length, drop, ℤ, IfOk, Ok, Err, Result, sym, ◌∙◌, arith}
use Rattle.std.proofs.ByRecursion.{All-take, All-drop}
use Rattle.std.proofs.lemmas.Bool.Decides.{nat_tests}
use Rattle.std.specs.List.{AllByRecursion}
use Rattle.fault.specs.declared.Fault.{Fault}
use Rattle.loss.specs.Table.{Table, answer}
use Rattle.leaves.specs.Readings.{Least, least_from, Rising, Between, stretch_of, loss_of, table_of}
use Rattle.leaves.specs.Kept.{readings_at}
use Rattle.leaves.specs.Soundness.{length_held}
use Rattle.leaves.specs.LeastLevel.{least_of_all, least_between}

-- an answer that is a number
pub answer_is : (t : Table) (a b c : ℕ) → t.ceiling ≤ 2 ^ 40 → a < b → b ≤ t.length → c ≡ t.loss a b → Ok c ≡ answer t a b
answer_is t a b c light ab bn e = grind (arith, nat_tests)

-- a stretch that is there
pub stretch_tells : (a b n : ℕ) → true ≡ (ltb a b && leb b n) → (a < b) × (b ≤ n)
stretch_tells a b n h = (grind (arith, nat_tests), grind (arith, nat_tests))

-- an answer that is a number, of readings that are held
pub held_answer : (g : ℕ → ℕ) (ceiling : ℕ) (lo : ℤ) (us : List ℕ) (a b c : ℕ) → ceiling ≤ 2 ^ 40 → true ≡ (ltb a b && leb b (length us)) → c ≡ loss_of g (readings_at lo us) a b
    → Ok c ≡ answer (table_of g ceiling (readings_at lo us)) a b
held_answer g ceiling lo us a b c light h e =
    let t = stretch_tells a b (length us) h in
    answer_is (table_of g ceiling (readings_at lo us)) a b c light t.0 (omega (arith, length_held lo us, t.1)) e

pub answer_tells : (t : Table) (a b c : ℕ) → Ok c ≡ answer t a b → c ≡ t.loss a b
answer_tells t a b c h = grind (arith, nat_tests)

module _ (g : ℕ → ℕ) (rises : Rising g) (lo : ℤ) (span ceiling : ℕ) (xs : List ℤ) (fits : AllByRecursion (Between lo span) xs) (a b : ℕ) where
  pub answer_least : (r : Result ℕ Fault) → r ≡ answer (table_of g ceiling xs) a b → IfOk r (λ c. Least g (stretch_of xs a b) c)
  answer_least (Ok c) h = rw (answer_tells (table_of g ceiling xs) a b c h) (least_of_all g rises (stretch_of xs a b))
  answer_least (Err f) h = tt

  pub answer_between : (r : Result ℕ Fault) → r ≡ answer (table_of g ceiling xs) a b → IfOk r (λ c. c ≡ least_from g (stretch_of xs a b) lo span)
  answer_between (Ok c) h =
      answer_tells (table_of g ceiling xs) a b c h
      ∙ sym (least_between g rises lo span (stretch_of xs a b) (All-take (Between lo span) (b - a) (drop a xs) (All-drop (Between lo span) a xs fits)))
  answer_between (Err f) h = tt
