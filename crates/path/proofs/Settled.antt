-- From what the parts of a path did to what the path does.
use Rattle.std.proofs.Common.{◌≡◌, ℕ, ◌+◌, ◌*◌, ◌<◌, ◌≤◌, Bool, false, cond, ltb, List as Seq, length, drop, Some, None, Ok, Err, Option, Result, sym, refl, ap, ◌∙◌, subst, arith, MatchResult}
use Rattle.std.proofs.lemmas.Bool.{le-ltb}
use Rattle.std.proofs.lemmas.Bool.Decides.{nat_tests}
use Rattle.fault.specs.declared.Fault.{Fault}
use Rattle.fault.specs.declared.Fault.TheVariants.{ShortBuffer}
use Rattle.loss.specs.Table.{Table}
use Rattle.list.specs.declared.List.{List}
use Rattle.list.specs.Entries.{entries, places}
use Rattle.division.specs.declared.mark.Mark.{Mark}
use Rattle.division.specs.Winner.{by_penalty, winner}
use Rattle.search.specs.Usable.{Usable}
use Rattle.envelope.specs.declared.Step.{Step}
use Rattle.envelope.specs.Next.{Holding, found, answer}
use Rattle.envelope.specs.Path.{path_at, path_steps, losses_in, read, reached}
use Rattle.envelope.proofs.Begins.{path_at_same, only_counts_below}
use Rattle.path.specs.Cuts.{least_loss, line_path, as_step}
use Rattle.path.specs.Outcome.{path_refusal, path_outcome, PathWritten}
use Rattle.path.proofs.Least.{row_of, row_length, row_losses, Left}
use Rattle.path.proofs.Named.{path_names_the_cut, steps_name_every_cut}

-- what an accepted path tells of the line and the lent room
pub record Begun (t : Table) (n numbers room : ℕ) : Type 0 where
  pub some : 0 < n
  pub short : n ≤ 512
  pub usable : Usable t n
  pub numbers_room : 3 * (n + 1) ≤ numbers
  pub list_room : n ≤ room

pub begun : (t : Table) (n numbers room : ℕ) → path_refusal t n numbers room ≡ None → Begun t n numbers room
begun t n numbers room h = record {
  some = grind (arith, nat_tests);
  short = grind (arith, nat_tests);
  usable = record { light = grind (arith, nat_tests); long = grind (arith, nat_tests) };
  numbers_room = grind (arith, nat_tests);
  list_room = grind (arith, nat_tests);
}

found_is : (f : ℕ → ℕ → ℕ) (n p : ℕ) (w : Option (Seq ℕ)) → found (as_step f n p w) ≡ path_outcome None w
found_is f n p None = refl
found_is f n p (Some d) = refl

module _ (t : Table) (marks : Seq Mark) (m n : ℕ) (numbers numbers' : Seq ℕ) (old new : List Step) (r : Result (Unit {0}) Fault)
    (go : path_refusal t n (length numbers) (length (places old)) ≡ None) (wide : length numbers' ≡ length numbers) (left : Left t.loss marks m n numbers')
    (value : r ≡ answer (length (row_of n numbers')) (length (places old)) (path_at (losses_in (row_of n numbers')) 0 (length (row_of n numbers'))))
    (cases : MatchResult r (λ _. Holding (path_steps (losses_in (row_of n numbers')) (length (row_of n numbers'))) old new) (λ _. new ≡ old)) where
  long : length (row_of n numbers') ≡ n
  long = row_length n numbers' (omega (arith, (begun t n (length numbers) (length (places old)) go).numbers_room, wide))

  row_is : (k : ℕ) → k < n → losses_in (row_of n numbers') k ≡ least_loss t.loss marks m n k
  row_is = row_losses t.loss marks m n numbers' left

  path_is : path_steps (losses_in (row_of n numbers')) (length (row_of n numbers')) ≡ line_path t.loss marks m n
  path_is = ap (path_steps (losses_in (row_of n numbers'))) long ∙ only_counts_below (losses_in (row_of n numbers')) (least_loss t.loss marks m n) n row_is

  best_is : path_at (losses_in (row_of n numbers')) 0 (length (row_of n numbers')) ≡ as_step t.loss n 0 (winner (by_penalty 0) t.loss marks m n)
  best_is = ap (path_at (losses_in (row_of n numbers')) 0) long ∙ path_at_same (losses_in (row_of n numbers')) (least_loss t.loss marks m n) 0 n row_is ∙ path_names_the_cut t.loss 0 marks m n

  roomy : ltb (length (places old)) (length (row_of n numbers')) ≡ false
  roomy = le-ltb _ _ (omega (arith, long, (begun t n (length numbers) (length (places old)) go).list_room))

  outcome_is : r ≡ path_outcome None (winner (by_penalty 0) t.loss marks m n)
  outcome_is =
      value ∙ ap (λ (b : Bool). cond b (Err ShortBuffer) (found (path_at (losses_in (row_of n numbers')) 0 (length (row_of n numbers'))))) roomy
      ∙ ap found best_is ∙ found_is t.loss n 0 (winner (by_penalty 0) t.loss marks m n)

  abbrev Done : Result (Unit {0}) Fault → Type 0
  Done q = (q ≡ Ok tt → entries new ≡ line_path t.loss marks m n) × (drop (length (entries new)) (places new) ≡ drop (length (entries new)) (places old)) × ((e : Fault) → q ≡ Err e → new ≡ old) × (new.items.ghost_name ≡ old.items.ghost_name)

  done : (q : Result (Unit {0}) Fault) → MatchResult q (λ _. Holding (path_steps (losses_in (row_of n numbers')) (length (row_of n numbers'))) old new) (λ _. new ≡ old) → Done q
  done (Ok u) h = (
    (λ _. h.entries_are ∙ path_is),
    subst (λ (xs : Seq Step). drop (length xs) (places new) ≡ drop (length xs) (places old)) (sym h.entries_are) h.past,
    (λ e z. let o : ◌≡◌ {A = ℕ} 0 1 = cc in absurd (omega arith)),
    h.lender,
  )
  done (Err f) h = (
    (λ z. let o : ◌≡◌ {A = ℕ} 0 1 = cc in absurd (omega arith)),
    ap (λ (l : List Step). drop (length (entries new)) (places l)) h,
    (λ e z. h),
    ap (λ (l : List Step). l.items.ghost_name) h,
  )

  pub written : PathWritten (path_refusal t n (length numbers) (length (places old))) t.loss marks m n r old new numbers numbers'
  written =
      let d = done r cases in
      record {
        answer = outcome_is ∙ ap (λ (o : Option Fault). path_outcome o (winner (by_penalty 0) t.loss marks m n)) (sym go);
        listed = d.0;
        names = λ z p b. ap (λ ss. read p (reached p ss)) (d.0 z) ∙ steps_name_every_cut t.loss marks m n p b;
        past = d.1;
        kept = d.2;
        untouched = λ e z. let o : ◌≡◌ {A = ℕ} 0 1 = cc in absurd (omega arith);
      }
