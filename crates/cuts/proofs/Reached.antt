-- What a search that was not refused has found is the winner, with its total, and there is room for it.
use Rattle.std.proofs.Common.{◌≡◌, ℕ, ◌+◌, ◌-◌, ◌*◌, ◌^◌, ◌≤◌, List, Some, None, Option, subst, arith}
use Rattle.loss.specs.Table.{Table}
use Rattle.division.specs.Stretches.{Permitted}
use Rattle.division.specs.Winner.{by_penalty, by_count, winner, total}
use Rattle.marks.specs.declared.table.MarkTable.{MarkTable}
use Rattle.marks.specs.Table.{marks_of}
use Rattle.search.specs.Starts.{any_number, exactly}
use Rattle.search.specs.Rows.{Found, part}
use Rattle.cuts.specs.Outcome.{penalty_refusal, count_refusal}
use Rattle.cuts.specs.Found.{Reached}
use Rattle.cuts.proofs.Tallied.{total_tally, loss_tally}
use Rattle.cuts.proofs.Joined.{penalty_none, penalty_some, count_none, count_some}
use Rattle.cuts.proofs.Ready.{ready_by_penalty, ready_by_count, table_formed}

module _ (T : Table) (n m : ℕ) (marks : MarkTable) where
  abbrev pub FoundByPenalty : ℕ → List ℕ → Option ((ℕ × ℕ) × ℕ) → Type 0
  FoundByPenalty p list o =
      Found (total_tally T.loss p) (any_number (Permitted (marks_of marks) m n)) (λ v. (v.0 ≤ 2 ^ 40 * n + 2 ^ 49 * v.1) × (v.1 ≤ n - 1)) tt n (n + 1) list o

  abbrev pub FoundByCount : ℕ → List ℕ → Option (ℕ × ℕ) → Type 0
  FoundByCount k list o = Found (loss_tally T.loss) (exactly (Permitted (marks_of marks) m n)) (λ v. v ≤ 2 ^ 40 * n) (k + 1) n ((k + 1) * (n + 1)) list o

module _ (T : Table) (n m : ℕ) (marks : MarkTable) (numbers trace places : ℕ) where
  pub none_by_penalty : (p : ℕ) (list : List ℕ) (o : Option ((ℕ × ℕ) × ℕ)) → penalty_refusal T n p numbers trace places ≡ None → FoundByPenalty T n m marks p list o → o ≡ None
      → winner (by_penalty p) T.loss (marks_of marks) m n ≡ None
  none_by_penalty p list o e h q =
      let ready = (ready_by_penalty T n p numbers trace places e).1 in
      let said : FoundByPenalty T n m marks p list None = subst (FoundByPenalty T n m marks p list) q h in
      penalty_none T.loss (marks_of marks) m n ready.some (table_formed marks) p said

  pub some_by_penalty : (p : ℕ) (list : List ℕ) (o : Option ((ℕ × ℕ) × ℕ)) (t k from : ℕ) → penalty_refusal T n p numbers trace places ≡ None → FoundByPenalty T n m marks p list o → o ≡ Some ((t, k), from)
      → Reached (winner (by_penalty p) T.loss (marks_of marks) m n) (total (by_penalty p) T.loss n) trace places from (n + 1) t (part from (n + 1) list)
  some_by_penalty p list o t k from e h q =
      let ready = (ready_by_penalty T n p numbers trace places e).1 in
      let said : FoundByPenalty T n m marks p list (Some ((t, k), from)) = subst (FoundByPenalty T n m marks p list) q h in
      let won = penalty_some T.loss (marks_of marks) m n ready.some (table_formed marks) p (λ v. (v.0 ≤ 2 ^ 40 * n + 2 ^ 49 * v.1) × (v.1 ≤ n - 1)) (n + 1) list t k from said in
      record {
        is = won.0;
        costs = won.1;
        bounded = omega (arith, said.3.0, said.3.1, ready.short);
        order = (said.4, omega (arith, ready.trace_room));
        room = omega (arith, won.2, ready.places_room);
      }

  pub none_by_count : (k : ℕ) (list : List ℕ) (o : Option (ℕ × ℕ)) → count_refusal T n k numbers trace places ≡ None → FoundByCount T n m marks k list o → o ≡ None
      → winner (by_count k) T.loss (marks_of marks) m n ≡ None
  none_by_count k list o e h q =
      let ready = (ready_by_count T n k numbers trace places e).1 in
      let said : FoundByCount T n m marks k list None = subst (FoundByCount T n m marks k list) q h in
      count_none T.loss (marks_of marks) m n ready.some (table_formed marks) k said

  pub some_by_count : (k : ℕ) (list : List ℕ) (o : Option (ℕ × ℕ)) (t from : ℕ) → count_refusal T n k numbers trace places ≡ None → FoundByCount T n m marks k list o → o ≡ Some (t, from)
      → Reached (winner (by_count k) T.loss (marks_of marks) m n) (total (by_count k) T.loss n) trace places from ((k + 1) * (n + 1)) t (part from ((k + 1) * (n + 1)) list)
  some_by_count k list o t from e h q =
      let ready = (ready_by_count T n k numbers trace places e).1 in
      let said : FoundByCount T n m marks k list (Some (t, from)) = subst (FoundByCount T n m marks k list) q h in
      let won = count_some T.loss (marks_of marks) m n ready.some (table_formed marks) k (λ v. v ≤ 2 ^ 40 * n) ((k + 1) * (n + 1)) list t from said in
      record {
        is = won.0;
        costs = won.1;
        bounded = omega (arith, said.3, ready.short);
        order = (said.4, ready.trace_room);
        room = omega (arith, won.2, ready.places_room);
      }

-- a search leaves its trace as long as it was
pub as_long : (w : Option (List ℕ)) (cost : List ℕ → ℕ) (trace trace' places from end t : ℕ) (d : List ℕ) → trace' ≡ trace → Reached w cost trace places from end t d → Reached w cost trace' places from end t d
as_long w cost trace trace' places from end t d same h =
    record { is = h.is; costs = h.costs; bounded = h.bounded; order = (h.order.0, omega (arith, h.order.1)); room = h.room }
