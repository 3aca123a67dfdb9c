-- What a search for the winner leaves in the trace.
use Rattle.std.specs.Prelude.{◌≡◌, ℕ, ◌^◌, ◌≤◌, List as Seq, length, Some, None, Ok, Err, Option, Result}
use Rattle.fault.specs.declared.Fault.{Fault}
use Rattle.search.specs.Rows.{part}
use Rattle.cuts.specs.declared.cuts.Found.{Found}

-- the list d is the winner, of the total t, and stands in the places `from` to `end` - 1 of a trace
pub record Reached (winner : Option (Seq ℕ)) (cost : Seq ℕ → ℕ) (trace places from end t : ℕ) (d : Seq ℕ) : Type 0 where
  pub is : winner ≡ Some d
  pub costs : t ≡ cost d
  pub bounded : t ≤ 2 ^ 58
  pub order : (from ≤ end) × (end ≤ trace)
  pub room : length d ≤ places

-- refused before the search, with both buffers as they stood; else no division is allowed, or the winner stands in the trace
abbrev pub Looked : Option Fault → Option (Seq ℕ) → (Seq ℕ → ℕ) → ℕ → Result (Option Found) Fault → Seq ℕ → Seq ℕ → Seq ℕ → Seq ℕ → Type 0
Looked refusal winner cost places (Err f) numbers numbers' trace trace' = (refusal ≡ Some f) × (numbers' ≡ numbers) × (trace' ≡ trace)
Looked refusal winner cost places (Ok None) numbers numbers' trace trace' = (refusal ≡ None) × (winner ≡ None)
Looked refusal winner cost places (Ok (Some x)) numbers numbers' trace trace' =
    (refusal ≡ None) × Reached winner cost (length trace') places x.from x.end x.total (part x.from x.end trace')
