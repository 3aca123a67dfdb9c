-- The language: what each line says, or why it is refused.
use Rattle.std.specs.Prelude.{ℕ, cond, List, [], ◌∷◌, length, Some, None, Ok, Err, codes, Option, Result, ◌==◌, nat_lt, slice_index}
use Rattle.std.specs.Str.{bytes_eq}
use Rattle.fault.specs.declared.Fault.{Fault}
use Rattle.fault.specs.declared.Fault.TheVariants.{MalformedLine, UnknownFrame}
use Rattle.leaves.specs.declared.kind.LossKind.TheVariants.{Squares, Distances, Votes}
use Rattle.command.specs.Words.{words, all_legible}
use Rattle.command.specs.Numbers.{natural, reading}
use Rattle.command.specs.Said.{Said, nothing, help, loss, readings, mark, unmark, shortest, price, best_by_penalty, best_by_count, path}

-- one step after another, up to the first refusal
abbrev pub and_then : {X Y : Type 0} → Result X Fault → (X → Result Y Fault) → Result Y Fault
and_then (Ok x) f = f x
and_then (Err e) f = Err e

-- the number, where the word writes one
abbrev pub number : {X : Type 0} → Option X → Result X Fault
number None = Err MalformedLine
number (Some x) = Ok x

-- a number in front of others
abbrev pub in_front : {X : Type 0} → Option X → Option (List X) → Option (List X)
in_front None more = None
in_front (Some x) None = None
in_front (Some x) (Some more) = Some (x ∷ more)

-- the numbers, where every word writes one
abbrev pub read_all : {X : Type 0} → (List ℕ → Option X) → List (List ℕ) → Option (List X)
read_all f [] = Some []
read_all f (w ∷ ws) = in_front (f w) (read_all f ws)

-- the number of words has to fit
abbrev pub alone : Said → List (List ℕ) → Result Said Fault
alone s [] = Ok s
alone s (w ∷ ws) = Err UnknownFrame

abbrev pub one : List (List ℕ) → Result (List ℕ) Fault
one [] = Err UnknownFrame
one (w ∷ []) = Ok w
one (w ∷ x ∷ ws) = Err UnknownFrame

abbrev pub three : List (List ℕ) → Result (List ℕ × List ℕ × List ℕ) Fault
three [] = Err UnknownFrame
three (a ∷ []) = Err UnknownFrame
three (a ∷ b ∷ []) = Err UnknownFrame
three (a ∷ b ∷ c ∷ []) = Ok (a, b, c)
three (a ∷ b ∷ c ∷ d ∷ ws) = Err UnknownFrame

-- loss squares | loss distances | loss votes
abbrev pub loss_named : List ℕ → Result Said Fault
loss_named w =
    cond (bytes_eq w (codes "squares")) (Ok (loss Squares))
    (cond (bytes_eq w (codes "distances")) (Ok (loss Distances))
    (cond (bytes_eq w (codes "votes")) (Ok (loss Votes)) (Err UnknownFrame)))

abbrev pub to_loss : List (List ℕ) → Result Said Fault
to_loss ws = and_then (one ws) loss_named

-- readings R R ..
abbrev pub to_readings : List (List ℕ) → Result Said Fault
to_readings [] = Err UnknownFrame
to_readings (w ∷ ws) = and_then (number (read_all reading (w ∷ ws))) (λ all. Ok (readings all))

-- mark FIRST LAST BOUNDARIES
abbrev pub to_mark : List (List ℕ) → Result Said Fault
to_mark ws =
    and_then (three ws) (λ t. and_then (number (natural 16 t.0)) (λ a. and_then (number (natural 16 t.1)) (λ b. and_then (number (natural 8 t.2)) (λ k.
    Ok (mark (record { first = a; last = b; boundaries = k }))))))

-- unmark FIRST
abbrev pub to_unmark : List (List ℕ) → Result Said Fault
to_unmark ws = and_then (one ws) (λ w. and_then (number (natural 16 w)) (λ first. Ok (unmark first)))

-- shortest M
abbrev pub to_shortest : List (List ℕ) → Result Said Fault
to_shortest ws = and_then (one ws) (λ w. and_then (number (natural 16 w)) (λ m. Ok (shortest m)))

-- what stands behind the word `at`, or nothing
abbrev pub behind_at : List (List ℕ) → Result (List (List ℕ)) Fault
behind_at [] = Ok []
behind_at (w ∷ ws) = cond (bytes_eq w (codes "at")) (Ok ws) (Err UnknownFrame)

-- price PENALTY, or price PENALTY at GAP GAP ..
abbrev pub to_price : List (List ℕ) → Result Said Fault
to_price [] = Err UnknownFrame
to_price (p ∷ ws) =
    and_then (behind_at ws) (λ gaps. and_then (number (natural 64 p)) (λ penalty. and_then (number (read_all (natural 16) gaps)) (λ all. Ok (price penalty all))))

-- best PENALTY, or best count COUNT
abbrev pub to_best : List (List ℕ) → Result Said Fault
to_best [] = Err UnknownFrame
to_best (p ∷ []) = and_then (number (natural 64 p)) (λ penalty. Ok (best_by_penalty penalty))
to_best (w ∷ k ∷ []) = cond (bytes_eq w (codes "count")) (and_then (number (natural 16 k)) (λ count. Ok (best_by_count count))) (Err UnknownFrame)
to_best (w ∷ k ∷ x ∷ ws) = Err UnknownFrame

-- the first word names the command; '#' begins a comment
abbrev pub by_name : List ℕ → List (List ℕ) → Result Said Fault
by_name name ws =
    cond (slice_index name 0 == 35) (Ok nothing)
    (cond (bytes_eq name (codes "help")) (alone help ws)
    (cond (bytes_eq name (codes "loss")) (to_loss ws)
    (cond (bytes_eq name (codes "readings")) (to_readings ws)
    (cond (bytes_eq name (codes "mark")) (to_mark ws)
    (cond (bytes_eq name (codes "unmark")) (to_unmark ws)
    (cond (bytes_eq name (codes "shortest")) (to_shortest ws)
    (cond (bytes_eq name (codes "price")) (to_price ws)
    (cond (bytes_eq name (codes "best")) (to_best ws)
    (cond (bytes_eq name (codes "path")) (alone path ws) (Err UnknownFrame))))))))))

abbrev pub read_words : List (List ℕ) → Result Said Fault
read_words [] = Ok nothing
read_words (name ∷ ws) = by_name name ws

-- a line of at most 4096 legible bytes
abbrev pub read_line : List ℕ → Result Said Fault
read_line line = cond (nat_lt 4096 (length line)) (Err MalformedLine) (cond (all_legible line) (read_words (words line)) (Err MalformedLine))
