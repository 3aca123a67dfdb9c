-- What becomes of readings that are offered to a loss of the levels lo to lo + span that holds the readings xs.
use Rattle.std.specs.Prelude.{ℕ, ◌+◌, Bool, cond, ◌&&◌, List, [], ◌∷◌, ◌++◌, length, ℤ, pos, ◌+ℤ◌, ◌-ℤ◌, Ok, Err, Result, int_le, nat_le, nat_lt, unsigned_abs}
use Rattle.std.specs.List.{list_all}
use Rattle.fault.specs.declared.Fault.{Fault}
use Rattle.fault.specs.declared.Fault.TheVariants.{ReadingOutOfRange, TooManyReadings}

-- whether x is one of the levels
abbrev pub between : ℤ → ℕ → ℤ → Bool
between lo span x = int_le lo x && int_le x (lo +ℤ pos span)

-- whether each of ys is
abbrev pub all_between : ℤ → ℕ → List ℤ → Bool
all_between lo span ys = list_all (between lo span) ys

-- a reading that is none of the levels is refused; then, so is one past 512
abbrev pub taken : ℤ → ℕ → List ℤ → ℤ → Result (Unit {0}) Fault
taken lo span xs x = cond (between lo span x) (cond (nat_lt (length xs) 512) (Ok tt) (Err TooManyReadings)) (Err ReadingOutOfRange)

-- the readings after it: a refused one leaves them as they were
abbrev pub after : ℤ → ℕ → List ℤ → ℤ → List ℤ
after lo span xs x = cond (between lo span x) (cond (nat_lt (length xs) 512) (xs ++ x ∷ []) xs) xs

-- the same of many, which are taken all or none
abbrev pub gathered : ℤ → ℕ → List ℤ → List ℤ → Result (Unit {0}) Fault
gathered lo span xs ys = cond (all_between lo span ys) (cond (nat_le (length xs + length ys) 512) (Ok tt) (Err TooManyReadings)) (Err ReadingOutOfRange)

abbrev pub after_all : ℤ → ℕ → List ℤ → List ℤ → List ℤ
after_all lo span xs ys = cond (all_between lo span ys) (cond (nat_le (length xs + length ys) 512) (xs ++ ys) xs) xs

-- one reading by its distance from lo, where n readings are held
abbrev pub admitted : ℤ → ℕ → ℕ → ℤ → Result ℕ Fault
admitted lo span n x = cond (between lo span x) (cond (nat_lt n 512) (Ok (unsigned_abs (x -ℤ lo))) (Err TooManyReadings)) (Err ReadingOutOfRange)
