-- How many readings a frame holds.
use Rattle.std.proofs.Common.{◌≡◌, ℕ, ◌/◌, ◌%◌, ◌<◌, ◌≤◌, true, ◌&&◌, eqb, ltb, leb, arith}
use Rattle.std.proofs.lemmas.Bool.{eqb-true, leb-true, ltb-true, eq-eqb, le-leb, lt-ltb, and_parts, and_from}
use Rattle.frames.specs.declared.size.ReadingSize.{ReadingSize}
use Rattle.frames.specs.declared.size.ReadingSize.TheVariants.{Two, Three}
use Rattle.frames.specs.Size.{bytes_each, whole_readings}
use Rattle.frames.specs.Theorems.{SizesInWords}

-- the three parts of the test
pub record Whole (size : ReadingSize) (n : ℕ) : Type 0 where
  pub some : 0 < n
  pub few : n ≤ 64
  pub even : n % bytes_each size ≡ 0

pub tested : (size : ReadingSize) (n : ℕ) → whole_readings size n ≡ true → Whole size n
tested size n e =
    let p = and_parts (ltb 0 n) (leb n 64 && eqb (n % bytes_each size) 0) e in
    let q = and_parts (leb n 64) (eqb (n % bytes_each size) 0) p.1 in
    record { some = ltb-true 0 n p.0; few = leb-true n 64 q.0; even = eqb-true (n % bytes_each size) 0 q.1 }

passes : (size : ReadingSize) (n : ℕ) → Whole size n → whole_readings size n ≡ true
passes size n w =
    and_from (ltb 0 n) (leb n 64 && eqb (n % bytes_each size) 0) (lt-ltb 0 n w.some)
    (and_from (leb n 64) (eqb (n % bytes_each size) 0) (le-leb n 64 w.few) (eq-eqb (n % bytes_each size) 0 w.even))

pub sizes_in_words : SizesInWords
sizes_in_words =
    record {
      two = λ n. (
        λ e. let w = tested Two n e in record { readings_held = n / 2; some = omega arith; few = omega arith; long = omega arith },
        λ h. passes Two n (record { some = omega arith; few = omega arith; even = omega arith }),
      );
      three = λ n. (
        λ e. let w = tested Three n e in record { readings_held = n / 3; some = omega arith; few = omega arith; long = omega arith },
        λ h. passes Three n (record { some = omega arith; few = omega arith; even = omega arith }),
      );
    }
