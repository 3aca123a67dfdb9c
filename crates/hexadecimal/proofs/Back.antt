-- What is written is read back, and the front of a line decides.
use Rattle.std.proofs.Common.{◌≡◌, ℕ, ◌+◌, ◌*◌, ◌/◌, ◌%◌, ◌<◌, true, false, eqb, ltb, List, [], ◌∷◌, length, take, Some, None, Err, Option, sym, refl, ap, ◌∙◌, inl, inr, arith, rules}
use Rattle.std.proofs.lemmas.List.{length-take-le, take_all}
use Rattle.std.proofs.lemmas.Bool.{ne_eqb, lt-ltb, le-ltb, cases_lt}
use Rattle.fault.specs.declared.Fault.TheVariants.{MalformedLine}
use Rattle.hexadecimal.specs.Digits.{digit_value, digit_for, in_front, bytes_in, text_of}
use Rattle.hexadecimal.specs.Line.{line_bytes}
use Rattle.hexadecimal.proofs.Texts.{length_text}
use Rattle.hexadecimal.specs.Theorems.{ReadBack, WrittenBack, LineReadBack, FrontSuffices}

digit_back : (d : ℕ) → d < 16 → digit_value (digit_for d) ≡ Some d
digit_back d l = search rules

value_back : (c d : ℕ) → digit_value c ≡ Some d → (digit_for d ≡ c) × (d < 16)
value_back c d e = search rules

pub read_back : ReadBack
read_back [] all = refl
read_back (b ∷ bs) all =
    let high : digit_value (digit_for (b / 16)) ≡ Some (b / 16) = digit_back (b / 16) (omega arith) in
    let low : digit_value (digit_for (b % 16)) ≡ Some (b % 16) = digit_back (b % 16) (omega arith) in
    let rest : bytes_in (text_of bs) ≡ Some bs = read_back bs all.1 in
    let whole : b / 16 * 16 + b % 16 ≡ b = omega arith in
    simp (high, low, rest, whole)

-- the digits and bytes that a front byte came from
record Parted (a b : Option ℕ) (left : Option (List ℕ)) (bs : List ℕ) : Type 0 where
  high : ℕ
  low : ℕ
  rest : List ℕ
  high_is : a ≡ Some high
  low_is : b ≡ Some low
  rest_is : left ≡ Some rest
  all_is : bs ≡ (high * 16 + low) ∷ rest

parted : (a b : Option ℕ) (left : Option (List ℕ)) (bs : List ℕ) → in_front a b left ≡ Some bs → Parted a b left bs
parted (Some h) (Some l) (Some r) bs e = record { high = h; low = l; rest = r; high_is = refl; low_is = refl; rest_is = refl; all_is = cc }
parted (Some h) (Some l) None bs e = absurd (let z : ◌≡◌ {A = ℕ} 0 1 = cc in omega arith)
parted (Some h) None left bs e = absurd (let z : ◌≡◌ {A = ℕ} 0 1 = cc in omega arith)
parted None b left bs e = absurd (let z : ◌≡◌ {A = ℕ} 0 1 = cc in omega arith)

pub written_back : WrittenBack
written_back [] bs e = let nil : bs ≡ [] = cc in rw nil (refl, tt)
written_back (a ∷ []) bs e = absurd (let z : ◌≡◌ {A = ℕ} 0 1 = cc in omega arith)
written_back (a ∷ b ∷ digits) bs e =
    let p = parted (digit_value a) (digit_value b) (bytes_in digits) bs e in
    let high = value_back a p.high p.high_is in
    let low = value_back b p.low p.low_is in
    let rest = written_back digits p.rest p.rest_is in
    let over : (p.high * 16 + p.low) / 16 ≡ p.high = omega arith in
    let under : (p.high * 16 + p.low) % 16 ≡ p.low = omega arith in
    rw p.all_is (rw (over, under, high.0, low.0, rest.0) refl, (omega arith, rest.1))

pub line_read_back : LineReadBack
line_read_back bs all some few =
    let size = length_text bs in
    let a : eqb (length (text_of bs)) 0 ≡ false = ne_eqb (length (text_of bs)) 0 (λ e. omega arith) in
    let b : ltb 130 (length (text_of bs)) ≡ false = le-ltb 130 (length (text_of bs)) (omega arith) in
    simp (a, b, read_back bs all)

too_long : (line : List ℕ) → 130 < length line → line_bytes line ≡ Err MalformedLine
too_long line l =
    let a : eqb (length line) 0 ≡ false = ne_eqb (length line) 0 (λ e. omega arith) in
    let b : ltb 130 (length line) ≡ true = lt-ltb 130 (length line) l in simp (a, b)

pub front_suffices : FrontSuffices
front_suffices line =
    elim (cases_lt 130 (length line)) [
      | inl l ↦
          let e : length (take 131 line) ≡ 131 = length-take-le 131 line (omega arith) in
          too_long (take 131 line) (omega arith) ∙ sym (too_long line l)
      | inr l ↦ ap line_bytes (take_all 131 line (omega arith))
    ]
