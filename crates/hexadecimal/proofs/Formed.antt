-- A line has bytes exactly where it is well formed.
use Rattle.std.proofs.Common.{◌≡◌, ℕ, ◌+◌, ◌-◌, ◌*◌, ◌/◌, ◌%◌, ◌<◌, Bool, true, false, cond, eqb, ltb, List, [], ◌∷◌, length, Some, None, Err, Option, Result, sym, refl, ap, ◌∙◌, subst, inl, inr, arith, rules}
use Rattle.std.proofs.lemmas.Bool.{cases_lt, ne_eqb, le-ltb, eqb-false, ltb-false}
use Rattle.std.specs.List.{AllByRecursion}
use Rattle.fault.specs.declared.Fault.{Fault}
use Rattle.fault.specs.declared.Fault.TheVariants.{MalformedLine}
use Rattle.hexadecimal.specs.Digits.{digit_value, digit_for, bytes_in, text_of}
use Rattle.hexadecimal.specs.Line.{or_malformed}
use Rattle.hexadecimal.specs.Theorems.{Bytes, Digit, WellFormed, ReadWhenWellFormed, RefusedWhenNot}
use Rattle.hexadecimal.proofs.Back.{written_back}
use Rattle.hexadecimal.proofs.Texts.{length_text}

has_value : (c : ℕ) → Digit c → (d : ℕ) × (digit_value c ≡ Some d)
has_value c (inl p) = (c - 48, search rules)
has_value c (inr p) = (c - 55, search rules)

has_bytes : (line : List ℕ) → length line % 2 ≡ 0 → AllByRecursion Digit line → (bs : List ℕ) × (bytes_in line ≡ Some bs)
has_bytes [] paired digits = ([], refl)
has_bytes (a ∷ []) paired digits = absurd (omega arith)
has_bytes (a ∷ b ∷ line) paired digits =
    let high = has_value a digits.0 in
    let low = has_value b digits.1.0 in
    let rest = has_bytes line (omega arith) digits.1.1 in
    ((high.0 * 16 + low.0) ∷ rest.0, rw (high.1, low.1, rest.1) refl)

pub read_when_well_formed : ReadWhenWellFormed
read_when_well_formed line formed =
    let bytes = has_bytes line formed.paired formed.digits in
    let a : eqb (length line) 0 ≡ false = ne_eqb (length line) 0 (λ e. omega arith) in
    let b : ltb 130 (length line) ≡ false = le-ltb 130 (length line) formed.few in
    (bytes.0, simp (a, b, bytes.1))

is_digit : (d : ℕ) → d < 16 → Digit (digit_for d)
is_digit d l = elim (cases_lt d 10) [ inl m ↦ inl (search rules) | inr m ↦ inr (search rules) ]

digits_in : (bs : List ℕ) → Bytes bs → AllByRecursion Digit (text_of bs)
digits_in [] all = tt
digits_in (b ∷ bs) all = (is_digit (b / 16) (omega arith), (is_digit (b % 16) (omega arith), digits_in bs all.1))

formed_text : (line bs : List ℕ) → eqb (length line) 0 ≡ false → ltb 130 (length line) ≡ false → bytes_in line ≡ Some bs → WellFormed line
formed_text line bs some few e =
    let back = written_back line bs e in
    let long : length line ≡ 2 * length bs = ap length (sym back.0) ∙ length_text bs in
    record { some = omega (arith, eqb-false (length line) 0 some); few = ltb-false 130 (length line) few; paired = omega arith; digits = subst (AllByRecursion Digit) back.0 (digits_in bs back.1) }

-- one of the tests refuses what is not well formed
settled : (line : List ℕ) (none long : Bool) (bytes : Option (List ℕ)) → (none ≡ false → long ≡ false → (bs : List ℕ) → bytes ≡ Some bs → WellFormed line) → (WellFormed line → ⊥) →
    ◌≡◌ {A = Result (List ℕ) Fault} (cond none (Err MalformedLine) (cond long (Err MalformedLine) (or_malformed bytes))) (Err MalformedLine)
settled line true long bytes formed not = refl
settled line false true bytes formed not = refl
settled line false false None formed not = refl
settled line false false (Some bs) formed not = absurd (not (formed refl refl bs refl))

pub refused_when_not : RefusedWhenNot
refused_when_not line not = settled line (eqb (length line) 0) (ltb 130 (length line)) (bytes_in line) (λ some few bs e. formed_text line bs some few e) not
