-- Every command is read as it was written.
use Rattle.std.proofs.Common.{◌≡◌, ℕ, suc, ◌-◌, ◌^◌, ◌<◌, ◌≤◌, min, Bool, true, false, ◌&&◌, eqb, ltb, leb, List, [], ◌∷◌, ◌++◌, map, length, ℤ, pos, negsuc, neg_ℤ, Some, Ok, codes, decimal as digits_of, refl, ap, ◌∙◌, inl, inr, arith, lit<}
use lib.Signed.{mag}
use Rattle.std.specs.Int.{saturate_to_bits}
use Rattle.std.specs.Option.{option_map}
use Rattle.std.specs.Fmt.{signed_decimal as signed-digits-of}
use Rattle.std.specs.List.{AllByRecursion}
use Rattle.std.proofs.lemmas.Bool.{cases_Bool, and_parts, leb-true, eqb-true, le-ltb}
use Rattle.std.proofs.lemmas.Bool.Decides.{nat_tests}
use Rattle.leaves.specs.declared.kind.LossKind.TheVariants.{Squares, Distances, Votes}
use Rattle.command.specs.Words.{blank, legible, all_legible, words}
use Rattle.command.specs.Numbers.{decimal, natural, integer, reading}
use Rattle.command.specs.Said.{nothing, help, loss, readings, mark, unmark, shortest, price, best_by_penalty, best_by_count, path}
use Rattle.command.specs.Line.{and_then, number, read_all, read_words, read_line}
use Rattle.command.specs.Theorems.{spaced, written, CommandsStand}
use Rattle.command.proofs.Printed.{Printable, printed_writes}
use Rattle.command.proofs.Spaced.{words_stand}

-- a word of printable characters
abbrev Plain : List ℕ → Type 0
Plain w = (0 < length w) × AllByRecursion Printable w

no_blank : (b : ℕ) → Printable b → blank b ≡ false
no_blank b p = let low = p.low in grind (arith, nat_tests)

is_legible : (b : ℕ) → Printable b → legible b ≡ true
is_legible b p = let low = p.low in let high = p.high in grind (arith, nat_tests)

solid : (w : List ℕ) → AllByRecursion Printable w → AllByRecursion (λ b. blank b ≡ false) w
solid [] all = tt
solid (b ∷ w) all = (no_blank b all.0, solid w all.1)

solids : (ws : List (List ℕ)) → AllByRecursion Plain ws → AllByRecursion (λ w. (0 < length w) × AllByRecursion (λ b. blank b ≡ false) w) ws
solids [] all = tt
solids (w ∷ ws) all = ((all.0.0, solid w all.0.1), solids ws all.1)

legible_word : (w : List ℕ) → AllByRecursion Printable w → all_legible w ≡ true
legible_word [] all = refl
legible_word (b ∷ w) all = let e = is_legible b all.0 in simp e (legible_word w all.1)

legible_front : (w text : List ℕ) → AllByRecursion Printable w → all_legible text ≡ true → all_legible (w ++ 32 ∷ text) ≡ true
legible_front [] text all e = e
legible_front (b ∷ w) text all e = let l = is_legible b all.0 in simp l (legible_front w text all.1 e)

legible_spaced : (ws : List (List ℕ)) → AllByRecursion Plain ws → all_legible (spaced ws) ≡ true
legible_spaced [] all = refl
legible_spaced (w ∷ []) all = legible_word w all.0.1
legible_spaced (w ∷ v ∷ ws) all = legible_front w (spaced (v ∷ ws)) all.0.1 (legible_spaced (v ∷ ws) all.1)

line_is : (ws : List (List ℕ)) → AllByRecursion Plain ws → length (spaced ws) ≤ 4096 → read_line (spaced ws) ≡ read_words ws
line_is ws all short =
    let a : ltb 4096 (length (spaced ws)) ≡ false = le-ltb 4096 (length (spaced ws)) short in
    let b : all_legible (spaced ws) ≡ true = legible_spaced ws all in
    let d : words (spaced ws) ≡ ws = words_stand ws (solids ws all) in
    simp (a, b, d)

-- a printed number
plain_digits : (n : ℕ) → n < 2 ^ 64 → Plain (digits_of n)
plain_digits n h = ((printed_writes n h).some, (printed_writes n h).plain)

natural_back : (bits n : ℕ) → n ≤ 2 ^ bits - 1 → n < 2 ^ 64 → natural bits (digits_of n) ≡ Some n
natural_back bits n fits h = ap (option_map (λ m. min m (2 ^ bits - 1))) (printed_writes n h).value ∙ ap Some (omega arith)

integer_plain : (ds : List ℕ) (n : ℕ) → decimal ds ≡ Some n → integer ds ≡ Some (pos n)
integer_plain [] n e = let z : ◌≡◌ {A = ℕ} 0 1 = cc in absurd (omega arith)
integer_plain (b ∷ ds) n e = elim (cases_Bool (eqb b 45)) [
  | inl t ↦ (let z : ◌≡◌ {A = ℕ} 0 1 = cc (rw (eqb-true b 45 t) at e) in absurd (omega arith))
  | inr t ↦ simp t (ap (option_map pos) e)
]

-- a printed reading
signed_back : (z : ℤ) → mag z < 2 ^ 31 → Plain (signed-digits-of z) × (reading (signed-digits-of z) ≡ Some z)
signed_back (pos n) h = (
  plain_digits n (omega arith),
  ap (option_map (saturate_to_bits 31)) (integer_plain (digits_of n) n (printed_writes n (omega arith)).value) ∙ ap (λ m. Some (pos m)) (omega arith),
)
signed_back (negsuc n) h = (
  (omega arith, (record { low = omega arith; high = omega arith }, (printed_writes (suc n) (omega arith)).plain)),
  ap (λ o. option_map (saturate_to_bits 31) (option_map (λ m. neg_ℤ (pos m)) o)) (printed_writes (suc n) (omega arith)).value ∙ ap (λ m. Some (negsuc m)) (omega arith),
)

plain_readings : (all : List ℤ) → AllByRecursion (λ z. mag z < 2 ^ 31) all → AllByRecursion Plain (map signed-digits-of all)
plain_readings [] fits = tt
plain_readings (z ∷ all) fits = ((signed_back z fits.0).0, plain_readings all fits.1)

readings_back : (all : List ℤ) → AllByRecursion (λ z. mag z < 2 ^ 31) all → read_all reading (map signed-digits-of all) ≡ Some all
readings_back [] fits = refl
readings_back (z ∷ all) fits =
    let a : reading (signed-digits-of z) ≡ Some z = (signed_back z fits.0).1 in
    let b : read_all reading (map signed-digits-of all) ≡ Some all = readings_back all fits.1 in rw (a, b)

plain_gaps : (gaps : List ℕ) → AllByRecursion (λ gap. gap < 2 ^ 16) gaps → AllByRecursion Plain (map digits_of gaps)
plain_gaps [] fits = tt
plain_gaps (gap ∷ gaps) fits = (plain_digits gap (omega (arith, fits.0)), plain_gaps gaps fits.1)

gaps_back : (gaps : List ℕ) → AllByRecursion (λ gap. gap < 2 ^ 16) gaps → read_all (natural 16) (map digits_of gaps) ≡ Some gaps
gaps_back [] fits = refl
gaps_back (gap ∷ gaps) fits =
    let a : natural 16 (digits_of gap) ≡ Some gap = natural_back 16 gap (omega (arith, fits.0)) (omega (arith, fits.0)) in
    let b : read_all (natural 16) (map digits_of gaps) ≡ Some gaps = gaps_back gaps fits.1 in rw (a, b)

-- a word that is written out
abbrev plain : List ℕ → Bool
plain [] = true
plain (b ∷ w) = leb 33 b && (leb b 126 && plain w)

plain_word : (w : List ℕ) → plain w ≡ true → AllByRecursion Printable w
plain_word [] e = tt
plain_word (b ∷ w) e =
    let one = and_parts (leb 33 b) (leb b 126 && plain w) e in
    let two = and_parts (leb b 126) (plain w) one.1 in (record { low = leb-true 33 b one.0; high = leb-true b 126 two.0 }, plain_word w two.1)

literal : (w : List ℕ) → plain w ≡ true → 0 < length w → Plain w
literal w e some = (some, plain_word w e)

pub commands_stand : CommandsStand
commands_stand nothing fits short = line_is [] tt short
commands_stand help fits short = line_is (written help) (literal (codes "help") refl (lit< tt), tt) short
commands_stand (loss Squares) fits short = line_is (written (loss Squares)) (literal (codes "loss") refl (lit< tt), (literal (codes "squares") refl (lit< tt), tt)) short
commands_stand (loss Distances) fits short = line_is (written (loss Distances)) (literal (codes "loss") refl (lit< tt), (literal (codes "distances") refl (lit< tt), tt)) short
commands_stand (loss Votes) fits short = line_is (written (loss Votes)) (literal (codes "loss") refl (lit< tt), (literal (codes "votes") refl (lit< tt), tt)) short
commands_stand (readings []) fits short = absurd (omega (arith, fits.0))
commands_stand (readings (z ∷ all)) fits short =
    let e : read_all reading (map signed-digits-of (z ∷ all)) ≡ Some (z ∷ all) = readings_back (z ∷ all) fits.1 in
    line_is (written (readings (z ∷ all))) (literal (codes "readings") refl (lit< tt), plain_readings (z ∷ all) fits.1) short
    ∙ ap (λ o. and_then (number o) (λ xs. Ok (readings xs))) e
commands_stand (mark m) fits short =
    let a : natural 16 (digits_of m.first) ≡ Some m.first = natural_back 16 m.first (omega (arith, fits.0)) (omega (arith, fits.0)) in
    let b : natural 16 (digits_of m.last) ≡ Some m.last = natural_back 16 m.last (omega (arith, fits.1)) (omega (arith, fits.1)) in
    let k : natural 8 (digits_of m.boundaries) ≡ Some m.boundaries = natural_back 8 m.boundaries (omega (arith, fits.2)) (omega (arith, fits.2)) in
    line_is (written (mark m)) (literal (codes "mark") refl (lit< tt), (plain_digits m.first (omega (arith, fits.0)), (plain_digits m.last (omega (arith, fits.1)), (plain_digits m.boundaries (omega (arith, fits.2)), tt)))) short
    ∙ rw (a, b, k)
commands_stand (unmark first) fits short =
    let e : natural 16 (digits_of first) ≡ Some first = natural_back 16 first (omega arith) (omega arith) in
    line_is (written (unmark first)) (literal (codes "unmark") refl (lit< tt), (plain_digits first (omega arith), tt)) short ∙ rw e
commands_stand (shortest m) fits short =
    let e : natural 16 (digits_of m) ≡ Some m = natural_back 16 m (omega arith) (omega arith) in
    line_is (written (shortest m)) (literal (codes "shortest") refl (lit< tt), (plain_digits m (omega arith), tt)) short ∙ rw e
commands_stand (price penalty gaps) fits short =
    let a : natural 64 (digits_of penalty) ≡ Some penalty = natural_back 64 penalty (omega (arith, fits.0)) fits.0 in
    let b : read_all (natural 16) (map digits_of gaps) ≡ Some gaps = gaps_back gaps fits.1 in
    line_is (written (price penalty gaps)) (literal (codes "price") refl (lit< tt), (plain_digits penalty fits.0, (literal (codes "at") refl (lit< tt), plain_gaps gaps fits.1))) short
    ∙ rw (a, b)
commands_stand (best_by_penalty penalty) fits short =
    let e : natural 64 (digits_of penalty) ≡ Some penalty = natural_back 64 penalty (omega arith) fits in
    line_is (written (best_by_penalty penalty)) (literal (codes "best") refl (lit< tt), (plain_digits penalty fits, tt)) short ∙ rw e
commands_stand (best_by_count count) fits short =
    let e : natural 16 (digits_of count) ≡ Some count = natural_back 16 count (omega arith) (omega arith) in
    line_is (written (best_by_count count)) (literal (codes "best") refl (lit< tt), (literal (codes "count") refl (lit< tt), (plain_digits count (omega arith), tt))) short ∙ rw e
commands_stand path fits short = line_is (written path) (literal (codes "path") refl (lit< tt), tt) short
