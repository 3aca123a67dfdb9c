-- The readings of a frame, taken one by one.
use Rattle.std.proofs.Common.{◌≡◌, ℕ, ◌+◌, ◌/◌, ◌<◌, ◌≤◌, Bool, true, false, ◌&&◌, ltb, leb, List, [], ◌∷◌, ◌++◌, map, length, ℤ, pos, Ok, Err, sym, refl, ap, ◌∙◌, append_assoc, append-nil, arith, w16, SFits}
use Rattle.std.proofs.lemmas.List.{length-append, length-map}
use Rattle.std.proofs.lemmas.Int.{ints}
use Rattle.std.proofs.lemmas.Bool.Decides.{nat_tests}
use Rattle.fault.specs.declared.Fault.{Fault}
use Rattle.fault.specs.declared.Fault.TheVariants.{TooManyReadings}
use Rattle.leaves.specs.Readings.{lowest, Between}
use Rattle.leaves.specs.Taking.{between, all_between, taken as taken-one, after as after_one}
use Rattle.leaves.proofs.Admission.{between_tells}
use Rattle.frames.specs.declared.size.ReadingSize.TheVariants.{Three}
use Rattle.frames.specs.declared.reading.PairReading.{PairReading}
use Rattle.frames.specs.Readings.{readings_in, pairs_in}
use Rattle.kinds.specs.Sides.{Sides, port_of, code_of, brought, codes_fit, taken, together, after}

-- how many readings bytes hold
pub halves : (bytes : List ℕ) → length (readings_in bytes) ≡ length bytes / 2
halves [] = refl
halves (a ∷ []) = refl
halves (a ∷ b ∷ rest) = omega (arith, halves rest)

pub thirds : (bytes : List ℕ) → length (pairs_in bytes) ≡ length bytes / 3
thirds [] = refl
thirds (a ∷ []) = refl
thirds (a ∷ b ∷ []) = refl
thirds (a ∷ b ∷ k ∷ rest) = omega (arith, thirds rest)

-- a reading of 16 bits is in range for port
pub port_fits : (x : ℤ) → SFits w16 x → between lowest 65535 x ≡ true
port_fits x fits = grind (arith, ints, fits.sfits)

-- more than 512 are refused, and nothing changes
pub refused : (old new : Sides) → codes_fit new ≡ true → 512 < length old.port + length new.port → (Err TooManyReadings ≡ taken old new) × (old ≡ after old new)
refused old new fit more =
    let l : leb (length old.port + length new.port) 512 ≡ false = grind (arith, nat_tests) in
    (simp (fit, l), simp (fit, l))

-- and else all are taken
pub all_taken : (old new : Sides) (n : ℕ) → codes_fit new ≡ true → length old.port + length new.port ≤ 512 → n ≡ length old.port + length new.port
    → (Ok n ≡ taken old new) × (together old new ≡ after old new)
all_taken old new n fit room e =
    let l : leb (length old.port + length new.port) 512 ≡ true = grind (arith, nat_tests) in
    (simp (fit, l, e), simp (fit, l))

-- one reading of port, where fewer than 512 are held
pub one_taken : (xs : List ℤ) (x : ℤ) → SFits w16 x → length xs < 512 → (taken-one lowest 65535 xs x ≡ Ok tt) × (after_one lowest 65535 xs x ≡ xs ++ x ∷ [])
one_taken xs x fits room =
    let b = port_fits x fits in
    let l : ltb (length xs) 512 ≡ true = grind (arith, nat_tests) in
    (simp (b, l), simp (b, l))

pub none_refused : (xs : List ℤ) (x : ℤ) (f : Fault) → SFits w16 x → length xs < 512 → Err f ≡ taken-one lowest 65535 xs x → ⊥
none_refused xs x f fits room h = let z : ◌≡◌ {A = ℕ} 0 1 = cc (h, (one_taken xs x fits room).0) in omega arith

-- fewer than 512 are held before the last
pub room_left : (xs ys was all : List ℤ) (x : ℤ) → xs ++ (x ∷ ys) ≡ was ++ all → length was + length all ≤ 512 → length xs < 512
room_left xs ys was all x e room =
    let n : length (xs ++ (x ∷ ys)) ≡ length (was ++ all) = ap length e in
    omega (arith, n, length-append xs (x ∷ ys), length-append was all)

-- a turn of the loop over readings of two bytes
pub next_port : (xs left ys was all new : List ℤ) (x : ℤ) → SFits w16 x → xs ++ left ≡ was ++ all → left ≡ x ∷ ys → length was + length all ≤ 512 → new ≡ after_one lowest 65535 xs x
    → new ++ ys ≡ was ++ all
next_port xs left ys was all new x fits so_far first room e =
    let one : xs ++ (x ∷ ys) ≡ was ++ all = ap (λ (zs : List ℤ). xs ++ zs) (sym first) ∙ so_far in
    let is : new ≡ xs ++ x ∷ [] = e ∙ (one_taken xs x fits (room_left xs ys was all x one room)).1 in
    ap (λ (zs : List ℤ). zs ++ ys) is ∙ append_assoc xs (x ∷ []) ys ∙ one

-- the bits of a reading, which fits
both_true : (a b : Bool) → a && b ≡ true → (a ≡ true) × (b ≡ true)
both_true true b h = (refl, h)
both_true false b h = let z : ◌≡◌ {A = ℕ} 0 1 = cc in absurd (omega arith)

pub code_between : (k : ℕ) → k ≤ 15 → between (pos 0) 15 (pos k) ≡ true
code_between k h = grind (arith, ints)

pub code_taken : (xs : List ℤ) (k : ℕ) → k ≤ 15 → length xs < 512 → (taken-one (pos 0) 15 xs (pos k) ≡ Ok tt) × (after_one (pos 0) 15 xs (pos k) ≡ xs ++ pos k ∷ [])
code_taken xs k h room =
    let b = code_between k h in
    let l : ltb (length xs) 512 ≡ true = grind (arith, nat_tests) in
    (simp (b, l), simp (b, l))

-- of codes that fit, the first and the others do
pub codes_tell : (left : List ℕ) (p : PairReading) (rest : List ℕ) → pairs_in left ≡ p ∷ pairs_in rest → codes_fit (brought Three left) ≡ true
    → (p.code ≤ 15) × (codes_fit (brought Three rest) ≡ true)
codes_tell left p rest e fit =
    let all : codes_fit (brought Three left) ≡ (between (pos 0) 15 (code_of p) && codes_fit (brought Three rest)) = ap (λ (ps : List PairReading). all_between (pos 0) 15 (map code_of ps)) e in
    let t = both_true (between (pos 0) 15 (code_of p)) (codes_fit (brought Three rest)) (sym all ∙ fit) in
    let k : Between (pos 0) 15 (pos p.code) = between_tells (pos 0) 15 (pos p.code) t.0 in
    (omega (arith, ints, k.1), t.1)

pub ports : (bytes : List ℕ) → length (brought Three bytes).port ≡ length bytes / 3
ports bytes = length-map (pairs_in bytes) port_of ∙ thirds bytes

-- one reading of both sides
abbrev pub alone : PairReading → Sides
alone p = record { port = p.port ∷ []; starboard = code_of p ∷ [] }

-- a turn of the loop over readings of three bytes
pub next_both : (s was all : Sides) (left rest : List ℕ) (p : PairReading) → together s (brought Three left) ≡ together was all → pairs_in left ≡ p ∷ pairs_in rest
    → together (together s (alone p)) (brought Three rest) ≡ together was all
next_both s was all left rest p so_far e =
    let a : together (together s (alone p)) (brought Three rest) ≡ together s (brought Three left) = rw e (simp append_assoc) in
    a ∙ so_far

pub room_both : (s was all : Sides) (left rest : List ℕ) (p : PairReading) → together s (brought Three left) ≡ together was all → pairs_in left ≡ p ∷ pairs_in rest
    → length was.port + length all.port ≤ 512 → length s.port < 512
room_both s was all left rest p so_far e room =
    let first : (brought Three left).port ≡ p.port ∷ (brought Three rest).port = ap (λ (ps : List PairReading). map port_of ps) e in
    let side : s.port ++ (brought Three left).port ≡ was.port ++ all.port = ap (λ (t : Sides). t.port) so_far in
    room_left s.port (brought Three rest).port was.port all.port p.port (ap (λ (zs : List ℤ). s.port ++ zs) (sym first) ∙ side) room

pub last_both : (s : Sides) (left : List ℕ) → pairs_in left ≡ [] → together s (brought Three left) ≡ s
last_both s left e = rw e (simp append-nil)
