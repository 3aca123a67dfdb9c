-- Frames are read back from their bytes, and their bytes from them.
use Rattle.std.proofs.Common.{◌≡◌, ℕ, ◌+◌, ◌-◌, ◌^◌, ◌<◌, ◌≤◌, Bool, true, false, cond, eqb, ◌⊎◌, List, [], ◌∷◌, length, get_or, drop, Ok, Err, Result, sym, refl, ap, ◌∙◌, subst, inl, inr, arith}
use Rattle.std.proofs.lemmas.Bool.{eqb-true, cases_Bool, cond-true, cond-false}
use Rattle.fault.specs.declared.Fault.{Fault}
use Rattle.fault.specs.declared.Fault.TheVariants.{UnknownFrame}
use Rattle.hexadecimal.specs.Theorems.{Bytes}
use Rattle.hexadecimal.proofs.Back as hex
use Rattle.frames.specs.declared.size.ReadingSize.{ReadingSize}
use Rattle.frames.specs.Numbers.{two_at, eight_at, two_bytes}
use Rattle.frames.specs.Size.{whole_readings}
use Rattle.frames.specs.Asked.{Asked, readings, opening, mark, unmark, shortest, cut_by_penalty, cut_by_count, path, reopen, frame_bytes, of_length, frame_in, frame_of}
use Rattle.frames.specs.Theorems.{InRange, NumbersReadBack, FramesReadBack, FramesWrittenBack, RefusedWhenNone, LinesReadBack, FrontSuffices}
use Rattle.frames.proofs.Sizes.{tested}
use Rattle.frames.proofs.Numbers.{two_back, eight_back, two_of, eight_of, eight_fits, byte_at, each_from, each}

pub numbers_read_back : NumbersReadBack
numbers_read_back = record { two = two_back; eight = eight_back }

pub frames_read_back : FramesReadBack
frames_read_back size (readings bytes) fits =
    let rest : length (0x10 ∷ bytes) - 1 ≡ length bytes = omega arith in
    rw (rest, fits.1) refl
frames_read_back size opening fits = refl
frames_read_back size (mark m) fits = rw (two_back m.first fits.0, two_back m.last fits.1) refl
frames_read_back size (unmark first) fits = rw (two_back first fits) refl
frames_read_back size (shortest m) fits = rw (two_back m fits) refl
frames_read_back size (cut_by_penalty penalty) fits = rw (eight_back penalty fits) refl
frames_read_back size (cut_by_count count) fits = rw (two_back count fits) refl
frames_read_back size path fits = refl
frames_read_back size reopen fits = refl

-- a test of the kind, taken or left
peel : (kind k : ℕ) (here other : Result Asked Fault) (a : Asked) → cond (eqb kind k) here other ≡ Ok a → ((kind ≡ k) × (here ≡ Ok a)) ⊎ (other ≡ Ok a)
peel kind k here other a e =
    elim (cases_Bool (eqb kind k)) [
      | inl t ↦ inl (eqb-true kind k t, sym (cond-true (eqb kind k) here other t) ∙ e)
      | inr f ↦ inr (sym (cond-false (eqb kind k) here other f) ∙ e)
    ]

-- an answer under a test is given where it is passed
passed : (b : Bool) (s a : Asked) → cond b (Ok s) (Err UnknownFrame) ≡ Ok a → (b ≡ true) × (s ≡ a)
passed true s a e = (refl, cc)
passed false s a e = absurd (let z : ◌≡◌ {A = ℕ} 0 1 = cc in omega arith)

whole_written : (size : ReadingSize) (bytes : List ℕ) → Bytes bytes → get_or bytes 0 0 ≡ 0x10 → whole_readings size (length bytes - 1) ≡ true →
    (0x10 ∷ drop 1 bytes ≡ bytes) × (Bytes (drop 1 bytes) × (whole_readings size (length (drop 1 bytes)) ≡ true))
whole_written size [] all kind whole = absurd (omega arith)
whole_written size (k ∷ rest) all kind whole =
    let e : length (k ∷ rest) - 1 ≡ length rest = omega arith in (ap (λ h. h ∷ rest) (sym kind), (all.1, rw e at whole))

module _ (size : ReadingSize) (bytes : List ℕ) (all : Bytes bytes) where
  -- the bytes are those of the frame, which fits
  abbrev Written : Asked → Type 0
  Written a = (frame_bytes a ≡ bytes) × InRange size a

  two_fits : (i : ℕ) → two_at bytes i < 2 ^ 16
  two_fits i = omega (arith, byte_at bytes all i, byte_at bytes all (i + 1))

  of_kind : (n : ℕ) (s a : Asked) → of_length bytes n s ≡ Ok a → (length bytes ≡ n → Written s) → Written a
  of_kind n s a e h = let p = passed (eqb (length bytes) n) s a e in subst Written p.1 (h (eqb-true (length bytes) n p.0))

  alone : (k : ℕ) → get_or bytes 0 0 ≡ k → length bytes ≡ 1 → k ∷ [] ≡ bytes
  alone k kind long = let all_are = each 1 bytes long in cc

  with_two : (k : ℕ) → get_or bytes 0 0 ≡ k → length bytes ≡ 3 → k ∷ two_bytes (two_at bytes 1) ≡ bytes
  with_two k kind long =
      let all_are = each 3 bytes long in
      let number = two_of (get_or bytes 1 0) (get_or bytes 2 0) (byte_at bytes all 1) (byte_at bytes all 2) in
      cc

  as_readings : (a : Asked) → get_or bytes 0 0 ≡ 0x10 → cond (whole_readings size (length bytes - 1)) (Ok (readings (drop 1 bytes))) (Err UnknownFrame) ≡ Ok a → Written a
  as_readings a kind e =
      let p = passed (whole_readings size (length bytes - 1)) (readings (drop 1 bytes)) a e in
      subst Written p.1 (whole_written size bytes all kind p.0)

  as_mark : get_or bytes 0 0 ≡ 0x20 → length bytes ≡ 6 → Written (mark (record { first = two_at bytes 1; last = two_at bytes 3; boundaries = get_or bytes 5 0 }))
  as_mark kind long =
      let all_are = each 6 bytes long in
      let first = two_of (get_or bytes 1 0) (get_or bytes 2 0) (byte_at bytes all 1) (byte_at bytes all 2) in
      let last = two_of (get_or bytes 3 0) (get_or bytes 4 0) (byte_at bytes all 3) (byte_at bytes all 4) in
      (cc, (two_fits 1, two_fits 3, byte_at bytes all 5))

  as_penalty : get_or bytes 0 0 ≡ 0x30 → length bytes ≡ 9 → Written (cut_by_penalty (eight_at bytes 1))
  as_penalty kind long =
      (ap (λ (r : List ℕ). 0x30 ∷ r) (eight_of bytes all) ∙ ap (λ k. k ∷ each_from 1 8 bytes) (sym kind) ∙ each 9 bytes long, eight_fits bytes all)

  written : (a : Asked) → frame_in size bytes ≡ Ok a → Written a
  written a e0 =
      elim (peel (get_or bytes 0 0) 0x10 _ _ a e0) [
        | inl p ↦ as_readings a p.0 p.1
        | inr e1 ↦
            elim (peel (get_or bytes 0 0) 0x11 _ _ a e1) [
              | inl p ↦ of_kind 1 opening a p.1 (λ n. (alone 0x11 p.0 n, tt))
              | inr e2 ↦
                  elim (peel (get_or bytes 0 0) 0x20 _ _ a e2) [
                    | inl p ↦ of_kind 6 _ a p.1 (as_mark p.0)
                    | inr e3 ↦
                        elim (peel (get_or bytes 0 0) 0x21 _ _ a e3) [
                          | inl p ↦ of_kind 3 (unmark (two_at bytes 1)) a p.1 (λ n. (with_two 0x21 p.0 n, two_fits 1))
                          | inr e4 ↦
                              elim (peel (get_or bytes 0 0) 0x22 _ _ a e4) [
                                | inl p ↦ of_kind 3 (shortest (two_at bytes 1)) a p.1 (λ n. (with_two 0x22 p.0 n, two_fits 1))
                                | inr e5 ↦
                                    elim (peel (get_or bytes 0 0) 0x30 _ _ a e5) [
                                      | inl p ↦ of_kind 9 _ a p.1 (as_penalty p.0)
                                      | inr e6 ↦
                                          elim (peel (get_or bytes 0 0) 0x31 _ _ a e6) [
                                            | inl p ↦ of_kind 3 (cut_by_count (two_at bytes 1)) a p.1 (λ n. (with_two 0x31 p.0 n, two_fits 1))
                                            | inr e7 ↦
                                                elim (peel (get_or bytes 0 0) 0x32 _ _ a e7) [
                                                  | inl p ↦ of_kind 1 path a p.1 (λ n. (alone 0x32 p.0 n, tt))
                                                  | inr e8 ↦
                                                      elim (peel (get_or bytes 0 0) 0x40 _ _ a e8) [
                                                        | inl p ↦ of_kind 1 reopen a p.1 (λ n. (alone 0x40 p.0 n, tt))
                                                        | inr e9 ↦
                                                            absurd (let z : ◌≡◌ {A = ℕ} 0 1 = cc in omega arith)
                                                      ]
                                                ]
                                          ]
                                    ]
                              ]
                        ]
                  ]
            ]
      ]

pub frames_written_back : FramesWrittenBack
frames_written_back size bytes a all e = written size bytes all a e

-- an answer is a frame, or that it is unknown
data Settled (r : Result Asked Fault) : Type 0 where
  known : (a : Asked) → r ≡ Ok a → Settled r
  unknown : r ≡ Err UnknownFrame → Settled r

test : (kind long : Bool) (a : Asked) {other : Result Asked Fault} → Settled other → Settled (cond kind (cond long (Ok a) (Err UnknownFrame)) other)
test true true a rest = known a refl
test true false a rest = unknown refl
test false long a rest = rest

frame_settled : (size : ReadingSize) (bytes : List ℕ) → Settled (frame_in size bytes)
frame_settled size bytes =
    let is : ℕ → Bool = λ k. eqb (get_or bytes 0 0) k in
    let long : ℕ → Bool = λ n. eqb (length bytes) n in
    test (is 0x10) (whole_readings size (length bytes - 1)) (readings (drop 1 bytes))
    (test (is 0x11) (long 1) opening
    (test (is 0x20) (long 6) (mark (record { first = two_at bytes 1; last = two_at bytes 3; boundaries = get_or bytes 5 0 }))
    (test (is 0x21) (long 3) (unmark (two_at bytes 1))
    (test (is 0x22) (long 3) (shortest (two_at bytes 1))
    (test (is 0x30) (long 9) (cut_by_penalty (eight_at bytes 1))
    (test (is 0x31) (long 3) (cut_by_count (two_at bytes 1))
    (test (is 0x32) (long 1) path
    (test (is 0x40) (long 1) reopen (unknown refl)))))))))

pub refused_when_none : RefusedWhenNone
refused_when_none size bytes all none =
    elim (frame_settled size bytes) [
      | known a e ↦ let w = frames_written_back size bytes a all e in absurd (none a w.1 w.0)
      | unknown e ↦ e
    ]

-- a frame that fits makes a line
record MakesLine (bytes : List ℕ) : Type 0 where
  all : Bytes bytes
  some : 1 ≤ length bytes
  few : length bytes ≤ 65

two_small : (x : ℕ) → Bytes (two_bytes x)
two_small x = (omega arith, (omega arith, tt))

makes_line : (size : ReadingSize) (a : Asked) → InRange size a → MakesLine (frame_bytes a)
makes_line size (readings bytes) fits =
    let few = tested size (length bytes) fits.1 in
    record { all = (omega arith, fits.0); some = omega arith; few = omega arith }
makes_line size opening fits = record { all = (omega arith, tt); some = omega arith; few = omega arith }
makes_line size (mark m) fits = record { all = (omega arith, (omega arith, (omega arith, (omega arith, (omega arith, (fits.2, tt)))))); some = omega arith; few = omega arith }
makes_line size (unmark x) fits = record { all = (omega arith, two_small x); some = omega arith; few = omega arith }
makes_line size (shortest x) fits = record { all = (omega arith, two_small x); some = omega arith; few = omega arith }
makes_line size (cut_by_penalty x) fits =
    record { all = (omega arith, (omega arith, (omega arith, (omega arith, (omega arith, (omega arith, (omega arith, (omega arith, (omega arith, tt))))))))); some = omega arith; few = omega arith }
makes_line size (cut_by_count x) fits = record { all = (omega arith, two_small x); some = omega arith; few = omega arith }
makes_line size path fits = record { all = (omega arith, tt); some = omega arith; few = omega arith }
makes_line size reopen fits = record { all = (omega arith, tt); some = omega arith; few = omega arith }

pub lines_read_back : LinesReadBack
lines_read_back size a fits =
    let m = makes_line size a fits in
    ap (frame_of size) (hex.line_read_back (frame_bytes a) m.all m.some m.few) ∙ frames_read_back size a fits

pub front_suffices : FrontSuffices
front_suffices size line = ap (frame_of size) (hex.front_suffices line)
