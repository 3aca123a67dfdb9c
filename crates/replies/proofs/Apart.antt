-- Different replies have different texts: each is read back from its bytes.
use Rattle.std.proofs.Common.{◌≡◌, ℕ, zero, suc, ◌^◌, ◌<◌, cond, eqb, List, [], ◌∷◌, ◌++◌, length, get_or, drop, sym, refl, ap, ◌∙◌, arith}
use Rattle.std.proofs.ByRecursion.{All-append}
use Rattle.std.specs.List.{flat_map, AllByRecursion}
use Rattle.fault.specs.declared.Fault.{Fault}
use Rattle.fault.specs.declared.Fault.TheVariants.{MalformedLine, UnknownFrame, ReadingOutOfRange, BadMark, BadShortest, BadPenalty, BadCount, BadStretch, TooManyReadings, SharedGap, TooManyMarks, NoSuchMark, NoAllowedDivision, ShortBuffer, TooHeavy, NoReading, WrongState}
use Rattle.fault.specs.Number.{number}
use Rattle.envelope.specs.declared.Step.{Step}
use Rattle.hexadecimal.specs.Digits.{bytes_in}
use Rattle.hexadecimal.specs.Theorems.{Bytes}
use Rattle.hexadecimal.proofs.Back.{read_back}
use Rattle.frames.specs.Numbers.{two_at, eight_at, two_bytes, eight_bytes}
use Rattle.frames.proofs.Numbers.{two_back, eight_back}
use Rattle.replies.specs.Answered.{Answered, readings, opening, mark, unmark, shortest, cut_by_penalty, cut_by_count, path, reopen, refusal, step_bytes, cut_bytes, path_bytes, reply_bytes}
use Rattle.replies.specs.Theorems.{StepInRange, CutInRange, InRange, RepliesDiffer}

fault_of : ℕ → Fault
fault_of n = cond (eqb n 11) MalformedLine (cond (eqb n 12) UnknownFrame (cond (eqb n 13) ReadingOutOfRange (cond (eqb n 14) BadMark (cond (eqb n 15) BadShortest (cond (eqb n 16) BadPenalty (cond (eqb n 17) BadCount (cond (eqb n 18) BadStretch (cond (eqb n 21) TooManyReadings (cond (eqb n 22) SharedGap (cond (eqb n 23) TooManyMarks (cond (eqb n 24) NoSuchMark (cond (eqb n 25) NoAllowedDivision (cond (eqb n 26) ShortBuffer (cond (eqb n 27) TooHeavy (cond (eqb n 28) NoReading (WrongState))))))))))))))))

fault_back : (f : Fault) → fault_of (number f) ≡ f
unfolding fault_of
fault_back MalformedLine = refl
fault_back UnknownFrame = refl
fault_back ReadingOutOfRange = refl
fault_back BadMark = refl
fault_back BadShortest = refl
fault_back BadPenalty = refl
fault_back BadCount = refl
fault_back BadStretch = refl
fault_back TooManyReadings = refl
fault_back SharedGap = refl
fault_back TooManyMarks = refl
fault_back NoSuchMark = refl
fault_back NoAllowedDivision = refl
fault_back ShortBuffer = refl
fault_back TooHeavy = refl
fault_back NoReading = refl
fault_back WrongState = refl

-- n entries of so many bytes each
abbrev entries_in : {X : Type 0} → (List ℕ → X) → ℕ → ℕ → List ℕ → List X
entries_in read size zero bytes = []
entries_in read size (suc n) bytes = read bytes ∷ entries_in read size n (drop size bytes)

numbers_back : (gaps : List ℕ) → AllByRecursion (λ gap. gap < 2 ^ 16) gaps → entries_in (λ bytes. two_at bytes 0) 2 (length gaps) (flat_map two_bytes gaps) ≡ gaps
numbers_back [] all = refl
numbers_back (gap ∷ gaps) all = rw (two_back gap all.0, numbers_back gaps all.1) refl

step_in : List ℕ → Step
step_in bytes = record { penalty = eight_at bytes 0; count = two_at bytes 8; loss = eight_at bytes 10 }

step_back : (s : Step) (rest : List ℕ) → StepInRange s → step_in (step_bytes s ++ rest) ≡ s
unfolding step_in
step_back s rest fits = rw (eight_back s.penalty fits.0, two_back s.count fits.1, eight_back s.loss fits.2) refl

steps_back : (steps : List Step) → AllByRecursion StepInRange steps → entries_in step_in 18 (length steps) (flat_map step_bytes steps) ≡ steps
steps_back [] all = refl
steps_back (s ∷ steps) all = rw (step_back s (flat_map step_bytes steps) all.0, steps_back steps all.1) refl

-- the reply that bytes write: the kind, then numbers at their places
cut_in : (ℕ → List ℕ → Answered) → List ℕ → Answered
cut_in kind bytes = kind (eight_at bytes 1) (entries_in (λ rest. two_at rest 0) 2 (two_at bytes 9) (drop 11 bytes))

path_in : List ℕ → Answered
path_in bytes = path (entries_in step_in 18 (two_at bytes 1) (drop 3 bytes))

reply_in : List ℕ → Answered
reply_in bytes =
    cond (eqb (get_or bytes 0 0) 0x10) (readings (two_at bytes 1))
    (cond (eqb (get_or bytes 0 0) 0x11) (opening (two_at bytes 1))
    (cond (eqb (get_or bytes 0 0) 0x20) (mark (two_at bytes 1))
    (cond (eqb (get_or bytes 0 0) 0x21) (unmark (two_at bytes 1))
    (cond (eqb (get_or bytes 0 0) 0x22) (shortest (two_at bytes 1))
    (cond (eqb (get_or bytes 0 0) 0x30) (cut_in cut_by_penalty bytes)
    (cond (eqb (get_or bytes 0 0) 0x31) (cut_in cut_by_count bytes)
    (cond (eqb (get_or bytes 0 0) 0x32) (path_in bytes)
    (cond (eqb (get_or bytes 0 0) 0x40) reopen (refusal (fault_of (get_or bytes 1 0)) (two_at bytes 2))))))))))

cut_back : (kind : ℕ → List ℕ → Answered) (k total : ℕ) (gaps : List ℕ) → CutInRange total gaps → cut_in kind (k ∷ cut_bytes total gaps) ≡ kind total gaps
unfolding cut_in
cut_back kind k total gaps fits = rw (eight_back total fits.0, two_back (length gaps) fits.1, numbers_back gaps fits.2) refl

path_back : (k : ℕ) (steps : List Step) → length steps < 2 ^ 16 → AllByRecursion StepInRange steps → path_in (k ∷ path_bytes steps) ≡ path steps
unfolding path_in
path_back k steps few all = rw (two_back (length steps) few, steps_back steps all) refl

reply_back : (a : Answered) → InRange a → reply_in (reply_bytes a) ≡ a
unfolding reply_in
reply_back (readings x) fits = rw (two_back x fits) refl
reply_back (opening x) fits = rw (two_back x fits) refl
reply_back (mark x) fits = rw (two_back x fits) refl
reply_back (unmark x) fits = rw (two_back x fits) refl
reply_back (shortest x) fits = rw (two_back x fits) refl
reply_back (cut_by_penalty total gaps) fits = cut_back cut_by_penalty 0x30 total gaps fits
reply_back (cut_by_count total gaps) fits = cut_back cut_by_count 0x31 total gaps fits
reply_back (path steps) fits = path_back 0x32 steps fits.0 fits.1
reply_back reopen fits = refl
reply_back (refusal f line) fits = rw (fault_back f, two_back line fits) refl

fault_small : (f : Fault) → number f < 256
fault_small MalformedLine = omega arith
fault_small UnknownFrame = omega arith
fault_small ReadingOutOfRange = omega arith
fault_small BadMark = omega arith
fault_small BadShortest = omega arith
fault_small BadPenalty = omega arith
fault_small BadCount = omega arith
fault_small BadStretch = omega arith
fault_small TooManyReadings = omega arith
fault_small SharedGap = omega arith
fault_small TooManyMarks = omega arith
fault_small NoSuchMark = omega arith
fault_small NoAllowedDivision = omega arith
fault_small ShortBuffer = omega arith
fault_small TooHeavy = omega arith
fault_small NoReading = omega arith
fault_small WrongState = omega arith

two_small : (x : ℕ) → Bytes (two_bytes x)
two_small x = (omega arith, (omega arith, tt))

eight_small : (x : ℕ) → Bytes (eight_bytes x)
eight_small x = (omega arith, (omega arith, (omega arith, (omega arith, (omega arith, (omega arith, (omega arith, (omega arith, tt))))))))

both : (xs ys : List ℕ) → Bytes xs → Bytes ys → Bytes (xs ++ ys)
both xs ys p q = All-append (λ b. b < 256) xs ys p q

joined_small : {X : Type 0} (f : X → List ℕ) → ((x : X) → Bytes (f x)) → (xs : List X) → Bytes (flat_map f xs)
joined_small f small [] = tt
joined_small f small (x ∷ xs) = both (f x) (flat_map f xs) (small x) (joined_small f small xs)

step_small : (s : Step) → Bytes (step_bytes s)
step_small s = both (eight_bytes s.penalty) (two_bytes s.count ++ eight_bytes s.loss) (eight_small s.penalty) (both (two_bytes s.count) (eight_bytes s.loss) (two_small s.count) (eight_small s.loss))

cut_small : (total : ℕ) (gaps : List ℕ) → Bytes (cut_bytes total gaps)
cut_small total gaps =
    both (eight_bytes total) (two_bytes (length gaps) ++ flat_map two_bytes gaps) (eight_small total)
    (both (two_bytes (length gaps)) (flat_map two_bytes gaps) (two_small (length gaps)) (joined_small two_bytes two_small gaps))

reply_small : (a : Answered) → Bytes (reply_bytes a)
reply_small (readings x) = (omega arith, two_small x)
reply_small (opening x) = (omega arith, two_small x)
reply_small (mark x) = (omega arith, two_small x)
reply_small (unmark x) = (omega arith, two_small x)
reply_small (shortest x) = (omega arith, two_small x)
reply_small (cut_by_penalty total gaps) = (omega arith, cut_small total gaps)
reply_small (cut_by_count total gaps) = (omega arith, cut_small total gaps)
reply_small (path steps) = (omega arith, both (two_bytes (length steps)) (flat_map step_bytes steps) (two_small (length steps)) (joined_small step_bytes step_small steps))
reply_small reopen = (omega arith, tt)
reply_small (refusal f line) = (omega arith, (fault_small f, two_small line))

pub replies_differ : RepliesDiffer
replies_differ a b fits-a fits-b same =
    let from-a = read_back (reply_bytes a) (reply_small a) in
    let from-b = read_back (reply_bytes b) (reply_small b) in
    let texts = ap bytes_in same in
    let bytes : reply_bytes a ≡ reply_bytes b = cc in
    sym (reply_back a fits-a) ∙ ap reply_in bytes ∙ reply_back b fits-b
