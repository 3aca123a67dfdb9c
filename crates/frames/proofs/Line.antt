-- The bytes of a line stand at the front of the buffer.
use Rattle.std.proofs.Common.{◌≡◌, ℕ, ◌≤◌, List, length, take, drop, Ok, Err, Result, sym, ap, ◌∙◌, arith}
use Rattle.std.proofs.lemmas.List.{take_at, length-append}
use Rattle.fault.specs.declared.Fault.{Fault}
use Rattle.hexadecimal.specs.Line.{how_many, laid_over}
use Rattle.frames.specs.declared.size.ReadingSize.{ReadingSize}
use Rattle.frames.specs.Asked.{Asked, frame_of}

pub record AtFront (line : Result (List ℕ) Fault) (after : List ℕ) (n : ℕ) : Type 0 where
  pub bytes : line ≡ Ok (take n after)
  pub within : n ≤ length after

pub at_front : (line : Result (List ℕ) Fault) (before after : List ℕ) (n : ℕ) → Ok n ≡ how_many line → after ≡ laid_over line before → AtFront line after n
at_front (Ok bytes) before after n e laid =
    let size : length bytes ≡ n = cc in
    let front : take n after ≡ bytes = ap (take n) laid ∙ take_at bytes (drop (length bytes) before) n size in
    record { bytes = ap Ok (sym front); within = rw laid (simp length-append (omega arith)) }
at_front (Err f) before after n e laid = absurd (let z : ◌≡◌ {A = ℕ} 0 1 = cc in omega arith)

pub refused : (size : ReadingSize) (line : Result (List ℕ) Fault) (f : Fault) → Err f ≡ how_many line → ◌≡◌ {A = Result Asked Fault} (Err f) (frame_of size line)
refused size (Ok bytes) f e = absurd (let z : ◌≡◌ {A = ℕ} 0 1 = cc in omega arith)
refused size (Err g) f e = let same : f ≡ g = cc in ap Err same
