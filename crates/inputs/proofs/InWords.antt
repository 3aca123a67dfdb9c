-- Lines are read as they were written.
use Rattle.std.proofs.Common.{◌≡◌, ℕ, ◌+◌, false, eqb, List, [], ◌∷◌, ◌++◌, refl, ap, ◌∙◌, arith}
use Rattle.std.specs.List.{AllByRecursion}
use Rattle.std.proofs.lemmas.Bool.{ne_eqb}
use Rattle.std.proofs.lemmas.List.{append_assoc, length-take, take_all}
use Rattle.inputs.specs.Lines.{on_first, all_lines, text_of}
use Rattle.inputs.specs.Theorems.{OneLine, LinesInWords, OneEach}

-- a line and its end, and what stands behind them
first_line : (line rest : List ℕ) → OneLine line → all_lines (line ++ (10 ∷ rest)) ≡ line ∷ all_lines rest
first_line [] rest one = refl
first_line (b ∷ line) rest one =
    let e : eqb b 10 ≡ false = ne_eqb b 10 one.0 in
    simp e (ap (on_first b) (first_line line rest one.1))

open_line : (b : ℕ) (line : List ℕ) → OneLine (b ∷ line) → all_lines (b ∷ line) ≡ (b ∷ line) ∷ []
open_line b [] one = let e : eqb b 10 ≡ false = ne_eqb b 10 one.0 in simp e
open_line b (k ∷ line) one = let e : eqb b 10 ≡ false = ne_eqb b 10 one.0 in simp e (ap (on_first b) (open_line k line one.1))

behind : (lines : List (List ℕ)) (rest : List ℕ) → AllByRecursion OneLine lines → all_lines (text_of lines ++ rest) ≡ lines ++ all_lines rest
behind [] rest all = refl
behind (line ∷ lines) rest all =
    let e : ((line ++ 10 ∷ []) ++ text_of lines) ++ rest ≡ line ++ (10 ∷ (text_of lines ++ rest)) = append_assoc (line ++ 10 ∷ []) (text_of lines) rest ∙ append_assoc line (10 ∷ []) (text_of lines ++ rest) in
    ap all_lines e ∙ first_line line (text_of lines ++ rest) all.0 ∙ ap (λ (ls : List (List ℕ)). line ∷ ls) (behind lines rest all.1)

written : (lines : List (List ℕ)) → AllByRecursion OneLine lines → all_lines (text_of lines) ≡ lines
written [] all = refl
written (line ∷ lines) all =
    ap all_lines (append_assoc line (10 ∷ []) (text_of lines)) ∙ first_line line (text_of lines) all.0 ∙ ap (λ (ls : List (List ℕ)). line ∷ ls) (written lines all.1)

pub lines_in_words : LinesInWords
lines_in_words = record {
  none = refl;
  ended = written;
  last_open = λ lines b line all one. behind lines (b ∷ line) all ∙ ap (λ (ls : List (List ℕ)). lines ++ ls) (open_line b line one);
  few = λ input. omega (arith, length-take 65535 (all_lines input));
  all_read = λ input short. take_all 65535 (all_lines input) short;
}

pub one_each : {S : Type 0} (step : S → List ℕ → ℕ → S) (reply : S → List ℕ → ℕ → List ℕ) → OneEach step reply
one_each step reply s n [] = refl
one_each step reply s n (line ∷ lines) = omega (arith, one_each step reply (step s line (n + 1)) (n + 1) lines)
