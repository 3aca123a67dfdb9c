-- An input that is being read, byte by byte, and the theorem that its replies are those of its lines.
use Rattle.std.specs.Prelude.{◌≡◌, ℕ, ◌+◌, cond, List, [], ◌∷◌, ◌++◌, length, take, fold, ◌==◌}
use Rattle.inputs.specs.declared.reader.LineReader.{LineReader}
use Rattle.inputs.specs.Lines.{lines_of, whole, state_after, replies_to, text_of}

-- the first 131 bytes of the line that has begun, how many lines have ended, the state of whoever answers, and the text of the replies
pub record Read (S : Type 0) : Type 0 where
  pub line : List ℕ
  pub lines : ℕ
  pub state : S
  pub text : List ℕ

-- what is kept of the line that has begun
abbrev pub front_of : LineReader → List ℕ
front_of r = r.front.items

abbrev pub read_by : {S : Type 0} → LineReader → S → List ℕ → Read S
read_by r s text = record { line = front_of r; lines = r.lines; state = s; text = text }

-- nothing is read yet
abbrev pub begun : {S : Type 0} → S → List ℕ → Read S
begun s text = record { line = []; lines = 0; state = s; text = text }

-- the same, with more text before it
abbrev pub behind_text : {S : Type 0} → List ℕ → Read S → Read S
behind_text before r = record { line = r.line; lines = r.lines; state = r.state; text = before ++ r.text }

module _ {S : Type 0} (step : S → List ℕ → ℕ → S) (reply : S → List ℕ → ℕ → List ℕ) where
  -- the line ends, and its reply is printed
  abbrev pub ended : Read S → Read S
  ended r = record {
    line = [];
    lines = r.lines + 1;
    state = step r.state r.line (r.lines + 1);
    text = r.text ++ (reply r.state r.line (r.lines + 1) ++ 10 ∷ []);
  }

  -- one byte more; behind line 65,535 nothing is read
  abbrev pub next : Read S → ℕ → Read S
  next r b =
      cond (r.lines == 65535) r
      (cond (b == 10) (ended r) (record { line = take 131 (r.line ++ b ∷ []); lines = r.lines; state = r.state; text = r.text }))

  -- the input has ended: a line that has begun ends too
  abbrev pub closed : Read S → Read S
  closed r = cond (length r.line == 0) r (cond (r.lines == 65535) r (ended r))

  -- the state and the text that the whole input leaves
  pub record Answered (s : S) (out : List ℕ) (lines : List (List ℕ)) (r : Read S) : Type 0 where
    pub after : r.state ≡ state_after step s 0 lines
    pub printed : r.text ≡ out ++ text_of (replies_to step reply s 0 lines)

  -- however the input comes in parts, each of its lines is answered, in order
  abbrev pub LineByLine : Type 0
  LineByLine = (s : S) (out : List ℕ) (parts : List (List ℕ)) → Answered s out (lines_of (whole parts)) (closed (fold (fold next) (begun s out) parts))

  -- what a part prints does not depend on the text before it, so that the text may be taken away between parts
  pub record TextApart : Type 0 where
    pub part : (before : List ℕ) (r : Read S) (bytes : List ℕ) → fold next (behind_text before r) bytes ≡ behind_text before (fold next r bytes)
    pub end : (before : List ℕ) (r : Read S) → closed (behind_text before r) ≡ behind_text before (closed r)
