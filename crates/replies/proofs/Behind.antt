-- One part of a reply put behind another.
use Rattle.std.proofs.Common.{◌≡◌, ℕ, List, ◌++◌, Ok, Err, Result, sym, refl, ◌∙◌, subst}
use Rattle.std.proofs.lemmas.List.{append_assoc}
use Rattle.std.specs.declared.alloc.AllocError.{AllocError}
use Rattle.hexadecimal.specs.Digits.{text_of}
use Rattle.hexadecimal.proofs.Texts.{text_append}
use Rattle.replies.specs.Answered.{Answered, reply_bytes}
use Rattle.replies.specs.Put.{Put}

-- where it is wanting behind a part
pub put_some : (part before mid after : List ℕ) → mid ≡ before ++ part → (more : List ℕ) × (after ≡ mid ++ more) → (more : List ℕ) × (after ≡ before ++ more)
put_some part before mid after front p = (part ++ p.0, p.1 ∙ rw (front, append_assoc) refl)

-- a second part, put behind the first
pub put_then : (r : Result Unit AllocError) (first second before mid after : List ℕ) → mid ≡ before ++ text_of first → Put second mid after r → Put (first ++ second) before after r
put_then (Ok u) first second before mid after front put = put ∙ rw (front, text_append, append_assoc) refl
put_then (Err f) first second before mid after front put = put_some (text_of first) before mid after front put

-- the bytes of one reply are those of the same reply
pub put_for : (a b : Answered) (r : Result Unit AllocError) (before after : List ℕ) → b ≡ a → Put (reply_bytes a) before after r → Put (reply_bytes b) before after r
put_for a b r before after e put = subst (λ (x : Answered). Put (reply_bytes x) before after r) (sym e) put
