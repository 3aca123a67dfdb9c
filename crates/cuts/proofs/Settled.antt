-- An answer that is never a refusal.
use Rattle.std.proofs.Common.{Ok, Err, Result, MatchResult}
use Rattle.fault.specs.declared.Fault.{Fault}

-- a further fact of an answer that is never a refusal
pub answered : {X P Q : Type 0} (r : Result X Fault) → (P → Q) → MatchResult r (λ _. P) (λ _. ⊥) → MatchResult r (λ _. Q) (λ _. ⊥)
answered (Ok x) f h = f h
answered (Err e) f h = h
