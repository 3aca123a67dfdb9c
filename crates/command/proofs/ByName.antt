-- A name that is no command's, and a command that takes one number.
use Rattle.std.proofs.Common.{◌≡◌, ℕ, false, List, Ok, Err, codes, slice_index, Option, Result, refl, inl, inr}
use Rattle.std.specs.Str.{bytes_eq}
use Rattle.std.proofs.lemmas.Bool.{cases_Bool, ne_eqb}
use Rattle.std.proofs.lemmas.Slice.Eq.{bytes_eq-Decides}
use Rattle.fault.specs.declared.Fault.{Fault}
use Rattle.fault.specs.declared.Fault.TheVariants.{UnknownFrame}
use Rattle.command.specs.Said.{Said}
use Rattle.command.specs.Line.{and_then, number, by_name}

apart : (word name : List ℕ) → (word ≡ name → ⊥) → bytes_eq word name ≡ false
apart word name other = elim (cases_Bool (bytes_eq word name)) [ inl e ↦ absurd (other ((bytes_eq-Decides word name).0 e)) | inr e ↦ e ]

-- it is none of the names, and no comment begins with it
pub record IsUnknown (name : List ℕ) : Type 0 where
  pub comment : slice_index name 0 ≡ 35 → ⊥
  pub help : name ≡ codes "help" → ⊥
  pub loss : name ≡ codes "loss" → ⊥
  pub readings : name ≡ codes "readings" → ⊥
  pub mark : name ≡ codes "mark" → ⊥
  pub unmark : name ≡ codes "unmark" → ⊥
  pub shortest : name ≡ codes "shortest" → ⊥
  pub price : name ≡ codes "price" → ⊥
  pub best : name ≡ codes "best" → ⊥
  pub path : name ≡ codes "path" → ⊥

pub unknown : (name : List ℕ) (ws : List (List ℕ)) → IsUnknown name → by_name name ws ≡ Err UnknownFrame
unknown name ws u =
    simp (
      ne_eqb (slice_index name 0) 35 u.comment,
      apart name (codes "help") u.help,
      apart name (codes "loss") u.loss,
      apart name (codes "readings") u.readings,
      apart name (codes "mark") u.mark,
      apart name (codes "unmark") u.unmark,
      apart name (codes "shortest") u.shortest,
      apart name (codes "price") u.price,
      apart name (codes "best") u.best,
      apart name (codes "path") u.path,
    )

-- the number of the only word, and the command that it makes
pub one_number : (r : Result (List ℕ) Fault) (f : List ℕ → Option ℕ) (s : ℕ → Said) (found : Result ℕ Fault) → found ≡ and_then r (λ w. number (f w)) →
    and_then r (λ w. and_then (number (f w)) (λ n. Ok (s n))) ≡ and_then found (λ n. Ok (s n))
one_number (Ok w) f s found e = rw e refl
one_number (Err x) f s found e = rw e refl
