-- Filling rows: an entry stays right while the trace behind it stays, and what the search picks makes the next one.
use Rattle.std.proofs.Common.{◌≡◌, ℕ, ◌+◌, ◌-◌, ◌<◌, ◌≤◌, ◌⊎◌, List, [], ◌∷◌, length, get_or, set, IfSome, Some, None, Option, sym, refl, ap, ◌∙◌, subst, inl, inr, arith, get_or-set_other, get_or-set_same}
use native.Mathlib.Decide.{dec_lt}
use Rattle.tally.specs.Order.{Tallying, Order, Weak}
use Rattle.search.specs.Starts.{Stages, Starts, any_number, exactly}
use Rattle.search.specs.Rows.{Picked, Entry, Least, Extended, Traced, Row, NextRow, value_of, start_of}
use Rattle.search.proofs.Optimal.{best_starts, keeps}

module _ {V S : Type 0} (m : Tallying V) (n : Stages S) (order : Order m.below) (start-for start-for' : S → ℕ → ℕ) (Old : S → ℕ → Type 0)
    (closed : (s : S) (t a : ℕ) → Old s t → a < t → Old (n.prev s) a) (agree : (s : S) (t : ℕ) → Old s t → start-for' s t ≡ start-for s t) where
  traced_stays : (s : S) (t : ℕ) (ds : List ℕ) → Old s t → Starts n s t ds → Traced n.prev start-for s t ds → Traced n.prev start-for' s t ds
  traced_stays s t [] old starts h = tt
  traced_stays s t (a ∷ more) old starts h = (agree s t old ∙ h.0, traced_stays (n.prev s) a more (closed s t a old starts.0) starts.2 h.1)

  entry_same : (s : S) (t : ℕ) (o : Option V) → Old s t → Entry m n (Traced n.prev start-for s t) s t o → Entry m n (Traced n.prev start-for' s t) s t o
  entry_same s t None old h = h
  entry_same s t (Some v) old h = (h.0, h.1, h.2, traced_stays s t h.0 old (best_starts m n order s t h.0 h.1) h.3)

  pub entry_stays : (s : S) (t : ℕ) (o o' : Option V) → Old s t → o' ≡ o → Entry m n (Traced n.prev start-for s t) s t o → Entry m n (Traced n.prev start-for' s t) s t o'
  entry_stays s t o o' old e h = subst (λ x. Entry m n (Traced n.prev start-for' s t) s t x) (sym e) (entry_same s t o old h)

  next_entry : (s : S) (t : ℕ) (r : Option (V × ℕ)) → ((a : ℕ) → a < t → Old (n.prev s) a) → start-for' s t ≡ start_of r
      → Extended m n (λ a. Traced n.prev start-for (n.prev s) a) s t r → Entry m n (Traced n.prev start-for' s t) s t (value_of r)
  next_entry s t None old e h = h
  next_entry s t (Some (v, a)) old e h =
      (a ∷ h.0, h.1, h.2, (e, traced_stays (n.prev s) a h.0 (old a h.1.0) (best_starts m n order s t (a ∷ h.0) h.1).2 h.3))

  -- the entries of the stage before are right, so what the search picked makes the entry at t
  pub next_entry_right : Weak m → (s : S) (t : ℕ) (from : ℕ → Option V) (r : Option (V × ℕ)) (o : Option V) → (n.begins s t → ⊥)
      → ((a : ℕ) → a < t → Old (n.prev s) a)
      → ((a : ℕ) → a < t → Entry m n (Traced n.prev start-for (n.prev s) a) (n.prev s) a (from a))
      → Picked m (λ a. n.permits s a t) from t t r → start-for' s t ≡ start_of r → o ≡ value_of r
      → Entry m n (Traced n.prev start-for' s t) s t o
  next_entry_right weakly s t from r o later old rows picked e f =
      subst (λ x. Entry m n (Traced n.prev start-for' s t) s t x) (sym f)
      (next_entry s t r old e (keeps m n order weakly s t from (λ a. Traced n.prev start-for (n.prev s) a) later rows r picked))

last : (b i : ℕ) → b < i + 1 → (b < i) ⊎ (b ≡ i)
last b i h = elim (dec_lt b i) [ yes lt ↦ inl lt | no ge ↦ inr (omega arith) ]

-- A row over any number of stretches: entry t from the entries before it.
module _ {V : Type 0} (m : Tallying V) (can : ℕ → ℕ → Type 0) where
  abbrev starts_for : List ℕ → Unit {0} → ℕ → ℕ
  starts_for trace _ x = get_or trace x 0

  pub any_first : (trace : List ℕ) (row : ℕ → Option V) → row 0 ≡ Some m.zero → Row m (any_number can) (λ _ x. get_or trace x 0) tt row 1
  any_first trace row e t lt =
      let z : t ≡ 0 = omega arith in
      let P : ℕ → Type 0 = λ t. Entry m (any_number can) (Traced (λ s. s) (starts_for trace) tt t) tt t (row t) in
      let here : P 0 = subst (λ o. Entry m (any_number can) (Traced (λ s. s) (starts_for trace) tt 0) tt 0 o) (sym e) ([], refl, refl, tt) in
      subst P (sym z) here

  pub any_next : Order m.below → Weak m → (t : ℕ) (trace : List ℕ) (row row' : ℕ → Option V) (r : Option (V × ℕ)) → 0 < t → t < length trace
      → Row m (any_number can) (λ _ x. get_or trace x 0) tt row t
      → Picked m (λ a. can a t) row t t r
      → row' t ≡ value_of r → ((k : ℕ) → (k ≡ t → ⊥) → row' k ≡ row k)
      → Row m (any_number can) (λ _ x. get_or (set trace t (start_of r)) x 0) tt row' (t + 1)
  any_next order weakly t trace row row' r later room rows picked here others b lt =
      let new : List ℕ = set trace t (start_of r) in
      let Old : Unit {0} → ℕ → Type 0 = λ _ x. x < t in
      let closed : (s : Unit {0}) (x a : ℕ) → Old s x → a < x → Old s a = λ s x a h k. omega arith in
      let agree : (s : Unit {0}) (x : ℕ) → Old s x → starts_for new s x ≡ starts_for trace s x = λ s x h. get_or-set_other trace t x (start_of r) 0 (omega arith) in
      let P : ℕ → Type 0 = λ x. Entry m (any_number can) (Traced (λ s. s) (starts_for new) tt x) tt x (row' x) in
      elim (last b t lt) [
        | inl l ↦ entry_stays m (any_number can) order (starts_for trace) (starts_for new) Old closed agree tt b (row b) (row' b) l (others b (omega arith)) (rows b l)
        | inr q ↦ subst P (sym q)
            (next_entry_right m (any_number can) order (starts_for trace) (starts_for new) Old closed agree weakly tt t row r (row' t) (λ z. omega arith) (λ a h. h) rows picked (get_or-set_same trace t (start_of r) 0 room) here)
      ]

pub fits_wider : {V : Type 0} (near far : V → Type 0) → ((x : V) → near x → far x) → (o : Option (V × ℕ)) → IfSome o (λ p. near p.0) → IfSome o (λ p. far p.0)
fits_wider near far wider None h = h
fits_wider near far wider (Some p) h = wider p.0 h

fits_value : {V : Type 0} (near : V → Type 0) (o : Option (V × ℕ)) → IfSome o (λ p. near p.0) → IfSome (value_of o) near
fits_value near None h = h
fits_value near (Some p) h = h

pub fits_next : {V : Type 0} (fits : ℕ → V → Type 0) (t : ℕ) (row row' : ℕ → Option V) (r : Option (V × ℕ))
    → ((a : ℕ) → a < t → IfSome (row a) (fits a)) → IfSome r (λ p. fits t p.0)
    → row' t ≡ value_of r → ((k : ℕ) → (k ≡ t → ⊥) → row' k ≡ row k)
    → (a : ℕ) → a < t + 1 → IfSome (row' a) (fits a)
fits_next fits t row row' r old new here others a lt =
    elim (last a t lt) [
      | inl l ↦ subst (λ o. IfSome o (fits a)) (sym (others a (omega arith))) (old a l)
      | inr q ↦ subst (λ x. IfSome (row' x) (fits x)) (sym q) (subst (λ o. IfSome o (fits t)) (sym here) (fits_value (fits t) r new))
    ]

picked_ok : {V : Type 0} (m : Tallying V) (P Q : ℕ → Type 0) (row : ℕ → Option V) (limit t : ℕ) (r : Option (V × ℕ)) → ((a : ℕ) → P a → Q a) → ((a : ℕ) → Q a → P a)
    → Picked m P row limit t r → Picked m Q row limit t r
picked_ok m P Q row limit t None there back h = λ b lt q. h b lt (back b q)
picked_ok m P Q row limit t (Some (v, a)) there back h = (h.0, there a h.1, h.2, (λ b lt q. h.3 b lt (back b q)), λ b gt lt q. h.4 b gt lt (back b q))

-- A row after the row before it: the starts of s stretches from those of s - 1.
module _ {V : Type 0} (m : Tallying V) (can : ℕ → ℕ → Type 0) where
  pub exactly_first : (start-for : ℕ → ℕ → ℕ) (row : ℕ → Option V) (limit : ℕ) → row 0 ≡ Some m.zero → ((t : ℕ) → 0 < t → t < limit → row t ≡ None)
      → Row m (exactly can) start-for 0 row limit
  exactly_first start-for row limit e none t lt =
      let P : Option V → Type 0 = λ o. Entry m (exactly can) (Traced (λ s. s - 1) start-for 0 t) 0 t o in
      elim (dec_lt 0 t) [
        | yes pos ↦ subst P (sym (none t pos lt)) (no_starts t pos)
        | no z ↦
            let eq : t ≡ 0 = omega arith in
            subst P (sym (ap row eq ∙ e)) ([], (refl, eq), refl, tt)
      ] where
        no_starts : (t : ℕ) → 0 < t → (ds : List ℕ) → Starts (exactly can) 0 t ds → ⊥
        no_starts t pos [] w = let e : t ≡ 0 = w.1 in omega arith
        no_starts t pos (a ∷ more) w = let h : 0 < 0 = w.1.0 in omega arith

  pub exactly_next : Order m.below → Weak m → (fits : ℕ → V → Type 0) (s limit : ℕ) (start-for start-for' : ℕ → ℕ → ℕ) (before after : ℕ → Option V) → 0 < s
      → Row m (exactly can) start-for (s - 1) before limit
      → NextRow m can fits before after (λ t a. start-for' s t ≡ a) limit
      → ((j x : ℕ) → j < s → x < limit → start-for' j x ≡ start-for j x)
      → Row m (exactly can) start-for' s after limit
  exactly_next order weakly fits s limit start-for start-for' before after pos rows filled same t lt =
      let found = filled.found t lt in
      let r : Option (V × ℕ) = found.0 in
      let Old : ℕ → ℕ → Type 0 = λ j x. (j < s) × (x < limit) in
      next_entry_right m (exactly can) order start-for start-for' Old (λ j x a h k. (omega arith, omega arith)) (λ j x h. same j x h.0 h.1) weakly s t before r (after t)
      (λ z. omega arith) (λ a h. (omega arith, omega arith)) (λ a h. rows a (omega arith))
      (picked_ok m (λ a. can a t) (λ a. (0 < s) × (can a t)) before t t r (λ a h. (pos, h)) (λ a h. h.1) found.1) found.3 found.2

picked_row : {V : Type 0} (m : Tallying V) (P : ℕ → Type 0) (row row' : ℕ → Option V) (limit t : ℕ) (r : Option (V × ℕ)) → ((a : ℕ) → a < limit → row a ≡ row' a)
    → Picked m P row limit t r → Picked m P row' limit t r
picked_row m P row row' limit t None same h = λ b lt q w e. h b lt q w (same b lt ∙ e)
picked_row m P row row' limit t (Some (v, a)) same h =
    (h.0, h.1, (h.2.0, sym (same a h.0) ∙ h.2.1, h.2.2), (λ b lt q w e. h.3 b lt q w (same b lt ∙ e)), λ b gt lt q w e. h.4 b gt lt q w (same b lt ∙ e))

-- one more entry of a row
pub entry_more : {V : Type 0} (m : Tallying V) (can : ℕ → ℕ → Type 0) (fits : ℕ → V → Type 0) (before row after after' : ℕ → Option V) (noted noted' : ℕ → ℕ → Type 0) (t : ℕ) (r : Option (V × ℕ))
    → NextRow m can fits before after noted t
    → ((a : ℕ) → a < t → row a ≡ before a)
    → Picked m (λ a. can a t) row t t r → IfSome r (λ p. fits t p.0)
    → after' t ≡ value_of r → ((k : ℕ) → (k ≡ t → ⊥) → after' k ≡ after k)
    → noted' t (start_of r) → ((k a : ℕ) → k < t → noted k a → noted' k a)
    → NextRow m can fits before after' noted' (t + 1)
entry_more {V} m can fits before row after after' noted noted' t r filled same picked small here others Noted-here noted-still =
    record {
      found = λ b lt. elim (last b t lt) [
        | inl l ↦ (let was = filled.found b l in (was.0, was.1, others b (omega arith) ∙ was.2, noted-still b (start_of was.0) l was.3))
        | inr q ↦ (let Here : ℕ → Type 0 = λ b. (o : Option (V × ℕ)) × Picked m (λ a. can a b) before b b o × (after' b ≡ value_of o) × noted' b (start_of o) in
            let new : Here t = (r, picked_row m (λ a. can a t) row before t t r same picked, here, Noted-here) in
            subst Here (sym q) new)
      ];
      small = fits_next fits t after after' r filled.small small here others;
    }

pub row_noted : {V : Type 0} (m : Tallying V) (can : ℕ → ℕ → Type 0) (fits : ℕ → V → Type 0) (before after : ℕ → Option V) (noted noted' : ℕ → ℕ → Type 0) (limit : ℕ)
    → ((t a : ℕ) → t < limit → noted t a → noted' t a) → NextRow m can fits before after noted limit → NextRow m can fits before after noted' limit
row_noted m can fits before after noted noted' limit told filled =
    record { found = λ t lt. (let f = filled.found t lt in (f.0, f.1, f.2, told t (start_of f.0) lt f.3)); small = filled.small }

-- An entry with nothing kept of its starts.
pub forgotten : {V S : Type 0} (m : Tallying V) (n : Stages S) (kept : List ℕ → Type 0) (s : S) (t : ℕ) (o : Option V) → Entry m n kept s t o → Least m n s t o
forgotten m n kept s t None h = h
forgotten m n kept s t (Some v) h = (h.0, h.1, h.2, tt)

extended_least : {V S : Type 0} (m : Tallying V) (n : Stages S) (s : S) (t : ℕ) (r : Option (V × ℕ)) → Extended m n (λ _ _. Unit {0}) s t r → Least m n s t (value_of r)
extended_least m n s t None h = h
extended_least m n s t (Some (v, a)) h = (a ∷ h.0, h.1, h.2, tt)

-- a row after the row before it, with no trace
pub least_next : {V : Type 0} (m : Tallying V) (can : ℕ → ℕ → Type 0) → Order m.below → Weak m → (fits : ℕ → V → Type 0) (s limit : ℕ) (before after : ℕ → Option V) (noted : ℕ → ℕ → Type 0) → 0 < s
    → ((t : ℕ) → t < limit → Least m (exactly can) (s - 1) t (before t))
    → NextRow m can fits before after noted limit
    → (t : ℕ) → t < limit → Least m (exactly can) s t (after t)
least_next m can order weakly fits s limit before after noted pos rows filled t lt =
    let found = filled.found t lt in
    subst (λ o. Least m (exactly can) s t o) (sym found.2)
    (extended_least m (exactly can) s t found.0 (keeps m (exactly can) order weakly s t before (λ _ _. Unit {0}) (λ z. omega arith) (λ a h. rows a (omega arith)) found.0
    (picked_ok m (λ a. can a t) (λ a. (0 < s) × (can a t)) before t t found.0 (λ a h. (pos, h)) (λ a h. h.1) found.1)))

pub fits_some : {V : Type 0} (near far : V → Type 0) → ((x : V) → near x → far x) → (o : Option V) → IfSome o near → IfSome o (λ x. far x)
fits_some near far wider None h = h
fits_some near far wider (Some v) h = wider v h

-- the tallies of the first row fit
pub first_fits : {V : Type 0} (fits : ℕ → V → Type 0) (zero : V) (row : ℕ → Option V) (limit : ℕ) → fits 0 zero → row 0 ≡ Some zero → ((t : ℕ) → 0 < t → t < limit → row t ≡ None)
    → (a : ℕ) → a < limit → IfSome (row a) (λ v. fits a v)
first_fits {V} fits zero row limit least first rest a lt =
    let Fit : ℕ → Option V → Type 0 = λ a o. IfSome o (λ v. fits a v) in
    elim (dec_lt 0 a) [
      | yes pos ↦ subst (Fit a) (sym (rest a pos lt)) tt
      | no z ↦ (let e : a ≡ 0 = omega arith in subst (λ (x : ℕ). Fit x (row x)) (sym e) (subst (Fit 0) (sym first) least))
    ]

-- two rows that take the same two places by turns
abbrev pub ByTurns : ℕ → ℕ → ℕ → Type 0
ByTurns n src dst = ((src ≡ 0) × (dst ≡ n + 1)) ⊎ ((src ≡ n + 1) × (dst ≡ 0))

pub apart : (n src dst : ℕ) → ByTurns n src dst → (src ≤ n + 1) × (dst ≤ n + 1) × ((src + n < dst) ⊎ (dst + n < src))
apart n src dst (inl h) = (omega arith, omega arith, inl (omega arith))
apart n src dst (inr h) = (omega arith, omega arith, inr (omega arith))

pub swapped : (n src dst : ℕ) → ByTurns n src dst → ByTurns n dst src
swapped n src dst (inl h) = inr (h.1, h.0)
swapped n src dst (inr h) = inl (h.1, h.0)
