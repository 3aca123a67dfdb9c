-- Lifting takes the one mark from those that stand.
use Rattle.std.proofs.Common.{◌≡◌, ℕ, suc, true, false, eqb, ◌⊎◌, List, [], ◌∷◌, length, sym, refl, ap, ◌∙◌, inl, inr, ⊎_elim, arith}
use Rattle.std.proofs.lemmas.Bool.{cases_eq, eq-eqb, ne_eqb}
use Rattle.std.proofs.lemmas.Bool.Decides.{nat_tests}
use Rattle.division.specs.declared.mark.Mark.{Mark}
use Rattle.marks.specs.Marks.{in_order, begins_at, lifted}
use Rattle.division.specs.Theorems.{In}
use Rattle.marks.specs.Theorems.{LessOne, LiftedTakesOne, LiftedWhenOneBegins}
use Rattle.marks.proofs.Order.{begun, lifted_in_order}
use Rattle.marks.proofs.Laying.{length_more}
use Rattle.marks.proofs.Stand.{ordered, stands, among_from}

pub begins : (first : ℕ) (ms : List Mark) (m : Mark) → In m ms → m.first ≡ first → begins_at first ms ≡ true
begins first [] m a e = absurd a
begins first (k ∷ ks) m a e =
    ⊎_elim
    (λ (d : m ≡ k). let f = ap (λ t. t.first) d in let b : eqb k.first first ≡ true = eq-eqb _ _ (omega arith) in rw b)
    (λ (b : In m ks). let r : begins_at first ks ≡ true = begins first ks m b e in grind (arith, nat_tests))
    a

pub one_begins : (first : ℕ) (ms : List Mark) → begins_at first ms ≡ true → (m : Mark) × In m ms × (m.first ≡ first)
one_begins first [] h = let z : ◌≡◌ {A = ℕ} 0 1 = cc in absurd (omega arith)
one_begins first (k ∷ ks) h =
    ⊎_elim
    (λ (e : k.first ≡ first). (k, inl refl, e))
    (λ (e : k.first ≡ first → ⊥). let b : eqb k.first first ≡ false = ne_eqb _ _ e in
    let r = one_begins first ks (rw b at h) in (r.0, inr r.1, r.2))
    (cases_eq k.first first)

pub lifted_when_one_begins : LiftedWhenOneBegins
lifted_when_one_begins first ms = (
  (λ h. one_begins first ms (grind (arith, nat_tests))),
  (λ m a e. let b : begins_at first ms ≡ true = begins first ms m a e in rw b),
)

pub lifted_splits : (low first : ℕ) (ms : List Mark) (m : Mark) → in_order low ms ≡ true → In m ms → m.first ≡ first → LessOne m ms (lifted first ms)
lifted_splits low first [] m h a e = absurd a
lifted_splits low first (k ∷ ks) m h a e =
    let o = begun low k ks h in
    ⊎_elim
    (λ (d : m ≡ k).
    let f = ap (λ t. t.first) d in
    let b : eqb k.first first ≡ true = eq-eqb _ _ (omega arith) in
    record { front = []; back = ks; with_it = ap (λ t. t ∷ ks) (sym d); without_it = rw b })
    (λ (d : In m ks).
    let u = among_from k.last ks m o.rest d in
    let n : k.first ≡ first → ⊥ = λ q. omega arith in
    let b : eqb k.first first ≡ false = ne_eqb _ _ n in
    let r = lifted_splits k.last first ks m o.rest d e in
    record { front = k ∷ r.front; back = r.back; with_it = ap (λ t. k ∷ t) r.with_it; without_it = rw b (ap (λ t. k ∷ t) r.without_it) })
    a

pub lifted_holds : (low first : ℕ) (ms : List Mark) (x : Mark) → in_order low ms ≡ true → In x (lifted first ms) → In x ms × (x.first ≡ first → ⊥)
lifted_holds low first [] x h a = absurd a
lifted_holds low first (k ∷ ks) x h a =
    let o = begun low k ks h in
    ⊎_elim
    (λ (e : k.first ≡ first). let b : eqb k.first first ≡ true = eq-eqb _ _ e in
    let d : In x ks = rw b at a in
    let u = among_from k.last ks x o.rest d in
    (inr d, λ q. omega arith))
    (λ (e : k.first ≡ first → ⊥). let b : eqb k.first first ≡ false = ne_eqb _ _ e in
    let d : (x ≡ k) ⊎ In x (lifted first ks) = rw b at a in
    ⊎_elim
    (λ (p : x ≡ k). let f = ap (λ t. t.first) p in (inl p, λ q. e (sym f ∙ q)))
    (λ (p : In x (lifted first ks)). let r = lifted_holds k.last first ks x o.rest p in (inr r.0, r.1))
    d)
    (cases_eq k.first first)

pub lifted_held : (first : ℕ) (ms : List Mark) (x : Mark) → In x ms → (x.first ≡ first → ⊥) → In x (lifted first ms)
lifted_held first [] x a n = a
lifted_held first (k ∷ ks) x a n =
    ⊎_elim
    (λ (e : k.first ≡ first). let b : eqb k.first first ≡ true = eq-eqb _ _ e in
    rw b (⊎_elim (λ (p : x ≡ k). absurd (n (ap (λ t. t.first) p ∙ e))) (λ (p : In x ks). p) a))
    (λ (e : k.first ≡ first → ⊥). let b : eqb k.first first ≡ false = ne_eqb _ _ e in
    rw b (⊎_elim (λ (p : x ≡ k). inl p) (λ (p : In x ks). inr (lifted_held first ks x p n)) a))
    (cases_eq k.first first)

pub lifted_takes_one : LiftedTakesOne
lifted_takes_one first ms s =
    let o = ordered ms s in
    record {
      holds = λ x a. lifted_holds 1 first ms x o a;
      held = lifted_held first ms;
      one_less = λ m a e.
          let d = lifted_splits 1 first ms m o a e in
          ap length d.with_it ∙ length_more m d.front d.back ∙ ap (λ t. suc (length t)) (sym d.without_it);
      others_in_order = λ m a e. lifted_splits 1 first ms m o a e;
      stands = stands 1 (lifted first ms) (omega arith) (lifted_in_order 1 first ms o);
    }
