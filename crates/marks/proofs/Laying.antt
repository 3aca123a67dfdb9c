-- Laying adds the one mark to those that stand.
use Rattle.std.proofs.Common.{◌≡◌, suc, ◌<◌, ◌≤◌, true, false, ltb, ◌⊎◌, List, [], ◌∷◌, ◌++◌, length, sym, refl, ap, ◌∙◌, subst, inl, inr, ⊎_elim, arith}
use Rattle.std.proofs.lemmas.Bool.{cases_lt, lt-ltb, le-ltb}
use Rattle.division.specs.declared.mark.Mark.{Mark}
use Rattle.marks.specs.Marks.{laid}
use Rattle.division.specs.Theorems.{In}
use Rattle.marks.specs.Theorems.{LessOne, LaidAddsOne}
use Rattle.marks.proofs.Order.{laid_in_order}
use Rattle.marks.proofs.Sharing.{unshared}
use Rattle.marks.proofs.Stand.{ordered, stands}

pub among_more : (m : Mark) (front back : List Mark) (x : Mark) → In x (front ++ m ∷ back) → (x ≡ m) ⊎ In x (front ++ back)
among_more m [] back x a = a
among_more m (k ∷ ks) back x a =
    ⊎_elim
    (λ (e : x ≡ k). inr (inl e))
    (λ (b : In x (ks ++ m ∷ back)). ⊎_elim (λ (e : x ≡ m). inl e) (λ (d : In x (ks ++ back)). inr (inr d)) (among_more m ks back x b))
    a

pub among_fewer : (m : Mark) (front back : List Mark) (x : Mark) → (x ≡ m) ⊎ In x (front ++ back) → In x (front ++ m ∷ back)
among_fewer m [] back x a = a
among_fewer m (k ∷ ks) back x a =
    ⊎_elim
    (λ (e : x ≡ m). inr (among_fewer m ks back x (inl e)))
    (λ (b : In x (k ∷ ks ++ back)). ⊎_elim (λ (e : x ≡ k). inl e) (λ (d : In x (ks ++ back)). inr (among_fewer m ks back x (inr d))) b)
    a

pub length_more : (m : Mark) (front back : List Mark) → length (front ++ m ∷ back) ≡ suc (length (front ++ back))
length_more m [] back = refl
length_more m (k ∷ ks) back = ap suc (length_more m ks back)

pub laid_splits : (m : Mark) (ms : List Mark) → LessOne m (laid m ms) ms
laid_splits m [] = record { front = []; back = []; with_it = refl; without_it = refl }
laid_splits m (k ∷ ks) =
    ⊎_elim
    (λ (l : m.first < k.first). let b : ltb m.first k.first ≡ true = lt-ltb _ _ l in
    record { front = []; back = k ∷ ks; with_it = rw b; without_it = refl })
    (λ (l : k.first ≤ m.first). let b : ltb m.first k.first ≡ false = le-ltb _ _ l in
    let r = laid_splits m ks in
    record { front = k ∷ r.front; back = r.back; with_it = rw b (ap (λ t. k ∷ t) r.with_it); without_it = ap (λ t. k ∷ t) r.without_it })
    (cases_lt m.first k.first)

pub laid_adds_one : LaidAddsOne
laid_adds_one m ms s w a =
    let d = laid_splits m ms in
    let o = ordered ms s in
    record {
      holds = λ x b. subst (λ t. (x ≡ m) ⊎ In x t) (sym d.without_it) (among_more m d.front d.back x (subst (λ t. In x t) d.with_it b));
      held = λ x b. subst (λ t. In x t) (sym d.with_it) (among_fewer m d.front d.back x (subst (λ t. (x ≡ m) ⊎ In x t) d.without_it b));
      one_more = ap length d.with_it ∙ length_more m d.front d.back ∙ ap (λ t. suc (length t)) (sym d.without_it);
      others_in_order = d;
      stands = stands 1 (laid m ms) (omega arith) (laid_in_order 1 m ms o w.starts w.rises w.zero_or_one (unshared 1 m ms o w.rises a));
    }
