-- The marks that stand, before and after a call that lays or lifts one.
use Rattle.std.proofs.Common.{◌≡◌, ℕ, ◌<◌, ◌≤◌, Bool, true, false, cond, eqb, ◌⊎◌, ◌↔◌, List, [], ◌∷◌, Some, None, Ok, sym, refl, ap, ◌∙◌, subst, ap₂, inl, inr, ⊎_elim, arith}
use Rattle.std.proofs.lemmas.Bool.Decides.{nat_tests}
use Rattle.division.specs.declared.mark.Mark.{Mark}
use Rattle.division.specs.Theorems.{In}
use Rattle.marks.specs.Marks.{laid, lifted, lay_refusal, in_order}
use Rattle.marks.specs.Theorems.{Standing, Layable}
use Rattle.marks.proofs.Laying.{laid_adds_one}
use Rattle.marks.proofs.Lifting.{lifted_takes_one}
use Rattle.marks.proofs.Sharing.{laid_when_layable}
use Rattle.marks.proofs.Stand.{ordered, among_from}
use Rattle.runs.specs.declared.model.Call.TheVariants.{Mark as Lay, Unmark}
use Rattle.runs.specs.declared.model.Answer.{Answer}
use Rattle.runs.specs.History.{History, or_before, same_mark, stands, event}
use Rattle.runs.specs.Best.{MarksAfter}

same_is : (k m : Mark) → same_mark k m ≡ true → k ≡ m
same_is k m h =
    let a : k.first ≡ m.first = grind (arith, nat_tests) in
    let b : k.last ≡ m.last = grind (arith, nat_tests) in
    let c : k.boundaries ≡ m.boundaries = grind (arith, nat_tests) in
    ap (λ x. of x k.last k.boundaries) a ∙ ap (λ x. of m.first x k.boundaries) b ∙ ap (λ x. of m.first m.last x) c
  where
    of : ℕ → ℕ → ℕ → Mark
    of x y z = record { first = x; last = y; boundaries = z }

same_self : (k : Mark) → same_mark k k ≡ true
same_self k = grind (arith, nat_tests)

-- the latest word on a mark
said_yes : (b x : Bool) → or_before (cond b (Some true) None) x ≡ true ↔ ((b ≡ true) ⊎ (x ≡ true))
said_yes true x = ((λ _. inl refl), (λ _. refl))
said_yes false x = ((λ e. inr e), ⊎_elim (λ e. let z : x ≡ true = cc in z) (λ e. e))

said_no : (b x : Bool) → or_before (cond b (Some false) None) x ≡ true ↔ ((x ≡ true) × (b ≡ true → ⊥))
said_no true x = ((λ e. let z : ◌≡◌ {A = Bool} true false = sym e in absurd (let o : ◌≡◌ {A = ℕ} 0 1 = cc in omega arith)), (λ p. absurd (p.1 refl)))
said_no false x = ((λ e. (e, λ q. let o : ◌≡◌ {A = ℕ} 0 1 = cc in omega arith)), (λ p. p.0))

-- a mark that was laid stands beside the others
pub laid_after : (n : ℕ) (k : Mark) (ms : List Mark) (h : History) (a : Answer) → lay_refusal n k ms ≡ None → MarksAfter h ms → MarksAfter (event (Lay k) (Ok a) ∷ h) (laid k ms)
laid_after n k ms h a none m =
    let lay : Layable n k ms = (laid_when_layable n k ms m.rising).0 none in
    let l = laid_adds_one k ms m.rising lay.well_formed lay.apart in
    record {
      rising = l.stands;
      exactly = λ x. (
        (λ i. (said_yes (same_mark x k) (stands h x)).1 (⊎_elim (λ e. inl (subst (λ (y : Mark). same_mark x y ≡ true) e (same_self x))) (λ j. inr ((m.exactly x).0 j)) (l.holds x i))),
        (λ e. l.held x (⊎_elim (λ s. inl (same_is x k s)) (λ y. inr ((m.exactly x).1 y)) ((said_yes (same_mark x k) (stands h x)).0 e))),
      );
    }

begins_there : (x first : ℕ) → eqb x first ≡ true → x ≡ first
begins_there x first e = grind (arith, nat_tests)

there_begins : (x first : ℕ) → x ≡ first → eqb x first ≡ true
there_begins x first e = grind (arith, nat_tests)

-- the mark that began there stands no more
pub lifted_after : (first : ℕ) (ms : List Mark) (h : History) (a : Answer) → MarksAfter h ms → MarksAfter (event (Unmark first) (Ok a) ∷ h) (lifted first ms)
lifted_after first ms h a m =
    let l = lifted_takes_one first ms m.rising in
    record {
      rising = l.stands;
      exactly = λ x. (
        (λ i. let p = l.holds x i in (said_no (eqb x.first first) (stands h x)).1 ((m.exactly x).0 p.0, λ b. p.1 (begins_there x.first first b))),
        (λ e. let p = (said_no (eqb x.first first) (stands h x)).0 e in l.held x ((m.exactly x).1 p.0) (λ b. p.1 (there_begins x.first first b))),
      );
    }

-- marks in rising order are one list
pub one_list : (xs ys : List Mark) → Standing xs → Standing ys → ((k : Mark) → In k xs ↔ In k ys) → xs ≡ ys
one_list [] [] p q same = refl
one_list [] (b ∷ ys) p q same = absurd ((same b).1 (inl refl))
one_list (a ∷ xs) [] p q same = absurd ((same a).0 (inl refl))
one_list (a ∷ xs) (b ∷ ys) p q same = let e : a ≡ b = heads ((same a).0 (inl refl)) ((same b).1 (inl refl)) in ap₂ (λ (x : Mark) (zs : List Mark). x ∷ zs) e (one_list xs ys p.2 q.2 (λ k. (forth e k, back e k)))
  where
    later : (x y : Mark) (zs : List Mark) → Standing (x ∷ zs) → In y zs → x.first < y.first
    later x y zs s i =
        let w : x.first < x.last = s.0.rises in
        let f : x.last ≤ y.first = (among_from x.last zs y (rest_ordered x zs s) i).0 in
        omega arith
      where
        rest_ordered : (x : Mark) (zs : List Mark) → Standing (x ∷ zs) → in_order x.last zs ≡ true
        rest_ordered x zs s = let o : in_order 1 (x ∷ zs) ≡ true = ordered (x ∷ zs) s in grind (arith, nat_tests)

    heads : (a ≡ b) ⊎ In a ys → (b ≡ a) ⊎ In b xs → a ≡ b
    heads (inl e) i = e
    heads (inr j) (inl e) = sym e
    heads (inr j) (inr i) = absurd (let x : a.first < b.first = later a b xs p i in let y : b.first < a.first = later b a ys q j in omega arith)

    forth : a ≡ b → (k : Mark) → In k xs → In k ys
    forth e k i = ⊎_elim (λ f. absurd (let x : a.first < k.first = later a k xs p i in let y : k.first ≡ a.first = ap (λ (z : Mark). z.first) (f ∙ sym e) in omega arith)) (λ j. j) ((same k).0 (inr i))

    back : a ≡ b → (k : Mark) → In k ys → In k xs
    back e k i = ⊎_elim (λ f. absurd (let x : b.first < k.first = later b k ys q i in let y : k.first ≡ b.first = ap (λ (z : Mark). z.first) (f ∙ e) in omega arith)) (λ j. j) ((same k).1 (inr i))
