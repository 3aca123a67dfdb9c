-- A path outlasts a mark that was laid and unmarked again.
use Rattle.std.proofs.Common.{◌≡◌, ℕ, Bool, true, false, cond, eqb, List, ◌∷◌, Some, None, Ok, sym, refl, ap, ◌∙◌, subst, arith}
use Rattle.std.proofs.lemmas.Bool.Decides.{nat_tests}
use Rattle.division.specs.declared.mark.Mark.{Mark}
use Rattle.division.specs.Theorems.{In}
use Rattle.marks.specs.Theorems.{Standing}
use Rattle.marks.proofs.Stand.{ordered, among_from, no_gap_shared}
use Rattle.path.specs.Cuts.{NamesEveryCut}
use Rattle.runs.specs.declared.model.Answer.{Answer}
use Rattle.runs.specs.declared.model.Call.TheVariants.{Mark as Lay, Unmark}
use Rattle.runs.specs.History.{History, or_before, same_mark, stands, shortest, event}
use Rattle.runs.specs.Best.{MarksAfter}
use Rattle.consequences.specs.Paths.{LaidAndUnmarkedAgain}
use Rattle.consequences.proofs.Cuts.{one_marks}

-- of marks that stand together only one begins at a reading
one_begins : (ms : List Mark) (k m : Mark) → Standing ms → In k ms → In m ms → k.first ≡ m.first → k ≡ m
one_begins ms k m s i j e =
    let a = among_from 1 ms k (ordered ms s) i in
    let b = among_from 1 ms m (ordered ms s) j in
    no_gap_shared ms s k m m.first i j (omega arith, omega arith) (omega arith, omega arith)

-- where no other mark begins, laying and unmarking leaves every mark's word
word_kept : (same begins before : Bool) → (same ≡ true → begins ≡ true) → (begins ≡ true → before ≡ false) → or_before (cond begins (Some false) None) (or_before (cond same (Some true) None) before) ≡ before
word_kept true true before p q = sym (q refl)
word_kept false true before p q = sym (q refl)
word_kept true false before p q = let e : false ≡ true = p refl in let w : ◌≡◌ {A = ℕ} 0 1 = cc in absurd (omega arith)
word_kept false false before p q = refl

false_or_true : (b : Bool) → (b ≡ true → ⊥) → b ≡ false
false_or_true true p = absurd (p refl)
false_or_true false p = refl

module _ (h : History) (m : Mark) (a : Answer) (ms : List Mark) (standing : MarksAfter (event (Lay m) (Ok a) ∷ h) ms) (absent : stands h m ≡ false) where
  stood : (k : Mark) → stands h k ≡ true → stands (event (Lay m) (Ok a) ∷ h) k ≡ true
  stood k e = go (same_mark k m) (stands h k) e
    where
      go : (s b : Bool) → b ≡ true → or_before (cond s (Some true) None) b ≡ true
      go true b e = refl
      go false b e = e

  self : stands (event (Lay m) (Ok a) ∷ h) m ≡ true
  self = ap (λ (s : Bool). or_before (cond s (Some true) None) (stands h m)) (let e : same_mark m m ≡ true = grind (arith, nat_tests) in e)

  -- no mark that stood began where m does
  none_begun : (k : Mark) → eqb k.first m.first ≡ true → stands h k ≡ false
  none_begun k e = false_or_true (stands h k) (λ y. clash (one_begins ms k m standing.rising ((standing.exactly k).1 (stood k y)) ((standing.exactly m).1 self) (let f : k.first ≡ m.first = grind (arith, nat_tests) in f)) y)
    where
      clash : k ≡ m → stands h k ≡ true → ⊥
      clash e y = let z : true ≡ false = sym y ∙ ap (stands h) e ∙ absent in let w : ◌≡◌ {A = ℕ} 0 1 = cc in omega arith

  same_begins : (k : Mark) → same_mark k m ≡ true → eqb k.first m.first ≡ true
  same_begins k e = grind (arith, nat_tests)

  pub as_before : (b : Answer) (k : Mark) → stands (event (Unmark m.first) (Ok b) ∷ event (Lay m) (Ok a) ∷ h) k ≡ stands h k
  as_before b k = word_kept (same_mark k m) (eqb k.first m.first) (stands h k) (same_begins k) (none_begun k)

pub laid_and_unmarked_again : LaidAndUnmarkedAgain
laid_and_unmarked_again t room h m a b w v path absent l l' ms standing =
    let same = as_before h m a l.marks l.standing absent b in
    let e : l'.marks ≡ ms = one_marks _ h l'.marks ms same l'.standing standing in
    subst (λ (x : List Mark). NamesEveryCut t.loss x (shortest h) t.length v.steps) e
    (l'.path_names path.before path.latest (λ k. same k ∙ path.marks k) path.shortest)
