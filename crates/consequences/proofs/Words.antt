-- The words of a history on small ones; a fresh line keeps the law, and none that is cut does over no calls.
use Rattle.std.proofs.Common.{◌≡◌, ℕ, Bool, true, false, cond, eqb, [], ◌∷◌, Some, None, Ok, Err, Option, Result, refl, ap, ◌∙◌, arith}
use Rattle.std.proofs.lemmas.Bool.Decides.{nat_tests}
use Rattle.fault.specs.declared.Fault.{Fault}
use Rattle.line.specs.Calls.{fresh}
use Rattle.runs.specs.declared.model.Answer.{Answer}
use Rattle.runs.specs.History.{if_accepted, or_before, of_mark, same_mark, stands}
use Rattle.runs.specs.Best.{Accepted}
use Rattle.runs.proofs.Steps.{fresh_kept}
use Rattle.consequences.specs.Words.{LaidMarkStands, UnmarkedStandsNoMore, ReopenedIsNotCut, ShortestLasts, FreshLineIsLawful, FreshLineIsNotCut}

-- a refused call says nothing
says_nothing : {X : Type 0} (r : Result Answer Fault) (o : Option X) (x : X) → (Accepted r → ⊥) → or_before (if_accepted r o) x ≡ x
says_nothing (Ok a) o x refused = absurd (refused tt)
says_nothing (Err f) o x refused = refl

pub laid_mark_stands : LaidMarkStands
laid_mark_stands [] h m a refused = ap (λ (s : Bool). or_before (cond s (Some true) None) (stands h m)) (let e : same_mark m m ≡ true = grind (arith, nat_tests) in e)
laid_mark_stands (e ∷ later) h m a refused = says_nothing e.reply (of_mark m e.call) _ refused.0 ∙ laid_mark_stands later h m a refused.1

pub unmarked_stands_no_more : UnmarkedStandsNoMore
unmarked_stands_no_more h m a = ap (λ (s : Bool). or_before (cond s (Some false) None) (stands h m)) (let e : eqb m.first m.first ≡ true = grind (arith, nat_tests) in e)

pub reopened_is_not_cut : ReopenedIsNotCut
reopened_is_not_cut h c u a b = refl

pub shortest_lasts : ShortestLasts
shortest_lasts h a b f = refl

pub fresh_line_is_lawful : FreshLineIsLawful
fresh_line_is_lawful t room bs ss opened = (fresh_kept t room (fresh t) bs ss opened refl refl).law

pub fresh_line_is_not_cut : FreshLineIsNotCut
fresh_line_is_not_cut t room c bs ss l = let e : true ≡ false = l.cut_when_called in let w : ◌≡◌ {A = ℕ} 0 1 = cc in omega arith
