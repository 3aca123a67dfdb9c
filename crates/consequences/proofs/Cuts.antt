-- Two cuts for the same hold the same division.
use Rattle.std.proofs.Common.{◌≡◌, ℕ, List, Some, sym, refl, ap, ◌∙◌, subst}
use Rattle.loss.specs.Table.{Table}
use Rattle.division.specs.declared.mark.Mark.{Mark}
use Rattle.division.specs.Winner.{Criterion as Sought, total}
use Rattle.runs.specs.History.{History, stands, shortest}
use Rattle.runs.specs.Best.{View, MarksAfter, HoldsWinner}
use Rattle.runs.proofs.Marked.{one_list}
use Rattle.consequences.specs.Cuts.{SameDivision, SameCutSameDivision, ReopenedAndCutAgain}

-- the marks that stand are one list
pub one_marks : (h h' : History) (ms ms' : List Mark) → ((k : Mark) → stands h k ≡ stands h' k) → MarksAfter h ms → MarksAfter h' ms' → ms ≡ ms'
one_marks h h' ms ms' same a b = one_list ms ms' a.rising b.rising (λ k. ((λ i. (b.exactly k).1 (sym (same k) ∙ (a.exactly k).0 i)), (λ i. (a.exactly k).1 (same k ∙ (b.exactly k).0 i))))

-- the winner is one division
one_winner : (c : Sought) (t : Table) (ms : List Mark) (m : ℕ) (v v' : View) → HoldsWinner c t ms m v.line v.boundaries → HoldsWinner c t ms m v'.line v'.boundaries → SameDivision v v'
one_winner c t ms m v v' a b =
    let e : Some v.boundaries ≡ Some v'.boundaries = sym a.is ∙ b.is in
    let d : v.boundaries ≡ v'.boundaries = cc in
    record { boundaries = d; total = a.told ∙ ap (λ (x : List ℕ). Some (total c t.loss t.length x)) d ∙ sym b.told }

pub same_cut_same_division : SameCutSameDivision
same_cut_same_division t room room' h h' v v' c l l' marks short e e' =
    let ms : l.marks ≡ l'.marks = one_marks h h' l.marks l'.marks marks l.standing l'.standing in
    one_winner c t l'.marks (shortest h') v v'
    (subst (λ (x : List Mark). HoldsWinner c t x (shortest h') v.line v.boundaries) ms (subst (λ (m : ℕ). HoldsWinner c t l.marks m v.line v.boundaries) short (l.holds_winner c e)))
    (l'.holds_winner c e')

pub reopened_and_cut_again : ReopenedAndCutAgain
reopened_and_cut_again t room h c u a b v v' l e l' = same_cut_same_division t room room h _ v v' _ l l' (λ k. refl) refl e refl
