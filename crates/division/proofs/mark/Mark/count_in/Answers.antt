use Rattle.std.proofs.Common.{◌≡◌, ℕ, suc, ◌+◌, Bool, true, false, cond, ◌∙◌, rules, sym, refl, arith}
use Rattle.std.proofs.lemmas.List.Recursion.{is_count_by}
use Rattle.std.specs.List.{count_by}
use Rattle.division.specs.Marks.{covers, boundaries_in}
use Rattle.division.proofs.mark.Mark.count_in.Goals as goal

one_more : (b : Bool) (n : ℕ) → cond b (suc n) n ≡ cond b (1 + n) n
one_more true n = omega arith
one_more false n = refl

pub returns : goal.returns
returns c =
    let k = c.args.self in
    let h : c.count.result ≡ count_by (covers k) c.args.gaps.now = search rules in
    h ∙ sym (is_count_by (boundaries_in k) (covers k) refl (λ d ds. one_more (covers k d) (boundaries_in k ds)) c.args.gaps.now)
