use Rattle.std.proofs.Common.{◌≡◌, ◌+◌, ◌-◌, ◌*◌, ◌^◌, min, drop, ap, ◌∙◌, arith}
use Rattle.command.specs.Numbers.{decimal_after}
use Rattle.command.proofs.Counted.{capped, digit_more}
use Rattle.command.proofs.number.natural.Goals as goal

pub loop-b-preserved : goal.loop-b-preserved
loop-b-preserved c =
    let d = c.in_ok-digit.field-0 in
    let after = drop (c.loop-b.b-index + 1) c.args.word.now in
    let n-is : min (min (c.loop-b.n * 10) (2 ^ 64 - 1) + d) (2 ^ 64 - 1) ≡ c.saturating_add-n.result = omega arith in (
      c.loop-b.invariant.0
          ∙ digit_more (2 ^ 64 - 1) c.args.word.now c.loop-b.b-index c.loop-b.n d c.loop-b-test.true c.in_ok-digit.ensures
          ∙ ap (λ n. capped (2 ^ 64 - 1) (decimal_after n after)) n-is,
      omega arith,
    )
