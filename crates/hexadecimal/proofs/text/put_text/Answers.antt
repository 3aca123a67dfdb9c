use Rattle.std.proofs.Common.{[], ◌∷◌, ◌++◌, vec_items, ap, ◌∙◌, arith}
use Rattle.hexadecimal.proofs.Turns.{put_more}
use Rattle.hexadecimal.proofs.text.put_text.Goals as goal

pub loop-b-preserved : goal.loop-b-preserved
loop-b-preserved c = (
  put_more c.args.bytes.now (vec_items c.reserve.new.self) (vec_items c.loop-b.out) (vec_items c.push_reserved-in-loop-b.new.self) c.loop-b.b-index
      c.digit_for.result c.digit_for-in-loop-b.result c.loop-b-test.true c.loop-b.invariant.0 c.digit_for.ensures c.digit_for-in-loop-b.ensures
      (c.push_reserved-in-loop-b.ensures.items ∙ ap (λ xs. xs ++ c.digit_for-in-loop-b.result ∷ []) c.push_reserved.ensures.items),
  omega arith,
)
