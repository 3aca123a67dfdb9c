use Rattle.std.proofs.Common.{◌≡◌, ap, ◌∙◌}
use Rattle.loss.specs.Table.{Table, answer}
use Rattle.leaves.specs.Readings.{table_of}
use Rattle.leaves.proofs.Answered.{answer_least, answer_between}
use Rattle.leaves.proofs.theorems.least_over_levels.Goals as goal

pub returns : goal.returns
returns g c =
    let x = c.args.leaf.now in
    let law = g.met.L.Leaf in
    let h : c.stretch.result ≡ answer (table_of g.L.Leaf.price g.L.Leaf.dearest (g.L.Leaf.readings x)) c.args.a c.args.b =
    c.stretch.ensures ∙ ap (λ (t : Table). answer t c.args.a c.args.b) (law.tied x) in
    record {
      asked = c.stretch.ensures;
      least = answer_least g.L.Leaf.price law.rises g.L.Leaf.lo g.L.Leaf.span g.L.Leaf.dearest (g.L.Leaf.readings x) (law.fits x) c.args.a c.args.b c.stretch.result h;
      between = answer_between g.L.Leaf.price law.rises g.L.Leaf.lo g.L.Leaf.span g.L.Leaf.dearest (g.L.Leaf.readings x) (law.fits x) c.args.a c.args.b c.stretch.result h;
    }
