use Rattle.labeled.proofs.Solved.{solved_by}
use Rattle.labeled.proofs.problem_is_solved.Goals as goal

pub returns : goal.returns
returns g c =
    let x = c.args.leaf.now in
    rw (g.met.L.Leaf.tied x) (solved_by g.L.Leaf.price g.met.L.Leaf.rises g.L.Leaf.lo g.L.Leaf.span g.L.Leaf.dearest (g.L.Leaf.readings x) (g.met.L.Leaf.fits x))
