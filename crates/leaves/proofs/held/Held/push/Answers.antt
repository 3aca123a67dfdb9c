use Rattle.std.proofs.Common.{◌≤◌, arith, w32, to_z, of_z}
use Rattle.std.proofs.lemmas.List.Elements.{All-push}
use Rattle.leaves.proofs.Admission.{fitting}
use Rattle.leaves.proofs.held.Held.push.Goals as goal

pub invariant_of-self : goal.invariant_of-self
invariant_of-self g c =
    let x = c.args.self.now in
    let t = fitting (to_z w32 (of_z w32 c.args.lo)) g.row.SPAN c.len.result (to_z w32 (of_z w32 c.args.x)) c.in_ok-u.u c.in_ok-u.ensures in
    record {
      few = omega (arith, t.0, c.push.ensures.len, c.len.ensures.value);
      low = rw c.push.ensures.items (All-push (λ u. u ≤ g.row.SPAN) x.distances.items c.in_ok-u.u x.low t.1);
    }
