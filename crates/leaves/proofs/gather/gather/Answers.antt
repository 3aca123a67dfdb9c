use Rattle.std.proofs.Common.{◌+◌, ◌≤◌, List, ◌++◌, length, get_or, ℤ, pos, sym, ap, ◌∙◌, arith, w32, SFits, rules}
use Rattle.std.proofs.lemmas.List.{take_all}
use Rattle.std.proofs.lemmas.Int.{to_z-of_z}
use Rattle.loss.specs.Table.{Table}
use Rattle.leaves.specs.Taking.{after}
use Rattle.leaves.proofs.ManyReadings.{next_taken, none_refused, all_taken}
use Rattle.leaves.proofs.gather.gather.Goals as goal

pub returns-in_err-push : goal.returns-in_err-push
returns-in_err-push g c =
    let xs = c.args.xs.now in
    let i = c.loop-x.x-index in
    let was = g.L.Leaf.readings c.args.leaf.now in
    let fits : SFits w32 (get_or xs i (pos 0)) = search rules in
    let room : length was + length xs ≤ 512 = omega (arith, ap (λ (t : Table). t.length) (g.met.L.Leaf.tied c.args.leaf.now)) in
    let h = simp to_z-of_z at c.in_err-push.ensures.result in
    absurd (none_refused g.L.Leaf.lo g.L.Leaf.span xs was (sym c.if-not-accepts_all.ensures) room i c.loop-x-test.true (g.L.Leaf.readings c.loop-x.leaf) c.loop-x.invariant c.in_err-push.field-0.0 h)

pub loop-x-preserved : goal.loop-x-preserved
loop-x-preserved g c =
    let xs = c.args.xs.now in
    let i = c.loop-x.x-index in
    let was = g.L.Leaf.readings c.args.leaf.now in
    let fits : SFits w32 (get_or xs i (pos 0)) = search rules in
    let room : length was + length xs ≤ 512 = omega (arith, ap (λ (t : Table). t.length) (g.met.L.Leaf.tied c.args.leaf.now)) in
    let h = simp to_z-of_z at c.push.ensures.holds in
    ◌∙◌ {b = after g.L.Leaf.lo g.L.Leaf.span (g.L.Leaf.readings c.loop-x.leaf) (get_or xs i (pos 0))} h
    (next_taken g.L.Leaf.lo g.L.Leaf.span xs was (sym c.if-not-accepts_all.ensures) room i c.loop-x-test.true (g.L.Leaf.readings c.loop-x.leaf) c.loop-x.invariant)

pub returns : goal.returns
returns g c =
    let xs = c.args.xs.now in
    let was = g.L.Leaf.readings c.args.leaf.now in
    let room : length was + length xs ≤ 512 = omega (arith, ap (λ (t : Table). t.length) (g.met.L.Leaf.tied c.args.leaf.now)) in
    let t = all_taken g.L.Leaf.lo g.L.Leaf.span xs was (sym c.if-not-accepts_all.ensures) room in
    let e = take_all c.loop-x.x-index xs c.loop-x-test.false in
    record { result = t.0; holds = c.loop-x.invariant ∙ ap (λ (zs : List ℤ). was ++ zs) e ∙ t.1 }
