use Rattle.std.proofs.Common.{length, ap, arith}
use Rattle.envelope.proofs.Written.{begun, again, ended, kept_long}
use Rattle.envelope.proofs.write_steps.Goals as goal

pub loop-next-init : goal.loop-next-init
loop-next-init c =
    begun c.args.losses.now c.clear.new.self c.add.new.list c.args.first c.requires.first
    (omega (arith, c.requires.room, ap length c.clear.ensures.places)) c.clear.ensures.entries c.add.ensures

pub loop-next-preserved : goal.loop-next-preserved
loop-next-preserved c =
    again c.args.losses.now c.add.new.list c.loop-next.list c.add-in-Some.new.list c.loop-next.at c.in-Some.next
    c.loop-next.invariant c.in-Some.ensures c.add-in-Some.ensures

pub returns : goal.returns
returns c = record {
  holding =
      ended c.args.losses.now c.args.list.now c.clear.new.self c.add.new.list c.loop-next.list c.loop-next.at c.args.first
      c.clear.ensures.places c.clear.ensures.lender c.clear.ensures.entries c.add.ensures c.loop-next.invariant c.in_default.ensures;
  room =
      kept_long c.args.losses.now c.args.list.now c.clear.new.self c.add.new.list c.loop-next.list c.loop-next.at c.args.first
      c.clear.ensures.places c.add.ensures c.loop-next.invariant;
}
