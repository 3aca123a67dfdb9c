use Rattle.std.proofs.Common.{◌≡◌, ◌+◌, ◌<◌, ◌≤◌, length, sym, ap, ◌∙◌, arith}
use Rattle.std.proofs.lemmas.List.{length-append}
use Rattle.std.proofs.lemmas.Result.{err_from_is_err_and}
use Rattle.leaves.specs.Soundness.{squares_few}
use Rattle.frames.specs.declared.size.ReadingSize.TheVariants.{Three}
use Rattle.kinds.specs.Sides.{Sides, brought, together}
use Rattle.kinds.specs.Held.{both_sides}
use Rattle.kinds.proofs.Frames.{ports, refused, all_taken, codes_tell, next_both, room_both, last_both}
use Rattle.kinds.proofs.both_sides.PairReadingsFrameReadings.take.Goals as goal

pub check_room-requires : goal.check_room-requires
check_room-requires c = omega (arith, c.length.ensures, squares_few c.args.self.now.pair.port, c.args.self.now.even)

pub returns-in_err-check_room : goal.returns-in_err-check_room
returns-in_err-check_room c =
    let bytes = c.args.readings.now in
    let old = both_sides c.args.self.now in
    let p = err_from_is_err_and c.from_residual.result c.from_residual.ensures.1 in
    let more : 512 < length old.port + length (brought Three bytes).port = omega (arith, ports bytes, c.length.ensures, c.args.self.now.even, c.in_err-check_room.ensures.0) in
    let t = refused old (brought Three bytes) (sym c.if-not-accepts_codes.ensures) more in
    record { result = rw (p.1, p.2, c.in_err-check_room.ensures.1) t.0; holds = t.1 }

pub add-requires : goal.add-requires
add-requires c =
    let bytes = c.args.readings.now in
    let old = both_sides c.args.self.now in
    let left = c.loop-reading.left.now in
    let rest = c.in-Some.rest.now in
    let n = c.in-Some.ensures in
    let room : length old.port + length (brought Three bytes).port ≤ 512 = omega (arith, ports bytes, c.length.ensures, c.args.self.now.even, c.in_ok-check_room.ensures) in
    ((codes_tell left c.in-Some.reading rest n.0 c.loop-reading.invariant.1).0, room_both (both_sides c.loop-reading.self) old (brought Three bytes) left rest c.in-Some.reading c.loop-reading.invariant.0 n.0 room)

pub loop-reading-preserved : goal.loop-reading-preserved
loop-reading-preserved c =
    let bytes = c.args.readings.now in
    let old = both_sides c.args.self.now in
    let left = c.loop-reading.left.now in
    let rest = c.in-Some.rest.now in
    let n = c.in-Some.ensures in
    let p = c.in-Some.reading in
    let next = next_both (both_sides c.loop-reading.self) old (brought Three bytes) left rest p c.loop-reading.invariant.0 n.0 in
    (ap (λ (s : Sides). together s (brought Three rest)) c.add.ensures.holds ∙ next, (codes_tell left p rest n.0 c.loop-reading.invariant.1).1)

pub returns : goal.returns
returns c =
    let bytes = c.args.readings.now in
    let old = both_sides c.args.self.now in
    let s = both_sides c.loop-reading.self in
    let room : length old.port + length (brought Three bytes).port ≤ 512 = omega (arith, ports bytes, c.length.ensures, c.args.self.now.even, c.in_ok-check_room.ensures) in
    let is : s ≡ together old (brought Three bytes) = sym (last_both s c.loop-reading.left.now c.in_default.ensures) ∙ c.loop-reading.invariant.0 in
    let held : length s.port ≡ length old.port + length (brought Three bytes).port = ap (λ (t : Sides). length t.port) is ∙ length-append old.port (brought Three bytes).port in
    let count : c.length-2.result ≡ length old.port + length (brought Three bytes).port = omega (arith, held, c.length-2.ensures, c.loop-reading.self.even) in
    let t = all_taken old (brought Three bytes) c.length-2.result (sym c.if-not-accepts_codes.ensures) room count in
    record { result = t.0; holds = is ∙ t.1 }
