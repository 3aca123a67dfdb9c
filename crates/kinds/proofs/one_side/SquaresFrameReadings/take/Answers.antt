use Rattle.std.proofs.Common.{◌≡◌, ◌+◌, ◌<◌, ◌≤◌, List, [], ◌++◌, length, ℤ, sym, refl, ap, ◌∙◌, append-nil, arith, w16, w32, SFits, to_z, of_z, rules}
use Rattle.std.proofs.lemmas.List.{length-append}
use Rattle.std.proofs.lemmas.Int.{to_z-of_z}
use Rattle.std.proofs.lemmas.Result.{err_from_is_err_and}
use Rattle.leaves.specs.Soundness.{squares_few}
use Rattle.leaves.specs.Readings.{lowest}
use Rattle.leaves.specs.Taking.{taken as taken-one, after as after_one}
use Rattle.leaves.specs.Held.{squares_readings}
use Rattle.frames.specs.declared.size.ReadingSize.TheVariants.{Two}
use Rattle.frames.specs.Readings.{readings_in}
use Rattle.kinds.specs.Sides.{brought}
use Rattle.kinds.specs.Held.{port_alone}
use Rattle.kinds.proofs.Frames.{halves, refused, all_taken, none_refused, room_left, next_port}
use Rattle.kinds.proofs.one_side.SquaresFrameReadings.take.Goals as goal

pub check_room-requires : goal.check_room-requires
check_room-requires c = omega (arith, c.length.ensures, squares_few c.args.self.now)

pub returns-in_err-check_room : goal.returns-in_err-check_room
returns-in_err-check_room c =
    let bytes = c.args.readings.now in
    let old = port_alone c.args.self.now in
    let p = err_from_is_err_and c.from_residual.result c.from_residual.ensures.1 in
    let more : 512 < length old.port + length (readings_in bytes) = omega (arith, halves bytes, c.length.ensures, c.in_err-check_room.ensures.0) in
    let t = refused old (brought Two bytes) refl more in
    record { result = rw (p.1, p.2, c.in_err-check_room.ensures.1) t.0; holds = t.1 }

pub returns-in_err-push : goal.returns-in_err-push
returns-in_err-push c =
    let bytes = c.args.readings.now in
    let was = squares_readings c.args.self.now in
    let xs = squares_readings c.loop-reading.self in
    let x = c.in-Some.reading in
    let ys = readings_in c.in-Some.rest.now in
    let fits : SFits w16 x = search rules in
    let wide : SFits w32 c.from.result = search rules in
    let same : to_z w32 (of_z w32 c.from.result) ≡ x = to_z-of_z w32 c.from.result wide ∙ c.from.ensures ∙ to_z-of_z w16 x fits in
    let h = c.in_err-push.ensures.result ∙ ap (taken-one lowest 65535 xs) same in
    let room : length was + length (readings_in bytes) ≤ 512 = omega (arith, halves bytes, c.length.ensures, c.in_ok-check_room.ensures) in
    let one = ap (λ (zs : List ℤ). xs ++ zs) (sym c.in-Some.ensures.0) ∙ c.loop-reading.invariant in
    absurd (none_refused xs x c.in_err-push.field-0.0 fits (room_left xs ys was (readings_in bytes) x one room) h)

pub loop-reading-preserved : goal.loop-reading-preserved
loop-reading-preserved c =
    let bytes = c.args.readings.now in
    let was = squares_readings c.args.self.now in
    let xs = squares_readings c.loop-reading.self in
    let x = c.in-Some.reading in
    let fits : SFits w16 x = search rules in
    let wide : SFits w32 c.from.result = search rules in
    let same : to_z w32 (of_z w32 c.from.result) ≡ x = to_z-of_z w32 c.from.result wide ∙ c.from.ensures ∙ to_z-of_z w16 x fits in
    let h = c.push.ensures.holds ∙ ap (after_one lowest 65535 xs) same in
    let room : length was + length (readings_in bytes) ≤ 512 = omega (arith, halves bytes, c.length.ensures, c.in_ok-check_room.ensures) in
    next_port xs (readings_in c.loop-reading.left.now) (readings_in c.in-Some.rest.now) was (readings_in bytes) (squares_readings c.push.new.self) x fits c.loop-reading.invariant c.in-Some.ensures.0 room h

pub returns : goal.returns
returns c =
    let bytes = c.args.readings.now in
    let old = port_alone c.args.self.now in
    let xs = squares_readings c.loop-reading.self in
    let room : length old.port + length (readings_in bytes) ≤ 512 = omega (arith, halves bytes, c.length.ensures, c.in_ok-check_room.ensures) in
    let is : xs ≡ old.port ++ readings_in bytes = sym (append-nil xs) ∙ ap (λ (zs : List ℤ). xs ++ zs) (sym c.in_default.ensures) ∙ c.loop-reading.invariant in
    let count : c.length-2.result ≡ length old.port + length (readings_in bytes) = c.length-2.ensures ∙ ap length is ∙ length-append old.port (readings_in bytes) in
    let t = all_taken old (brought Two bytes) c.length-2.result refl room count in
    record { result = t.0; holds = ap (λ (zs : List ℤ). record { port = zs; starboard = [] }) is ∙ t.1 }
