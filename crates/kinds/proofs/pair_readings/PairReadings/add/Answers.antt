use Rattle.std.proofs.Common.{◌≡◌, [], ◌∷◌, length, pos, ap, ◌∙◌, arith, w16, w32, SFits, to_z, of_z, rules}
use Rattle.std.proofs.lemmas.List.{length-append}
use Rattle.std.proofs.lemmas.Int.{to_z-of_z}
use Rattle.leaves.specs.Readings.{lowest}
use Rattle.leaves.specs.Taking.{after as after_one}
use Rattle.leaves.specs.Held.{squares_readings}
use Rattle.leaves.specs.Held.{votes_readings}
use Rattle.kinds.proofs.Frames.{one_taken, code_taken}
use Rattle.kinds.proofs.pair_readings.PairReadings.add.Goals as goal

pub invariant_of-self-2 : goal.invariant_of-self-2
invariant_of-self-2 c =
    let s = c.args.self.now in
    let p = c.args.reading in
    let xs = squares_readings s.pair.port in
    let ks = votes_readings s.pair.starboard.below in
    let fits : SFits w16 p.port = search rules in
    let wide : SFits w32 c.from.result = search rules in
    let wide2 : SFits w32 c.from-2.result = search rules in
    let same : to_z w32 (of_z w32 c.from.result) ≡ p.port = to_z-of_z w32 c.from.result wide ∙ c.from.ensures ∙ to_z-of_z w16 p.port fits in
    let h = c.push.ensures.holds ∙ ap (after_one lowest 65535 xs) same in
    let as_code : to_z w32 (of_z w32 c.from-2.result) ≡ pos p.code = to_z-of_z w32 c.from-2.result wide2 ∙ c.from-2.ensures in
    let k = c.push-2.ensures.holds ∙ ap (after_one (pos 0) 15 ks) as_code in
    let n = ap length (h ∙ (one_taken xs p.port fits c.requires.1).1) ∙ length-append xs (p.port ∷ []) in
    let m = ap length (k ∙ (code_taken ks p.code c.requires.0 (omega (arith, c.requires.1, s.even))).1) ∙ length-append ks (pos p.code ∷ []) in
    record { weight = s.weight; even = omega (arith, n, m, s.even) }
