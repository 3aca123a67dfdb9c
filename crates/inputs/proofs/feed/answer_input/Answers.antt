use Rattle.std.proofs.Common.{◌≡◌, ℕ, List, [], vec_items, fold, refl, ap, ◌∙◌}
use Rattle.inputs.specs.Reading.{Read, front_of, begun, next, closed}
use Rattle.inputs.proofs.Lined.{whole_input}
use Rattle.inputs.proofs.feed.answer_input.Goals as goal

begins : {S : Type 0} (line : List ℕ) (lines : ℕ) (s : S) (out : List ℕ) → line ≡ [] → lines ≡ 0 → ◌≡◌ {A = Read S} (record { line = line; lines = lines; state = s; text = out }) (begun s out)
begins line lines s out e f = rw (e, f) refl

pub returns : goal.returns
returns g c =
    let step = g.A.Answerer.step in
    let reply = g.A.Answerer.reply in
    let s = g.A.Answerer.state c.args.answerer.now in
    let out = vec_items c.args.out.now in
    let bytes = c.args.input.now in
    let new = c.new-reader.result in
    let first = begins (front_of new) new.lines s out c.new-reader.ensures.0 c.new-reader.ensures.1 in
    let fed = c.in_ok-feed.ensures ∙ ap (λ r. fold (next step reply) r bytes) first in
    let all = c.in_ok-finish.ensures ∙ ap (closed step reply) fed in
    let w = whole_input step reply g.met.A.Answerer.stepped g.met.A.Answerer.replied s out bytes in
    record { after = ap (λ r. r.state) all ∙ w.after; printed = ap (λ r. r.text) all ∙ w.printed }
