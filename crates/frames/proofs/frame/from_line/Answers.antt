use Rattle.std.proofs.Common.{◌≤◌, sym, ap, ◌∙◌, arith, rules}
use Rattle.std.proofs.lemmas.Result.{err_from_is_err_and}
use Rattle.hexadecimal.specs.Line.{line_bytes}
use Rattle.frames.specs.Asked.{frame_of}
use Rattle.frames.proofs.Line.{at_front, refused}
use Rattle.frames.proofs.frame.from_line.Goals as goal

pub returns-in_err-n : goal.returns-in_err-n
returns-in_err-n c =
    let p = err_from_is_err_and c.from_residual.result c.from_residual.ensures.1 in
    rw (p.1, p.2) (refused c.args.size (line_bytes c.args.line.now) _ c.in_err-n.ensures.value)

pub shared_ref_as_front-from_bytes : goal.shared_ref_as_front-from_bytes
shared_ref_as_front-from_bytes c =
    let e = c.in_ok-n.ensures in
    let front = at_front (line_bytes c.args.line.now) c.args.buffer.now c.read_line.new.bytes c.in_ok-n.n e.value e.after in
    let h : c.in_ok-n.n ≤ 65 = omega arith in
    search rules

pub returns : goal.returns
returns c =
    let e = c.in_ok-n.ensures in
    let front = at_front (line_bytes c.args.line.now) c.args.buffer.now c.read_line.new.bytes c.in_ok-n.n e.value e.after in
    c.from_bytes.ensures ∙ sym (ap (frame_of c.args.size) front.bytes)
