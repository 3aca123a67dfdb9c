use Rattle.std.proofs.Common.{arith}
use Rattle.division.specs.Stretches.{Permits}
use Rattle.marks.specs.Table.{marks_of}
use Rattle.constraints.proofs.Marked.{all_more, all_marks}
use Rattle.constraints.proofs.Constraints.starts_before.Goals as goal

pub loop-mark-preserved : goal.loop-mark-preserved
loop-mark-preserved c = (
  omega (arith, c.narrow-range.ensures.within, c.loop-mark.invariant.0),
  λ a.
      let narrowed = c.narrow-range.ensures.exact a in
      let before = c.loop-mark.invariant.1 a in
      let more = all_more (Permits c.args.self.now.n a c.args.end) (marks_of c.args.self.now.marks.now) c.as_slice-mark-items.result.now c.loop-mark.mark-index _ c.as_slice-mark-items.ensures c.loop-mark-test.true in (
        λ h. (let o = narrowed.0 h in let w = before.0 o.0 in (w.0, w.1, more.1 (w.2, o.1))),
        λ h. (let s = more.0 h.2 in narrowed.1 (before.1 (h.0, h.1, s.0), s.1)),
      ),
)

pub returns-then-range-clause-exact : goal.returns-then-range-clause-exact
returns-then-range-clause-exact c =
    let s = c.args.self.now in
    λ a.
    (let all = all_marks (marks_of s.marks.now) c.as_slice-mark-items.result.now c.loop-mark.mark-index s.shortest s.n a c.args.end c.as_slice-mark-items.ensures c.loop-mark-test.false in
    (λ h. all.0 ((c.loop-mark.invariant.1 a).0 h), λ h. (c.loop-mark.invariant.1 a).1 (all.1 h)))

pub returns-else-range-clause-exact : goal.returns-else-range-clause-exact
returns-else-range-clause-exact c =
    let s = c.args.self.now in
    λ a.
    (let all = all_marks (marks_of s.marks.now) c.as_slice-mark-items.result.now c.loop-mark.mark-index s.shortest s.n a c.args.end c.as_slice-mark-items.ensures c.loop-mark-test.false in
    (λ h. absurd (omega arith), λ h. (let r = (c.loop-mark.invariant.1 a).1 (all.1 h) in absurd (omega (arith, r.0, r.1)))))
