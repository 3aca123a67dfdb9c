use Rattle.std.proofs.Common.{◌≡◌, Ok, Err, codes, rules, arith}
use Rattle.std.proofs.lemmas.List.{get_or_past}
use Rattle.std.proofs.lemmas.Slice.Eq.{text_from_reads}
use Rattle.fault.specs.declared.Fault.TheVariants.{UnknownFrame}
use Rattle.command.specs.Words.{words}
use Rattle.command.specs.Numbers.{natural}
use Rattle.command.specs.Said.{unmark, shortest}
use Rattle.command.specs.Line.{one, by_name}
use Rattle.command.proofs.ByName.{unknown, one_number}
use Rattle.command.proofs.named.command.Goals as goal

pub returns-in_ok-alone-in-help : goal.returns-in_ok-alone-in-help
returns-in_ok-alone-in-help c =
    let e : c.args.name.now ≡ codes "help" = text_from_reads c.args.name.now (codes "help") (omega arith) (search rules) in
    rw e c.in_ok-alone-in-help.ensures

pub returns-in_ok-loss_kind-in-loss : goal.returns-in_ok-loss_kind-in-loss
returns-in_ok-loss_kind-in-loss c =
    let e : c.args.name.now ≡ codes "loss" = text_from_reads c.args.name.now (codes "loss") (omega arith) (search rules) in
    rw (e, c.in_ok-one-in-loss.ensures) c.in_ok-loss_kind-in-loss.ensures

pub returns-in-readings : goal.returns-in-readings
returns-in-readings c =
    let e : c.args.name.now ≡ codes "readings" = text_from_reads c.args.name.now (codes "readings") (omega arith) (search rules) in
    rw e c.readings.ensures

pub returns-in_ok-mark-in-mark : goal.returns-in_ok-mark-in-mark
returns-in_ok-mark-in-mark c =
    let e : c.args.name.now ≡ codes "mark" = text_from_reads c.args.name.now (codes "mark") (omega arith) (search rules) in
    rw e c.in_ok-mark-in-mark.ensures

pub returns-in_ok-only-in-unmark : goal.returns-in_ok-only-in-unmark
returns-in_ok-only-in-unmark c =
    let e : c.args.name.now ≡ codes "unmark" = text_from_reads c.args.name.now (codes "unmark") (omega arith) (search rules) in
    rw e (one_number (one (words c.args.text.now)) (natural 16) unmark (Ok c.in_ok-only-in-unmark.field-0) c.in_ok-only-in-unmark.ensures)

pub returns-in_err-only-in-unmark : goal.returns-in_err-only-in-unmark
returns-in_err-only-in-unmark c =
    let e : c.args.name.now ≡ codes "unmark" = text_from_reads c.args.name.now (codes "unmark") (omega arith) (search rules) in
    let d : by_name c.args.name.now (words c.args.text.now) ≡ Err c.in_err-only-in-unmark.field-0.0 =
    rw e (one_number (one (words c.args.text.now)) (natural 16) unmark (Err c.in_err-only-in-unmark.field-0.0) c.in_err-only-in-unmark.ensures) in search rules

pub returns-in_ok-only-in-shortest : goal.returns-in_ok-only-in-shortest
returns-in_ok-only-in-shortest c =
    let e : c.args.name.now ≡ codes "shortest" = text_from_reads c.args.name.now (codes "shortest") (omega arith) (search rules) in
    rw e (one_number (one (words c.args.text.now)) (natural 16) shortest (Ok c.in_ok-only-in-shortest.field-0) c.in_ok-only-in-shortest.ensures)

pub returns-in_err-only-in-shortest : goal.returns-in_err-only-in-shortest
returns-in_err-only-in-shortest c =
    let e : c.args.name.now ≡ codes "shortest" = text_from_reads c.args.name.now (codes "shortest") (omega arith) (search rules) in
    let d : by_name c.args.name.now (words c.args.text.now) ≡ Err c.in_err-only-in-shortest.field-0.0 =
    rw e (one_number (one (words c.args.text.now)) (natural 16) shortest (Err c.in_err-only-in-shortest.field-0.0) c.in_err-only-in-shortest.ensures) in search rules

pub returns-in-price : goal.returns-in-price
returns-in-price c =
    let e : c.args.name.now ≡ codes "price" = text_from_reads c.args.name.now (codes "price") (omega arith) (search rules) in
    rw e c.price.ensures

pub returns-in_ok-best-in-best : goal.returns-in_ok-best-in-best
returns-in_ok-best-in-best c =
    let e : c.args.name.now ≡ codes "best" = text_from_reads c.args.name.now (codes "best") (omega arith) (search rules) in
    rw e c.in_ok-best-in-best.ensures

pub returns-in_ok-alone-in-path : goal.returns-in_ok-alone-in-path
returns-in_ok-alone-in-path c =
    let e : c.args.name.now ≡ codes "path" = text_from_reads c.args.name.now (codes "path") (omega arith) (search rules) in
    rw e c.in_ok-alone-in-path.ensures

pub returns-in_default : goal.returns-in_default
returns-in_default c =
    let e : by_name c.args.name.now (words c.args.text.now) ≡ Err UnknownFrame = unknown c.args.name.now (words c.args.text.now) (record {
      comment = λ e. grind (arith, e, get_or_past c.args.name.now 0 0);
      help = λ e. grind (arith, e);
      loss = λ e. grind (arith, e);
      readings = λ e. grind (arith, e);
      mark = λ e. grind (arith, e);
      unmark = λ e. grind (arith, e);
      shortest = λ e. grind (arith, e);
      price = λ e. grind (arith, e);
      best = λ e. grind (arith, e);
      path = λ e. grind (arith, e);
    }) in search rules
