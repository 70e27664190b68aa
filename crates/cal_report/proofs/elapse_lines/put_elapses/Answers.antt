use Rattle.std.proofs.Common.{◌-◌, arith, refl, sym}
use Rattle.cal_bytes.proofs.PutLemmas.{first_fails, second_ends, text_respelled}
use Rattle.cal_report.proofs.ElapseTexts.{shown_first, shown_none}
use Rattle.cal_report.proofs.elapse_lines.put_elapses.Goals as goal

pub returns-in_err-put_elapse-in-Some : goal.returns-in_err-put_elapse-in-Some
returns-in_err-put_elapse-in-Some g c =
    let given = rw c.in-Some.is at c.next.ensures.given in
    let split = shown_first c.args.local c.args.now.secs c.args.iterations (c.args.iterations - 1) _ _ (omega arith) given in
    let first = rw c.new-formatter.ensures at c.in_err-put_elapse-in-Some.ensures.text in
    text_respelled (first_fails _ _ _ _ _ _ first refl c.from_residual.ensures.0) (sym split)

pub returns-in-None : goal.returns-in-None
returns-in-None g c =
    let given = rw c.in-None.is at c.next.ensures.given in
    rw (shown_none c.args.local c.args.now.secs c.args.iterations _ given) c.put_all.ensures

pub returns-in_ok-put_elapse-in-Some : goal.returns-in_ok-put_elapse-in-Some
returns-in_ok-put_elapse-in-Some g c =
    let given = rw c.in-Some.is at c.next.ensures.given in
    let split = shown_first c.args.local c.args.now.secs c.args.iterations (c.args.iterations - 1) _ _ (omega arith) given in
    let first = rw c.new-formatter.ensures at c.in_ok-put_elapse-in-Some.ensures.text in
    let later = rw (c.in_ok-put_elapse-in-Some.ensures.local, c.new-formatter.ensures, c.next.ensures.left) at c.put_more.ensures in
    text_respelled (second_ends _ _ _ _ _ _ _ first refl later) (sym split)
