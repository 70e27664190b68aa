use Rattle.std.proofs.Common.{◌≡◌, ◌∙◌, true, arith}
use Rattle.std.specs.Str.{is_utf8}
use Rattle.std.proofs.lemmas.Str.{is_utf8-from_IsUtf8}
use Rattle.cal_spec.specs.computed.Expr.{expr_in}
use Rattle.cal_timer.specs.rules.TimerEntries.{broken_line, timer_in}
use Rattle.cal_timer.proofs.TimerLemmas.{broken_bytes}
use Rattle.cal_timer.proofs.file.read_bytes.Goals as goal

pub returns-in-Ok : goal.returns-in-Ok
unfolding timer_in
returns-in-Ok c =
    let text = rw c.in-Ok.is at c.from_utf8.ensures.cases in
    let is_text : is_utf8 c.args.bytes.now ≡ true = is_utf8-from_IsUtf8 c.args.bytes.now text.1 in
    rw is_text (rw text.0 at c.read_utf8.ensures)

pub returns-in-Err : goal.returns-in-Err
unfolding broken_line
returns-in-Err c = λ _.
    let no_text = rw c.in-Err.is at c.from_utf8.ensures.cases in
    let valid = rw c.in-Err.is at c.from_utf8.ensures.valid_len in
    broken_bytes expr_in c.args.bytes.now c.line_after.result no_text.0
    (c.line_after.ensures ∙ rw (c.valid_up_to.ensures, valid) (grind arith))
