use Rattle.std.proofs.Common.{◌≡◌, ◌∙◌, ◌++◌, ◌-◌, ap, codes, replicate, string_bytes}
use Rattle.std.specs.Char.{encode_utf8}
use Rattle.cal_timers_report.specs.rules.Columns.{blanks}
use Rattle.cal_timers_text.specs.rules.LintText.{bounded_width, caret_line}
use Rattle.cal_timers_text.proofs.LintLemmas.{tildes}
use Rattle.cal_timers_text.proofs.PushLemmas.{pushed, then_pushed}
use Rattle.cal_timers_text.proofs.finding_lines.push_caret.Goals as goal

pub returns : goal.returns
unfolding caret_line encode_utf8
returns c =
    let old = string_bytes c.args.out.now in
    let start = string_bytes c.push_blanks.new.out in
    let caret = string_bytes c.push.new.self in
    let middle = string_bytes c.push_times.new.out in
    let new = string_bytes c.push-2.new.self in
    let before = blanks (bounded_width c.args.before.now) in
    let tail = replicate (bounded_width c.args.word.now - 1) 126 in
    let first : start ≡ old ++ before = c.in_ok-push_blanks.ensures ∙ ap (λ count. old ++ blanks count) c.shown_width.ensures in
    let third : middle ≡ caret ++ tail =
    c.in_ok-push_times.ensures
    ∙ ap (λ text. caret ++ text) (tildes c.saturating_sub.result ∙ ap (λ count. replicate count 126) (c.saturating_sub.ensures ∙ ap (λ width. width - 1) c.shown_width-2.ensures)) in
    then_pushed c.push-2.result new start old before (codes "^" ++ (tail ++ codes "\n")) first
    (then_pushed c.push-2.result new caret start (codes "^") (tail ++ codes "\n") c.in_ok-push.ensures.bytes
    (then_pushed c.push-2.result new middle caret tail (codes "\n") third
    (pushed c.push-2.result new middle (codes "\n") c.push-2.ensures.bytes)))
