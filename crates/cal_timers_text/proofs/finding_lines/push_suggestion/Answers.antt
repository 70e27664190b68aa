use Rattle.std.proofs.Common.{◌++◌, codes, string_bytes}
use Rattle.std.specs.Char.{encode_utf8}
use Rattle.cal_timers_report.specs.rules.PrintableText.{printable_text}
use Rattle.cal_timers_text.specs.rules.LintText.{suggestion_line}
use Rattle.cal_timers_text.proofs.PushLemmas.{pushed, then_pushed}
use Rattle.cal_timers_text.proofs.finding_lines.push_suggestion.Goals as goal

pub returns : goal.returns
unfolding suggestion_line encode_utf8
returns c =
    let old = string_bytes c.args.out.now in
    let start = string_bytes c.push_str.new.self in
    let middle = string_bytes c.push_printable.new.out in
    let new = string_bytes c.push.new.self in
    let text = printable_text c.args.suggestion.now in
    then_pushed c.push.result new start old (codes "  write instead: ") (text ++ codes "\n") c.in_ok-push_str.ensures.bytes
    (then_pushed c.push.result new middle start text (codes "\n") c.in_ok-push_printable.ensures
    (pushed c.push.result new middle (codes "\n") c.push.ensures.bytes))
