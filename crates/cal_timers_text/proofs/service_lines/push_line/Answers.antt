use Rattle.std.proofs.Common.{◌++◌, codes, string_bytes}
use Rattle.std.specs.Char.{encode_utf8}
use Rattle.cal_timers_text.proofs.PushLemmas.{pushed, then_pushed}
use Rattle.cal_timers_text.proofs.service_lines.push_line.Goals as goal

pub returns : goal.returns
unfolding encode_utf8
returns c =
    let old = string_bytes c.args.out.now in
    let start = string_bytes c.push_str.new.self in
    let middle = string_bytes c.push_str-2.new.self in
    let new = string_bytes c.push.new.self in
    let text = c.args.line.now in
    then_pushed c.push.result new start old (codes "  add to the service: ") (text ++ codes "\n") c.in_ok-push_str.ensures.bytes
    (then_pushed c.push.result new middle start text (codes "\n") c.in_ok-push_str-2.ensures.bytes
    (pushed c.push.result new middle (codes "\n") c.push.ensures.bytes))
