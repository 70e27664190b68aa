use Rattle.std.proofs.Common.{◌≡◌, ◌++◌, codes, string_bytes}
use Rattle.std.specs.Char.{encode_utf8}
use Rattle.cal_timers_text.specs.rules.Messages.{section_name}
use Rattle.cal_timers_text.proofs.PushLemmas.{pushed, then_pushed}
use Rattle.cal_timers_text.proofs.messages.push_unknown_key.Goals as goal

pub returns : goal.returns
unfolding encode_utf8
returns c =
    let old = string_bytes c.args.out.now in
    let start = string_bytes c.push_str.new.self in
    let middle = string_bytes c.push_str-2.new.self in
    let new = string_bytes c.push.new.self in
    let name : middle ≡ start ++ section_name c.args.section = rw c.section_name.ensures at c.in_ok-push_str-2.ensures.bytes in
    then_pushed c.push.result new start old (codes "unknown key in section [") (section_name c.args.section ++ codes "]") c.in_ok-push_str.ensures.bytes
    (then_pushed c.push.result new middle start (section_name c.args.section) (codes "]") name
    (pushed c.push.result new middle (codes "]") c.push.ensures.bytes))
