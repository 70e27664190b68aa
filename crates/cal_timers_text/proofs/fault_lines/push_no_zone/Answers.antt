use Rattle.std.proofs.Common.{◌++◌, codes, string_bytes}
use Rattle.cal_timers_text.specs.rules.Messages.{abbreviation_hint, zone_message, zone_path_text}
use Rattle.cal_timers_text.proofs.PushLemmas.{then_pushed}
use Rattle.cal_timers_text.proofs.fault_lines.push_no_zone.Goals as goal

pub returns : goal.returns
unfolding zone_message
returns c =
    let old = string_bytes c.args.out.now in
    let start = string_bytes c.push_str.new.self in
    let middle = string_bytes c.push_zone_path.new.out in
    let new = string_bytes c.push_hint.new.out in
    let path = zone_path_text c.args.zone.now in
    let hint = abbreviation_hint c.args.zone.now in
    then_pushed c.push_hint.result new start old (codes "no zone file ") (path ++ hint) c.in_ok-push_str.ensures.bytes
    (then_pushed c.push_hint.result new middle start path hint c.in_ok-push_zone_path.ensures c.push_hint.ensures)
