use Rattle.std.proofs.Common.{◌≡◌, ◌++◌, codes, string_bytes}
use Rattle.std.specs.Prelude.{OnOk}
use Rattle.cal_timers_text.specs.rules.Messages.{finding_message, rejection_words, value_words}
use Rattle.cal_timers_text.proofs.PushLemmas.{pushed, then_pushed}
use Rattle.cal_timers_text.proofs.messages.push_message.Goals as goal

pub returns-in-BadHeader : goal.returns-in-BadHeader
unfolding finding_message
returns-in-BadHeader c =
    rw c.in-BadHeader.is (pushed c.push_str-in-BadHeader.result (string_bytes c.push_str-in-BadHeader.new.self) (string_bytes c.args.out.now) _ c.push_str-in-BadHeader.ensures.bytes)

pub returns-in-UnknownSection : goal.returns-in-UnknownSection
unfolding finding_message
returns-in-UnknownSection c =
    rw c.in-UnknownSection.is (pushed c.push_str-in-UnknownSection.result (string_bytes c.push_str-in-UnknownSection.new.self) (string_bytes c.args.out.now) _ c.push_str-in-UnknownSection.ensures.bytes)

pub returns-in-OutsideSection : goal.returns-in-OutsideSection
unfolding finding_message
returns-in-OutsideSection c =
    rw c.in-OutsideSection.is (pushed c.push_str-in-OutsideSection.result (string_bytes c.push_str-in-OutsideSection.new.self) (string_bytes c.args.out.now) _ c.push_str-in-OutsideSection.ensures.bytes)

pub returns-in-NoEquals : goal.returns-in-NoEquals
unfolding finding_message
returns-in-NoEquals c =
    rw c.in-NoEquals.is (pushed c.push_str-in-NoEquals.result (string_bytes c.push_str-in-NoEquals.new.self) (string_bytes c.args.out.now) _ c.push_str-in-NoEquals.ensures.bytes)

pub returns-in-NoKey : goal.returns-in-NoKey
unfolding finding_message
returns-in-NoKey c =
    rw c.in-NoKey.is (pushed c.push_str-in-NoKey.result (string_bytes c.push_str-in-NoKey.new.self) (string_bytes c.args.out.now) _ c.push_str-in-NoKey.ensures.bytes)

pub returns-in-BadUnitName : goal.returns-in-BadUnitName
unfolding finding_message
returns-in-BadUnitName c =
    rw c.in-BadUnitName.is (pushed c.push_str-in-BadUnitName.result (string_bytes c.push_str-in-BadUnitName.new.self) (string_bytes c.args.out.now) _ c.push_str-in-BadUnitName.ensures.bytes)

pub returns-in_ok-push_str-in-Rejected : goal.returns-in_ok-push_str-in-Rejected
unfolding finding_message
returns-in_ok-push_str-in-Rejected c =
    let old = string_bytes c.args.out.now in
    let middle = string_bytes c.push_str.new.self in
    let new = string_bytes c.push_str-in-Rejected.new.self in
    let words = rejection_words c.in-Rejected.rejection in
    let last : OnOk c.push_str-in-Rejected.result (new ≡ middle ++ words) =
    rw c.rejection_words.ensures at (pushed c.push_str-in-Rejected.result new middle c.rejection_words.result.now c.push_str-in-Rejected.ensures.bytes) in
    rw c.in-Rejected.is
    (then_pushed c.push_str-in-Rejected.result new middle old (codes "systemd 252 doesn't accept ") words c.in_ok-push_str-in-Rejected.ensures.bytes last)

pub returns-in_ok-push_str-in-IgnoredValue : goal.returns-in_ok-push_str-in-IgnoredValue
unfolding finding_message
returns-in_ok-push_str-in-IgnoredValue c =
    let old = string_bytes c.args.out.now in
    let middle = string_bytes c.push_str-in-IgnoredValue.new.self in
    let new = string_bytes c.push_str-in-IgnoredValue-2.new.self in
    let words : middle ≡ old ++ value_words c.in-IgnoredValue.kind = rw c.value_words.ensures at c.in_ok-push_str-in-IgnoredValue.ensures.bytes in
    let end = codes ", so systemd ignores the line" in
    rw c.in-IgnoredValue.is
    (then_pushed c.push_str-in-IgnoredValue-2.result new middle old (value_words c.in-IgnoredValue.kind) end words
    (pushed c.push_str-in-IgnoredValue-2.result new middle end c.push_str-in-IgnoredValue-2.ensures.bytes))
