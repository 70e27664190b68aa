use Rattle.std.proofs.Common.{codes}
use Rattle.cal_bytes.proofs.ShortText.{pushed_first, pushed_more}
use Rattle.cal_zone.specs.rules.InstantText.{instant_text}
use Rattle.cal_report.specs.rules.ElapseLines.{elapse_text, label_text}
use Rattle.cal_zone.specs.rules.Instant.{micros_of}
use Rattle.cal_report.specs.rules.ReportLines.{distance_text, utc_line}
use Rattle.cal_report.proofs.elapse_lines.push_elapse.Goals as goal

pub returns-clause-text : goal.returns-clause-text
unfolding elapse_text
returns-clause-text c =
    let front = c.args.text.now.items in
    let label = pushed_first front _ (label_text c.args.number) c.push_label.ensures.text in
    let instant = pushed_more front _ _ (instant_text c.args.formatter.now c.args.elapse.secs) _ label c.push_local.ensures.text in
    let ended = pushed_more front _ _ (codes "\n") _ instant c.push.ensures in
    let utc = pushed_more front _ _ (utc_line c.args.formatter.now c.args.elapse.secs) _ ended (rw c.push_local.ensures.local at c.push_utc_line.ensures.text) in
    let labelled = pushed_more front _ _ (codes "       From now: ") _ utc c.push-2.ensures in
    let distance = pushed_more front _ _ (distance_text (micros_of c.args.now.secs) (micros_of c.args.elapse.secs)) _ labelled (rw c.first_of.ensures at c.push_distance.ensures.text) in
    (pushed_more front _ _ (codes "\n") _ distance c.push-3.ensures).is
