use Rattle.std.proofs.Common.{codes, unsigned_abs}
use Rattle.cal_bytes.proofs.ShortText.{pushed_first, pushed_more}
use Rattle.cal_zone.specs.rules.InstantText.{instant_text}
use Rattle.cal_zone.specs.rules.Instant.{micros_of}
use Rattle.cal_report.specs.rules.ReportLines.{distance_text, utc_line}
use Rattle.cal_report.specs.rules.TextReport.TimestampReport.{moment_lines, second_at, unix_text}
use Rattle.cal_report.proofs.text_report.timestamp_report.push_moment.Goals as goal

pub returns : goal.returns
unfolding moment_lines
returns c =
    let front = c.args.text.now.items in
    let local = c.args.formatter.now in
    let micros = c.args.moment.micros in
    let instant = pushed_first front _ (instant_text local (second_at micros)) (rw c.instant.ensures at c.push_local.ensures.text) in
    let ended = pushed_more front _ _ (codes "\n") _ instant c.push.ensures in
    let utc = pushed_more front _ _ (utc_line local (second_at micros)) _ ended (rw (c.instant-2.ensures, c.push_local.ensures.local) at c.push_utc_line.ensures.text) in
    let labelled = pushed_more front _ _ (codes "   UNIX seconds: ") _ utc c.push-2.ensures in
    let unix = pushed_more front _ _ (unix_text (unsigned_abs micros)) _ labelled c.push_unix.ensures.text in
    let from_now = pushed_more front _ _ (codes "\n       From now: ") _ unix c.push-3.ensures in
    let distance = pushed_more front _ _ (distance_text (micros_of c.args.now.secs) micros) _ from_now c.push_distance.ensures.text in
    (pushed_more front _ _ (codes "\n") _ distance c.push-4.ensures).is
