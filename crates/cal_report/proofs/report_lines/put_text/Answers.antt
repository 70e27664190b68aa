use Rattle.std.proofs.Common.{◌≡◌}
use Rattle.cal_report.specs.rules.ReportLines.{text_line}
use Rattle.cal_report.proofs.report_lines.put_text.Goals as goal

pub returns : goal.returns
unfolding text_line
returns g c =
    let same : c.as_bytes.result.now ≡ c.args.text.now = search c.as_bytes.ensures.value in
    rw same at c.put_pieces.ensures
