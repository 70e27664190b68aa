use Rattle.cal_bytes.proofs.PutLemmas.{text_respelled}
use Rattle.cal_report.specs.rules.TextReport.TimespanReport.{timespan_report}
use Rattle.cal_report.proofs.text_report.timespan_report.write_timespan.Goals as goal

pub returns : goal.returns
unfolding timespan_report
returns g c = text_respelled c.put_pieces.ensures (cc)
