use Rattle.cal_bytes.proofs.TrimLemmas.{trim_is, trim_only}
use Rattle.cal_timer.specs.rules.Lines.{is_blank_or_return}
use Rattle.cal_timer.proofs.line_laws.one_trimmed_text.Goals as goal

pub returns : goal.returns
returns c = record { this = trim_is is_blank_or_return; only = trim_only is_blank_or_return }
