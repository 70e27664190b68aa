use Rattle.std.proofs.Common.{true, ap}
use Rattle.cal_answers.proofs.RunLemmas.{cut_off}
use Rattle.cal_answers.specs.rules.Run.{err_text}
use Rattle.cal_answers.proofs.arguments_to_bytes.write_answer.Goals as goal

pub returns-in-Err : goal.returns-in-Err
returns-in-Err g c =
    cut_off c.args.is_due _ _ c.put_all.result c.put_pieces.result c.in-Err.field-0 _ _ _ _ _ _ _ _ c.status_unless-in-Err.ensures c.in-Err.is
    c.as_bytes.ensures.value (ap (err_text true) c.as_bytes-in-Err.ensures.value)
    c.put_all.ensures.failed c.put_all.ensures.bytes c.put_pieces.ensures.failed c.put_pieces.ensures.bytes
