use Rattle.cal_bytes.proofs.PutLemmas.{text_respelled}
use Rattle.cal_work.specs.rules.Stop.{unopened_line}
use Rattle.cal_work.proofs.stop.write_unopened.Goals as goal

pub returns : goal.returns
unfolding unopened_line
returns g c = text_respelled c.put_pieces.ensures (cc)
