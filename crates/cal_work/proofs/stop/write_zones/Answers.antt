use Rattle.cal_bytes.proofs.PutLemmas.{text_respelled}
use Rattle.cal_work.specs.rules.Stop.{zones_line}
use Rattle.cal_work.proofs.stop.write_zones.Goals as goal

pub returns : goal.returns
unfolding zones_line
returns g c = text_respelled c.put_pieces.ensures (cc)
