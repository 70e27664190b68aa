use Rattle.cal_unit_index.proofs.DropInLemmas.{last_of_name}
use Rattle.cal_unit_index.proofs.drop_in_laws.last_of_a_name.Goals as goal

pub returns : goal.returns
returns c = last_of_name
