use Rattle.cal_zone.proofs.PlaceLemmas.{place_of-Some}
use Rattle.cal_zone.proofs.laws.places_show_their_local_time.Goals as goal

pub returns : goal.returns
returns c = λ tz local place e. (place_of-Some tz local place e).1
