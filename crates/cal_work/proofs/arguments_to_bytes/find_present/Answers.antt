use Rattle.std.proofs.Common.{None, refl}
use Rattle.cal_work.specs.rules.Outcome.{present_by}
use Rattle.cal_work.proofs.arguments_to_bytes.find_present.Goals as goal

pub returns-in-Some : goal.returns-in-Some
unfolding present_by
returns-in-Some g c = rw c.in-Some.is (record { clock = None; asked = tt; answers = refl })

pub returns-in-None : goal.returns-in-None
unfolding present_by
returns-in-None g c =
    let read = c.read_clock.ensures in
    rw c.in-None.is (record { clock = read.clock; asked = read.is_time; answers = read.answers })
