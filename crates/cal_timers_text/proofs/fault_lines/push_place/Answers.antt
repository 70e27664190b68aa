use Rattle.cal_timers_text.proofs.PlaceLemmas.{place_is}
use Rattle.cal_timers_text.proofs.fault_lines.push_place.Goals as goal

pub returns : goal.returns
returns c =
    let place = place_is c.args.timer c.args.files.now c.args.number c.position.result c.unwrap_or-line.result c.unwrap_or-line.ensures
    c.position.ensures.position c.push_position.ensures.fits in
    rw place at c.push_position.ensures.text
