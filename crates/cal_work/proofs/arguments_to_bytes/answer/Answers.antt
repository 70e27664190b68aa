use Rattle.cal_zone.specs.rules.Zone.{utc}
use Rattle.cal_zone.specs.rules.ZoneArgument.{shown_zone_argument}
use Rattle.cal_work.specs.rules.Stop.{rule_stop}
use Rattle.cal_work.proofs.WorkLemmas.{clock_stops, local_refused, local_stops, ran_whole, stops_other, zones_stop}
use Rattle.cal_work.proofs.arguments_to_bytes.answer.Goals as goal
use Rattle.std.proofs.lemmas.Result.{err_from_is_err_and}

pub returns-in_err-table-clause-answered : goal.returns-in_err-table-clause-answered
returns-in_err-table-clause-answered g c =
    let fault = err_from_is_err_and c.from_residual.result c.from_residual.ensures.1 in
    let zones = rw c.as_slice.ensures.value at c.in_err-table.ensures in
    rw (fault.1, fault.2) (zones_stop _ _ _ _ _ _ zones)

pub returns-in_err-rules-clause-answered : goal.returns-in_err-rules-clause-answered
returns-in_err-rules-clause-answered g c =
    let fault = err_from_is_err_and c.from_residual-in_err-rules.result c.from_residual-in_err-rules.ensures.1 in
    let zones = rw c.as_slice.ensures.value at c.in_ok-table.ensures in
    let refused = c.in_err-rules.ensures.refused in
    rw (fault.1, fault.2) (local_stops _ _ _ _ _ _ _ utc zones
    (rw (local_refused (shown_zone_argument c.args.ask.now.local) _ refused.1) (stops_other _ rule_stop refused.0)))

pub returns-in_err-local-clause-answered : goal.returns-in_err-local-clause-answered
returns-in_err-local-clause-answered g c =
    let fault = err_from_is_err_and c.from_residual-in_err-local.result c.from_residual-in_err-local.ensures.1 in
    let zones = rw c.as_slice.ensures.value at c.in_ok-table.ensures in
    let found = c.in_err-local.ensures in
    rw (fault.1, fault.2) (local_stops _ _ _ _ _ _ _ found.zone zones found.answers)

pub returns-in_err-now-clause-answered : goal.returns-in_err-now-clause-answered
returns-in_err-now-clause-answered g c =
    let fault = err_from_is_err_and c.from_residual-in_err-now.result c.from_residual-in_err-now.ensures.1 in
    let zones = rw c.as_slice.ensures.value at c.in_ok-table.ensures in
    let clock = c.in_err-now.ensures in
    rw (fault.1, fault.2) (clock_stops _ _ _ _ _ _ _ _ zones c.in_ok-local.ensures clock.clock clock.asked clock.answers)

pub returns-clause-answered : goal.returns-clause-answered
returns-clause-answered g c =
    let zones = rw c.as_slice.ensures.value at c.in_ok-table.ensures in
    let clock = c.in_ok-now.ensures in
    ran_whole _ _ _ _ _ _ _ _ _ _ _ zones c.in_ok-local.ensures clock.clock clock.asked clock.answers c.run_request.ensures.runs
