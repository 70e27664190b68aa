use Rattle.std.proofs.Common.{◌≡◌, rules}
use Rattle.cal_work.specs.computed.WorkSteps.{ran}
use Rattle.cal_work.proofs.WorkLemmas.{runs_file, texts_run}
use Rattle.cal_work.proofs.arguments_to_bytes.run_request.Goals as goal

pub returns-in-Texts-clause-runs : goal.returns-in-Texts-clause-runs
returns-in-Texts-clause-runs g c =
    let kind = rw c.in-Texts.is at c.kind.ensures in
    let same : c.map_err.result ≡ ran c.run_texts.result = search rules in
    rw same (texts_run _ _ _ _ _ _ _ _ _ _ kind c.run_texts.ensures.status c.run_texts.ensures.out c.run_texts.ensures.err)

pub returns-in-Timer-clause-runs : goal.returns-in-Timer-clause-runs
returns-in-Timer-clause-runs g c =
    let kind = rw c.in-Timer.is at c.kind.ensures in
    runs_file _ _ _ _ _ _ _ _ _ kind c.run_file.ensures.runs
