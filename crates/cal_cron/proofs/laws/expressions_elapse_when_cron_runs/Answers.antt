use Rattle.std.proofs.Common.{ap, Ok}
use Rattle.cal_bytes.specs.rules.AndThen.{◌>>=◌}
use Rattle.cal_spec.proofs.ReadLemmas.{bind_ok}
use Rattle.cal_cron.proofs.LineRule.{line_found, line_only, sound}
use Rattle.cal_cron.proofs.ScheduleLemmas.{exprs_same}
use Rattle.cal_cron.specs.computed.Lines.{line_in}
use Rattle.cal_cron.specs.computed.Translation.{exprs_in, exprs_of}
use Rattle.cal_cron.proofs.laws.expressions_elapse_when_cron_runs.Goals as goal

pub returns-clause-some : goal.returns-clause-some
unfolding exprs_in
returns-clause-some c = λ text s is. ap (λ r. r >>= λ t. Ok (exprs_of t)) (line_only text s is)

pub returns-clause-same : goal.returns-clause-same
returns-clause-same c = λ text s local is. exprs_same s local (sound text s is)

pub returns-clause-only : goal.returns-clause-only
unfolding exprs_in
returns-clause-only c = λ text e at.
    let read = bind_ok (line_in text) (λ s. Ok (exprs_of s)) e at in
    (read.value, line_found text read.value read.first, (let h = read.next in cc))
