use Rattle.cal_span.proofs.SpanPairRule.{are_pairs, only_pairs}
use Rattle.cal_span.proofs.SpanRuleLemmas.{spelled_once, judges_span, one_judgement, span_is_value}
use Rattle.cal_span.proofs.SpanRuns.{runs_cut, runs_longest, runs_only}
use Rattle.cal_span.proofs.span.rule.one_value.Goals as goal

pub returns-clause-cut : goal.returns-clause-cut
returns-clause-cut c = runs_cut

pub returns-clause-longest : goal.returns-clause-longest
returns-clause-longest c = runs_longest

pub returns-clause-only_runs : goal.returns-clause-only_runs
returns-clause-only_runs c = runs_only

pub returns-clause-paired : goal.returns-clause-paired
returns-clause-paired c = are_pairs

pub returns-clause-only_pairs : goal.returns-clause-only_pairs
returns-clause-only_pairs c = only_pairs

pub returns-clause-spelled : goal.returns-clause-spelled
returns-clause-spelled c = spelled_once

pub returns-clause-found : goal.returns-clause-found
returns-clause-found c = judges_span

pub returns-clause-only : goal.returns-clause-only
returns-clause-only c = one_judgement

pub returns-clause-value : goal.returns-clause-value
returns-clause-value c = span_is_value
