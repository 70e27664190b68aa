use Rattle.std.proofs.Common.{◌+◌, ◌∙◌, ap, not}
use Rattle.std.specs.List.{prefix_len}
use Rattle.cal_bytes.specs.rules.Separators.{is_blank}
use Rattle.cal_spec.proofs.FaultSpanLemmas.{rest_from, word_ends}
use Rattle.cal_cron.proofs.columns.word_end.Goals as goal

pub returns-clause-ends : goal.returns-clause-ends
returns-clause-ends c =
    let text = c.args.text.now in
    let start = c.word_start-start.result in
    let bytes = c.word_len.ensures.solid ∙ ap (prefix_len (λ byte. not (is_blank byte))) (rest_from text start) in
    word_ends text start (start + c.word_len.result) (ap (λ n. start + n) bytes)
