use Rattle.std.proofs.Common.{◌≡◌, length, take, drop, ◌-◌, arith, ap, ◌∙◌}
use Rattle.std.proofs.lemmas.List.{take_rest, length-drop}
use Rattle.cal_span.specs.rules.PairValue.{characters}
use Rattle.cal_span.proofs.SpanWords.{first_word_is, word_length, no_word_is}
use Rattle.cal_span.proofs.span.word.first_span_word.Goals as goal

pub returns-in_err-kind : goal.returns-in_err-kind
returns-in_err-kind c =
    let bytes = c.args.bytes.now in
    let at = take_rest bytes c.front_len.result in
    rw c.from_residual.ensures (no_word_is bytes _ (ap characters at ∙ c.front_len.ensures.rest) c.in_err-kind.ensures)

pub returns : goal.returns
returns c =
    let bytes = c.args.bytes.now in
    let solid = take (length bytes - c.front_len.result) (drop c.front_len.result bytes) in
    let at : solid ≡ drop c.front_len.result bytes = take_rest bytes c.front_len.result in
    let front = c.split_at.ensures.front ∙ c.front_len-2.ensures.front in
    let after = ap characters c.split_at.ensures.back ∙ c.front_len-2.ensures.rest in
    let f = c.in_ok-kind.ensures in
    let nonempty = word_length solid c.in_ok-kind.kind _ c.split_at.result.0.now f.0 front f.2 in (
      first_word_is bytes solid c.in_ok-kind.kind _ _ _ (ap characters at ∙ c.front_len.ensures.rest) f.0 front after,
      omega (arith, ap length at, length-drop c.front_len.result bytes, nonempty, f.1),
    )
