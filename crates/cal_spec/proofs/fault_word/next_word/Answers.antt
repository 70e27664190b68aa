use Rattle.std.proofs.Common.{◌+◌, ◌∙◌, ap, sym, arith, not}
use Rattle.std.specs.List.{prefix_len}
use Rattle.cal_bytes.specs.rules.Separators.{is_blank}
use Rattle.cal_spec.proofs.FaultSpanLemmas.{gap_is_blank, only_blanks, rest_from, word_ends, word_is_solid}
use Rattle.cal_spec.proofs.fault_word.next_word.Goals as goal

pub returns-then-start-end-clause-none : goal.returns-then-start-end-clause-none
returns-then-start-end-clause-none c = λ _.
    let text = c.args.text.now in
    let start = c.args.from + c.blanks_in_front.result in
    let blanks = c.blanks_in_front.ensures.value ∙ ap (prefix_len is_blank) (rest_from text c.args.from) in
    let bytes = c.word_len.ensures.solid ∙ ap (prefix_len (λ byte. not (is_blank byte))) (rest_from text start) in
    only_blanks text c.args.from start (ap (λ n. c.args.from + n) blanks) (sym bytes ∙ omega (arith, c.if-start-end.true)) c.requires

pub returns-clause-word : goal.returns-clause-word
returns-clause-word c =
    let text = c.args.text.now in
    let start = c.args.from + c.blanks_in_front.result in
    let end = start + c.word_len.result in
    let blanks = c.blanks_in_front.ensures.value ∙ ap (prefix_len is_blank) (rest_from text c.args.from) in
    let bytes = c.word_len.ensures.solid ∙ ap (prefix_len (λ byte. not (is_blank byte))) (rest_from text start) in (
      omega (arith, c.if-start-end.false),
      omega arith,
      omega (arith, c.blanks_in_front.ensures.within, c.word_len.ensures.within),
      gap_is_blank text c.args.from start (ap (λ n. c.args.from + n) blanks),
      word_is_solid text start end (ap (λ n. start + n) bytes),
      word_ends text start end (ap (λ n. start + n) bytes),
    )
