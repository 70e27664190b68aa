use Rattle.std.proofs.Common.{◌-◌, ap, sym, ◌∙◌, arith, length, take, drop}
use Rattle.std.specs.List.{suffix_len}
use Rattle.cal_bytes.proofs.WordLemmas.{is_solid, last_word_boundary, last_blank_boundary, some_blank, no_blank}
use Rattle.cal_bytes.proofs.words.last_word.Goals as goal
use Rattle.cal_bytes.proofs.General.{boundary_at}

pub returns-then-len-text : goal.returns-then-len-text
returns-then-len-text c =
    let n = c.last_word_len-len.ensures.value ∙ ap (suffix_len is_solid) c.as_bytes.ensures.value in
    no_blank c.args.text.now (sym n ∙ c.if-len-text.true)

pub range-requires-clause-end_boundary : goal.range-requires-clause-end_boundary
range-requires-clause-end_boundary c =
    let text = c.args.text.now in
    let n = c.last_word_len-len.ensures.value ∙ ap (suffix_len is_solid) c.as_bytes.ensures.value in
    boundary_at text (length text - suffix_len is_solid text - 1) (length text - c.last_word_len-len.result - 1) (omega (arith, n)) (last_blank_boundary text (omega (arith, n)))

pub range_from-requires : goal.range_from-requires
range_from-requires c = λ some.
    let text = c.args.text.now in
    let n = c.last_word_len-len.ensures.value ∙ ap (suffix_len is_solid) c.as_bytes.ensures.value in
    boundary_at text (length text - suffix_len is_solid text) (length text - c.last_word_len-len.result) (omega (arith, n)) (last_word_boundary text c.utf8.text (omega (arith, n)))

pub returns : goal.returns
returns c =
    let text = c.args.text.now in
    let n = c.last_word_len-len.ensures.value ∙ ap (suffix_len is_solid) c.as_bytes.ensures.value in (
      some_blank text (omega (arith, n)),
      c.range.ensures.value ∙ ap (λ k. take k text) (omega (arith, n)),
      c.range_from.ensures.value ∙ ap (λ k. drop k text) (omega (arith, n)),
    )
