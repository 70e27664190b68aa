use Rattle.std.proofs.Common.{◌<◌, ◌∙◌, arith, length, sym}
use Rattle.std.specs.Str.{str_eq_ignore_ascii_case}
use Rattle.cal_unit_index.proofs.WordLemmas.{same_word, word_found, word_passed}
use Rattle.cal_unit_index.proofs.setting_values.is_any.Goals as goal

pub returns-then-eq_ignore_ascii_case : goal.returns-then-eq_ignore_ascii_case
returns-then-eq_ignore_ascii_case c =
    let here : c.loop-word.word-index < length c.args.words.now = omega arith in
    word_found (str_eq_ignore_ascii_case c.args.value.now) c.args.words.now c.loop-word.word-index _ here
    (sym (same_word c.eq_ignore_ascii_case.result c.args.value.now _ c.eq_ignore_ascii_case.ensures.test) ∙ c.if-eq_ignore_ascii_case.true) c.loop-word.invariant

pub loop-word-preserved : goal.loop-word-preserved
loop-word-preserved c =
    let here : c.loop-word.word-index < length c.args.words.now = omega arith in
    word_passed (str_eq_ignore_ascii_case c.args.value.now) c.args.words.now c.loop-word.word-index _ here
    (sym (same_word c.eq_ignore_ascii_case.result c.args.value.now _ c.eq_ignore_ascii_case.ensures.test) ∙ c.if-eq_ignore_ascii_case.false) c.loop-word.invariant
