use Rattle.std.proofs.Common.{◌≡◌, ◌<◌, ap, sym, ◌∙◌, arith, length}
use Rattle.std.specs.List.{position_or_len}
use Rattle.std.proofs.lemmas.Bool.Decides.{nat_tests}
use Rattle.std.proofs.lemmas.List.{nil_from_length}
use Rattle.cal_bytes.specs.rules.Separators.{is_blank, words}
use Rattle.cal_bytes.proofs.WordLemmas.{word_boundary, first_word, begins_with_word, words-trim_start_matches, words-nil}
use Rattle.cal_bytes.proofs.words.first_word.Goals as goal
use Rattle.cal_bytes.proofs.General.{boundary_at}

pub returns-then-is_empty : goal.returns-then-is_empty
returns-then-is_empty c =
    let none : length c.trim_blanks_start-text.result.now ≡ 0 = grind (arith, nat_tests, c.if-is_empty.ensures) in
    sym (words-trim_start_matches c.args.text.now) ∙ ap words (sym c.trim_blanks_start-text.ensures ∙ nil_from_length c.trim_blanks_start-text.result.now none) ∙ words-nil

pub split_at-requires : goal.split_at-requires
split_at-requires c =
    let text = c.trim_blanks_start-text.result.now in
    let n = c.word_len.ensures.value ∙ ap (position_or_len is_blank) c.as_bytes.ensures.value in
    boundary_at text (position_or_len is_blank text) c.word_len.result (sym n) (word_boundary text c.trim_blanks_start-text.utf8)

pub returns : goal.returns
returns c =
    let text = c.trim_blanks_start-text.result.now in
    let n = c.word_len.ensures.value ∙ ap (position_or_len is_blank) c.as_bytes.ensures.value in
    let some : 0 < length text = grind (arith, nat_tests, c.if-is_empty.ensures) in
    let begins : 0 < position_or_len is_blank text = rw c.trim_blanks_start-text.ensures (begins_with_word c.args.text.now (rw c.trim_blanks_start-text.ensures at some)) in
    rw (c.split_at.ensures.front, c.split_at.ensures.back, n)
    (sym (words-trim_start_matches c.args.text.now) ∙ ap words (sym c.trim_blanks_start-text.ensures) ∙ first_word text begins)
