use Rattle.std.proofs.Common.{◌+◌, ◌*◌, Some, inl, inr, arith}
use Rattle.std.proofs.lemmas.Bool.{cases_lt}
use Rattle.cal_elapse.specs.computed.Bits.{is_bit_in}
use Rattle.cal_elapse.proofs.CarryLemmas.{first_then, first_within}
use Rattle.cal_elapse.proofs.YearWordLemmas.{first_in_word, none_in_word}
use Rattle.cal_elapse.proofs.search.month.year_later.Goals as goal

pub returns-in-Some : goal.returns-in-Some
returns-in-Some c =
    let word = c.loop-word.word in
    let here = first_in_word c.args.years.now word 0 (word * 64) c.in-Some.year (omega arith) c.in-Some.ensures in
    first_then (is_bit_in c.args.years.now) (c.args.first * 64) (word * 64) 256 (Some (word * 64 + c.in-Some.year)) c.loop-word.invariant (omega arith)
    (first_within (is_bit_in c.args.years.now) (word * 64) ((word + 1) * 64) 256 (word * 64 + c.in-Some.year) (omega arith) here)

pub loop-word-preserved : goal.loop-word-preserved
loop-word-preserved c =
    let word = c.loop-word.word in
    let here = none_in_word c.args.years.now word 0 (word * 64) (omega arith) c.in_default.ensures in
    λ t above below.
    elim (cases_lt t (word * 64)) [ inl early ↦ c.loop-word.invariant t above early | inr late ↦ here t (omega arith) below ]
