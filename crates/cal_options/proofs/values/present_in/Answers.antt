use Rattle.std.proofs.Common.{◌∙◌, Some, None, lit<, sym, ap, arith, rules, w64}
use Rattle.std.proofs.lemmas.Str.Pattern.{strip_prefix_char}
use Rattle.std.proofs.lemmas.Int.{ints, to_z_pos}
use Rattle.cal_options.proofs.NumberLemmas.{present_in-none, present_in-some, number_between-range, instant_some}
use Rattle.cal_options.proofs.values.present_in.Goals as goal

pub returns-in_err-strip_prefix : goal.returns-in_err-strip_prefix
returns-in_err-strip_prefix c =
    let at = strip_prefix_char 64 c.args.text.now None c.in_err-strip_prefix.ensures.cases (lit< tt) in
    rw (present_in-none c.args.text.now at) (search rules)

pub returns-in_err-number : goal.returns-in_err-number
returns-in_err-number c =
    let at = strip_prefix_char 64 c.args.text.now (Some c.in_ok-strip_prefix.field-0) c.in_ok-strip_prefix.ensures.cases (lit< tt) in
    rw (present_in-some c.args.text.now c.in_ok-strip_prefix.field-0.now at) (search rules)

pub overflow_cast-number : goal.overflow_cast-number
overflow_cast-number c =
    let range = number_between-range 0 7_258_211_998 c.in_ok-number.number c.in_ok-strip_prefix.field-0.now (sym c.in_ok-number.was ∙ c.number_between.ensures) in
    search (rules, range)

pub returns : goal.returns
returns c =
    let at = strip_prefix_char 64 c.args.text.now (Some c.in_ok-strip_prefix.field-0) c.in_ok-strip_prefix.ensures.cases (lit< tt) in
    let range = number_between-range 0 7_258_211_998 c.in_ok-number.number c.in_ok-strip_prefix.field-0.now (sym c.in_ok-number.was ∙ c.number_between.ensures) in
    let small = to_z_pos w64 c.in_ok-number.number (omega arith) in
    rw (present_in-some c.args.text.now c.in_ok-strip_prefix.field-0.now at, ← c.number_between.ensures, c.in_ok-number.was)
    (instant_some c.new.result _ c.new.ensures.some c.new.ensures.value (rw small (omega (arith, ints), omega (arith, ints))) ∙ ap Some small)
