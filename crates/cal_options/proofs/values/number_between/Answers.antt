use Rattle.std.proofs.Common.{lit<, sym, arith}
use Rattle.std.proofs.lemmas.Str.Pattern.{starts_char}
use Rattle.std.proofs.lemmas.Bool.Decides.{nat_tests}
use Rattle.cal_options.proofs.NumberLemmas.{number_between-plus, number_between-parsed}
use Rattle.cal_options.proofs.values.number_between.Goals as goal

pub returns-then-starts_with : goal.returns-then-starts_with
returns-then-starts_with c =
    let sign = starts_char 43 c.args.text.now c.starts_with.result c.starts_with.ensures.cases (lit< tt) (lit< tt) in
    sym (number_between-plus c.args.least c.args.most c.args.text.now (sign.0 c.if-starts_with.true))

pub returns-in-Ok : goal.returns-in-Ok
returns-in-Ok c =
    let sign = starts_char 43 c.args.text.now c.starts_with.result c.starts_with.ensures.cases (lit< tt) (lit< tt) in
    grind (arith, nat_tests, sign.1, number_between-parsed _ c.args.least c.args.most c.args.text.now c.parse.result c.parse.ensures.value.0)

pub returns-in_default : goal.returns-in_default
returns-in_default c =
    let sign = starts_char 43 c.args.text.now c.starts_with.result c.starts_with.ensures.cases (lit< tt) (lit< tt) in
    grind (arith, nat_tests, sign.1, number_between-parsed _ c.args.least c.args.most c.args.text.now c.parse.result c.parse.ensures.value.0)

pub returns-in_default-2 : goal.returns-in_default-2
returns-in_default-2 c =
    let sign = starts_char 43 c.args.text.now c.starts_with.result c.starts_with.ensures.cases (lit< tt) (lit< tt) in
    grind (arith, nat_tests, sign.1, number_between-parsed _ c.args.least c.args.most c.args.text.now c.parse.result c.parse.ensures.value.0)

pub returns-in_default-3 : goal.returns-in_default-3
returns-in_default-3 c =
    let sign = starts_char 43 c.args.text.now c.starts_with.result c.starts_with.ensures.cases (lit< tt) (lit< tt) in
    grind (arith, nat_tests, sign.1, number_between-parsed _ c.args.least c.args.most c.args.text.now c.parse.result c.parse.ensures.value.0)
