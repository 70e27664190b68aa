use Rattle.std.proofs.Common.{◌/◌, ◌%◌, arith}
use Rattle.cal_elapse.proofs.YearWordLemmas.{first_in_word, none_in_word}
use Rattle.cal_elapse.proofs.search.month.year_here.Goals as goal

pub returns-in-Some : goal.returns-in-Some
returns-in-Some c = first_in_word c.args.years.now (c.args.from / 64) (c.args.from % 64) c.args.from c.in-Some.bit (omega arith) c.in-Some.ensures

pub returns-in-None : goal.returns-in-None
returns-in-None c = none_in_word c.args.years.now (c.args.from / 64) (c.args.from % 64) c.args.from (omega arith) c.in-None.ensures
