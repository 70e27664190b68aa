use Rattle.cal_options.proofs.NumberLemmas.{number_between-bounds}
use Rattle.cal_options.proofs.values.number_in.Goals as goal

pub returns-clause-least : goal.returns-clause-least
returns-clause-least c = (number_between-bounds c.args.option.least c.args.option.most c.args.text.now c.number_between.result c.number_between.ensures).0

pub returns-clause-most : goal.returns-clause-most
returns-clause-most c = (number_between-bounds c.args.option.least c.args.option.most c.args.text.now c.number_between.result c.number_between.ensures).1
