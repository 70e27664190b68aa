use Rattle.std.proofs.Common.{◌∙◌, ◌+◌, sym}
use Rattle.std.proofs.lemmas.List.{take_rest}
use Rattle.cal_cron.proofs.Cuts.{cut_at}
use Rattle.cal_cron.proofs.items.cut.Goals as goal

pub returns-in-Some : goal.returns-in-Some
returns-in-Some c =
    rw (take_rest c.args.text.now (c.in-Some.index + 1)) (sym (cut_at c.args.separator c.args.text.now c.in-Some.index (sym c.index_of.ensures ∙ c.in-Some.is)))
