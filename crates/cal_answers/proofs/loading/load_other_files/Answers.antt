use Rattle.std.proofs.Common.{sym, ◌∙◌}
use Rattle.cal_answers.proofs.FoundLemmas.{no_files, no_targets, some_targets}
use Rattle.cal_answers.proofs.loading.load_other_files.Goals as goal

pub returns-then-is_empty-clause-files : goal.returns-then-is_empty-clause-files
returns-then-is_empty-clause-files g c machine search_path shows is =
    no_files machine search_path c.args.targets.now c.no_files.result (no_targets c.args.targets.now (sym c.is_empty.ensures ∙ c.if-is_empty.true))
    c.no_files.ensures.files c.no_files.ensures.faults

pub returns-clause-files : goal.returns-clause-files
returns-clause-files g c machine search_path shows is =
    c.in_ok-files.ensures.targets (some_targets c.args.targets.now (sym c.is_empty.ensures ∙ c.if-is_empty.false)) machine search_path shows is
