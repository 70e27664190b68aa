use Rattle.std.proofs.Common.{◌≡◌, ◌∙◌, ap, sym}
use Rattle.cal_bytes.specs.rules.Trim.{trim_end_matches}
use Rattle.cal_machine.specs.rules.Places.{is_slash}
use Rattle.cal_load.specs.rules.AllTargets.{unless_empty}
use Rattle.cal_load.proofs.PathLemmas.{root_if, same_if, trimmed_is}
use Rattle.cal_load.proofs.paths.without_slashes.Goals as goal

pub returns-then-is_empty : goal.returns-then-is_empty
returns-then-is_empty c =
    let path = c.args.path.now in
    let is : c.trim_end_matches-shorter.result.now ≡ trim_end_matches is_slash path = trimmed_is path c.trim_end_matches-shorter.result.now c.trim_end_matches-shorter.ensures.matches in
    root_if c.trim_end_matches-shorter.result.now (sym c.if-is_empty.true ∙ c.is_empty.ensures) ∙ ap unless_empty is

pub returns-else-is_empty : goal.returns-else-is_empty
returns-else-is_empty c =
    let path = c.args.path.now in
    let is : c.trim_end_matches-shorter.result.now ≡ trim_end_matches is_slash path = trimmed_is path c.trim_end_matches-shorter.result.now c.trim_end_matches-shorter.ensures.matches in
    same_if c.trim_end_matches-shorter.result.now (sym c.if-is_empty.false ∙ c.is_empty.ensures) ∙ ap unless_empty is
