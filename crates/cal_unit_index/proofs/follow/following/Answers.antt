use Rattle.std.proofs.Common.{◌∙◌, rules}
use Rattle.cal_unit_index.specs.rules.Index.{destination_of}
use Rattle.cal_unit_index.proofs.FollowLemmas.{follow_first}
use Rattle.cal_unit_index.proofs.follow.following.Goals as goal

pub returns-in-Some-Alias : goal.returns-in-Some-Alias
returns-in-Some-Alias c =
    c.follow.ensures ∙ follow_first (destination_of c.args.index.now) c.args.stem.now c.as_str-in-Some-Alias.result.now (search rules)
