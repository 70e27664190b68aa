use Rattle.std.proofs.Common.{◌≡◌, ◌-◌, ◌∙◌, arith, rules, suc, None, Some}
use Rattle.cal_unit_index.specs.rules.Destinations.Destination.{FileAt, AliasOf}
use Rattle.cal_unit_index.specs.rules.Index.{destination_of}
use Rattle.cal_unit_index.proofs.FollowLemmas.{follow_on}
use Rattle.cal_unit_index.proofs.follow.+follow.Goals as goal

pub returns-in-None : goal.returns-in-None
returns-in-None t c =
    let more : c.args.count ≡ suc (c.args.count - 1) = omega arith in
    follow_on (destination_of c.args.index.now) c.args.count (c.args.count - 1) c.args.stem.now c.looked_up-stem.result.now None more c.looked_up-stem.ensures (search rules)

pub returns-in-Some-File : goal.returns-in-Some-File
returns-in-Some-File t c =
    let more : c.args.count ≡ suc (c.args.count - 1) = omega arith in
    follow_on (destination_of c.args.index.now) c.args.count (c.args.count - 1) c.args.stem.now c.looked_up-stem.result.now (Some (FileAt c.as_str.result.now)) more c.looked_up-stem.ensures (search rules)

pub returns-in-Some-Alias : goal.returns-in-Some-Alias
returns-in-Some-Alias t c =
    let more : c.args.count ≡ suc (c.args.count - 1) = omega arith in
    c.follow.ensures
    ∙ follow_on (destination_of c.args.index.now) c.args.count (c.args.count - 1) c.args.stem.now c.looked_up-stem.result.now (Some (AliasOf c.as_str-in-Some-Alias.result.now)) more c.looked_up-stem.ensures (search rules)
