use Rattle.std.proofs.Common.{◌≡◌, None, Some, length, arith, refl, take}
use Rattle.std.specs.Path.{rfind_below}
use Rattle.std.proofs.lemmas.Str.Pattern.{rfind_char}
use Rattle.cal_machine.proofs.PlaceLemmas.{last_below, none_below}
use Rattle.cal_machine.proofs.steps.before_last_byte.Goals as goal

pub returns-in-Some : goal.returns-in-Some
returns-in-Some c =
    let text = c.args.text.now in
    let found = rfind_char c.args.byte text (Some c.in-Some.index) c.in-Some.ensures.cases c.requires in
    let is : rfind_below c.args.byte text (length text) ≡ Some c.in-Some.index =
    last_below c.args.byte text (length text) c.in-Some.index found.0 found.1 found.2 in
    let cut : c.range.result.now ≡ take c.in-Some.index text = grind (arith, c.range.ensures.value) in
    rw (is, cut) refl

pub returns-in-None : goal.returns-in-None
returns-in-None c =
    let lacks = rfind_char c.args.byte c.args.text.now None c.in-None.ensures.cases c.requires in
    rw (none_below c.args.byte c.args.text.now (length c.args.text.now) lacks) refl
