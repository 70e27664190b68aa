use Rattle.std.proofs.Common.{◌∙◌, ap, refl}
use Rattle.std.proofs.lemmas.Result.{on_ok_weaker}
use Rattle.cal_unit_index.specs.declared.fault.Reason.TheVariants.{TooLarge, Unreadable}
use Rattle.cal_load.specs.declared.files.Taken.TheVariants.{Unusable}
use Rattle.cal_load.proofs.FileLemmas.{lost_read}
use Rattle.cal_load.proofs.files.Reading.take_drop_in.Goals as goal

pub returns-in-Unusable-TooLarge-clause-read : goal.returns-in-Unusable-TooLarge-clause-read
returns-in-Unusable-TooLarge-clause-read g c =
    on_ok_weaker c.push_path.result (λ pushed machine shows.
    lost_read machine c.args.path c.as_str.result.now TooLarge c.in_ok-take.field-0 c.args.self.now c.take.new.self _ c.as_str.ensures.value
    (c.in-Unusable-TooLarge.is ∙ ap Unusable c.in-Unusable-TooLarge.field-0-is) (c.in_ok-take.ensures.tried machine shows) c.in_ok-take.ensures.faults refl refl refl pushed) c.push_path.ensures.lost

pub returns-in-Unusable-Unreadable-clause-read : goal.returns-in-Unusable-Unreadable-clause-read
returns-in-Unusable-Unreadable-clause-read g c =
    on_ok_weaker c.push_path-in-Unusable-Unreadable.result (λ pushed machine shows.
    lost_read machine c.args.path c.as_str.result.now (Unreadable c.in-Unusable-Unreadable.why) c.in_ok-take.field-0 c.args.self.now c.take.new.self _ c.as_str.ensures.value
    (c.in-Unusable-Unreadable.is ∙ ap Unusable c.in-Unusable-Unreadable.field-0-is) (c.in_ok-take.ensures.tried machine shows) c.in_ok-take.ensures.faults refl refl refl pushed) c.push_path-in-Unusable-Unreadable.ensures.lost
