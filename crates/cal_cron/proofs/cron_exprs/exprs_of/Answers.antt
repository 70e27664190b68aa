use Rattle.std.proofs.Common.{◌∙◌, ap}
use Rattle.cal_spec.specs.declared.slot.Slot.TheVariants.{Day}
use Rattle.cal_cron.proofs.ScheduleLemmas.{both_valid_at, days_valid_at, weekdays_valid_at}
use Rattle.cal_cron.specs.computed.Lines.{shown_line}
use Rattle.cal_cron.specs.computed.Translation.{component_of, weekdays_of}
use Rattle.cal_cron.proofs.cron_exprs.exprs_of.Goals as goal

pub expr_at-requires : goal.expr_at-requires
expr_at-requires c =
    both_valid_at (shown_line c.args.line.now) _ _ c.requires (c.weekdays_of-weekdays.ensures ∙ ap weekdays_of c.deref.ensures.value) (c.in_ok-day.ensures.ok ∙ ap (component_of Day) c.deref-2.ensures.value)

pub expr_at-requires-2 : goal.expr_at-requires-2
expr_at-requires-2 c =
    days_valid_at (shown_line c.args.line.now) _ c.requires (c.in_ok-day.ensures.ok ∙ ap (component_of Day) c.deref-2.ensures.value)

pub expr_at-requires-3 : goal.expr_at-requires-3
expr_at-requires-3 c =
    weekdays_valid_at (shown_line c.args.line.now) _ c.requires (c.weekdays_of-weekdays.ensures ∙ ap weekdays_of c.deref.ensures.value)
