use Rattle.std.proofs.Common.{◌∙◌, ap, sym}
use Rattle.cal_answers.proofs.LintPlaceLemmas.{not_placed, placed_at}
use Rattle.cal_answers.proofs.timer_problems.place_in.Goals as goal

pub returns-in-Some-clause-path : goal.returns-in-Some-clause-path
returns-in-Some-clause-path c =
    c.placed.ensures.path
    ∙ ap (λ place. place.0) (sym (placed_at c.args.timer.now c.args.files.now c.args.number c.in-Some.path.now c.in-Some.line c.in-Some.ensures.position c.placed.ensures.fits))

pub returns-in-Some-clause-line : goal.returns-in-Some-clause-line
returns-in-Some-clause-line c =
    c.placed.ensures.line
    ∙ ap (λ place. place.1) (sym (placed_at c.args.timer.now c.args.files.now c.args.number c.in-Some.path.now c.in-Some.line c.in-Some.ensures.position c.placed.ensures.fits))

pub returns-in-None-clause-path : goal.returns-in-None-clause-path
returns-in-None-clause-path c = ap (λ place. place.0) (sym (not_placed c.args.timer.now c.args.files.now c.args.number c.in-None.ensures.position))

pub returns-in-None-clause-line : goal.returns-in-None-clause-line
returns-in-None-clause-line c = ap (λ place. place.1) (sym (not_placed c.args.timer.now c.args.files.now c.args.number c.in-None.ensures.position))
