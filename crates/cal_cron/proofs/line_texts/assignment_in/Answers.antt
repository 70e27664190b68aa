use Rattle.std.proofs.Common.{◌≡◌, ◌≢◌, ◌==◌, arith, false, get_or, refl}
use Rattle.std.specs.List.{list_any}
use Rattle.std.proofs.lemmas.Bool.Decides.{nat_tests}
use Rattle.std.proofs.lemmas.List.Elements.{All-from_get_or}
use Rattle.std.proofs.lemmas.List.Folds.{list_any_none}
use Rattle.std.proofs.lemmas.Str.Pattern.{NoCharPasses-char}
use Rattle.cal_bytes.specs.rules.Separators.{is_equals}
use Rattle.cal_cron.specs.rules.CrontabLines.{assignment_in}
use Rattle.cal_cron.proofs.line_texts.assignment_in.Goals as goal

pub returns-in_default : goal.returns-in_default
unfolding assignment_in
returns-in_default c =
    let cases = rw c.in_default.is at c.split_once.ensures.cases in
    let none : list_any is_equals c.args.line.now ≡ false = list_any_none is_equals c.args.line.now (All-from_get_or (λ b. (b == 61) ≡ false) c.args.line.now 0 (λ i h.
    let other : get_or c.args.line.now i 0 ≢ 61 = NoCharPasses-char 61 c.args.line.now i cases (omega arith) h in grind (arith, nat_tests))) in
    rw none refl
