use Rattle.std.proofs.Common.{◌≡◌, ◌∙◌, [], ap, codes, map, option_map, rules, sym}
use Rattle.std.specs.Prelude.{string_bytes}
use Rattle.std.proofs.lemmas.Result.{IfOk-weaker}
use Rattle.clap.specs.Words.{found_of, rows_of}
use Rattle.clap.proofs.WalkLemmas.{raw_values-rows}
use Rattle.cal_timers_command.specs.rules.Texts.{texts_of}
use Rattle.cal_timers_command.proofs.AskedLemmas.{no_targets_given, targets_given}
use Rattle.cal_timers_command.proofs.verb_questions.targets_of.Goals as goal

pub returns-in-Some : goal.returns-in-Some
returns-in-Some c =
    IfOk-weaker c.copies_of.result _ _ (λ copies is. is ∙ targets_given (rows_of (found_of c.args.values.now)) (texts_of c.in-Some.texts.now)
    (sym (ap (option_map (λ texts. texts_of texts.now)) c.in-Some.is) ∙ c.get_strs.ensures ∙ raw_values-rows (found_of c.args.values.now) (codes "target"))) c.copies_of.ensures

pub returns-in-None : goal.returns-in-None
returns-in-None c =
    let empty : map string_bytes c.new.result.items ≡ [] = search rules in
    empty ∙ no_targets_given (rows_of (found_of c.args.values.now))
    (sym (ap (option_map (λ texts. texts_of texts.now)) c.in-None.is) ∙ c.get_strs.ensures ∙ raw_values-rows (found_of c.args.values.now) (codes "target"))
