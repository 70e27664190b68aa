use Rattle.std.proofs.Common.{◌∙◌, ap, rules, string_bytes, sym}
use Rattle.std.proofs.lemmas.Iterator.{YieldsList-from_slice}
use Rattle.std.proofs.lemmas.Iterator.Search.{any_from_yields_List}
use Rattle.std.specs.List.{list_any}
use Rattle.cal_unit_index.specs.declared.index.SearchFolder.{SearchFolder}
use Rattle.cal_answers.proofs.LintLemmas.{first_in, folders_any, none_in}
use Rattle.cal_answers.specs.rules.LintUnits.{is_directly_in}
use Rattle.cal_answers.proofs.setting_problems.is_in_search_path.Goals as goal
use borrow.Author.Tests.{tests}

pub returns-in-Some : goal.returns-in-Some
returns-in-Some c = λ machine search_path is.
    let own = c.in-Some.own.now in
    any_from_yields_List (λ (folder : SearchFolder). is_directly_in (string_bytes folder.path) (string_bytes own.path)) _ _ c.any.result c.any.ensures.ran
    (YieldsList-from_slice c.folders.result.now cc) (λ x b q k. search (rules, tests))
    ∙ ap (list_any (λ (folder : SearchFolder). is_directly_in (string_bytes folder.path) (string_bytes own.path))) c.folders.ensures
    ∙ folders_any machine search_path c.args.index.now (λ folder. is_directly_in folder (string_bytes own.path)) is
    ∙ first_in search_path c.args.files.now own (sym (rw c.in-Some.is at c.first.ensures.value))

pub returns-in-None : goal.returns-in-None
returns-in-None c = λ machine search_path is. none_in search_path c.args.files.now (sym (rw c.in-None.is at c.first.ensures.value))
