use Rattle.std.proofs.Common.{◌∙◌, ap, Some, sym}
use Rattle.cal_answers.proofs.UnguardedLemmas.{elsewhere_first, elsewhere_in_path, elsewhere_none}
use Rattle.cal_answers.proofs.unguarded.own_elsewhere.Goals as goal

pub returns-then-is_in_search_path : goal.returns-then-is_in_search_path
returns-then-is_in_search_path c = λ machine search_path is.
    elsewhere_in_path search_path c.args.files.now (sym (c.is_in_search_path.ensures machine search_path is) ∙ c.if-is_in_search_path.true)

pub returns-in-Some : goal.returns-in-Some
returns-in-Some c = λ machine search_path is.
    ap Some c.as_str.ensures.value
    ∙ elsewhere_first search_path c.args.files.now c.in-Some.own.now (sym (c.is_in_search_path.ensures machine search_path is) ∙ c.if-is_in_search_path.false)
    (sym (rw c.in-Some.is at c.first.ensures.value))

pub returns-in-None : goal.returns-in-None
returns-in-None c = λ machine search_path is. elsewhere_none search_path c.args.files.now (sym (rw c.in-None.is at c.first.ensures.value))
