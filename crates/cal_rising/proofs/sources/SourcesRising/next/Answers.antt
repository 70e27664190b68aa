use Rattle.std.proofs.Common.{rules, ◌∙◌, List, ℤ, w64, sym, ap, drop}
use Rattle.std.proofs.lemmas.Int.{to_z-of_z}
use Rattle.cal_rising.specs.rules.RisingList.{union}
use Rattle.cal_rising.proofs.MergeLemmas.{union-advanced}
use Rattle.cal_rising.proofs.sources.SourcesRising.next.Goals as goal

pub returns-in-Some-clause-left : goal.returns-in-Some-clause-left
returns-in-Some-clause-left g c =
    ap union (rw (to_z-of_z w64 c.in-Some.number (search rules)) at c.advance_all_past.ensures)
    ∙ union-advanced c.in-Some.number c.peek_all.new.sources.items c.peek_all.ensures.taken (sym c.least_head-least.ensures ∙ c.in-Some.is)
    ∙ ap (λ (xss : List (List ℤ)). drop 1 (union xss)) (c.peek_all.ensures.same ∙ c.self.view_is)
