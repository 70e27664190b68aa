use Rattle.std.proofs.Common.{rules, ◌∙◌, refl, sym, w64}
use Rattle.std.proofs.lemmas.Int.{to_z-of_z}
use Rattle.cal_rising.proofs.WithoutLemmas.{any-union}
use Rattle.cal_rising.proofs.sources.Sources.has_onward.Goals as goal

pub returns-clause-has : goal.returns-clause-has
returns-clause-has g c =
    any-union _ _ _ _ _ (to_z-of_z w64 c.args.number (search rules)) c.has_onward_in_any.ensures.has c.self.view_is

pub returns-clause-left : goal.returns-clause-left
returns-clause-left g c = λ i le.
    any-union i i _ _ _ refl (sym (any-union i i _ _ _ refl refl refl) ∙ c.has_onward_in_any.ensures.left i (rw (to_z-of_z w64 c.args.number (search rules)) le)) c.self.view_is
