use Rattle.std.proofs.Common.{ap, rules, sym, to_z, of_z, w64, ◌∙◌, ◌≡◌}
use Rattle.std.proofs.lemmas.Bool.{eq-eqb, eqb-true}
use Rattle.std.proofs.lemmas.Int.{to_z-of_z}
use Rattle.cal_elapse.specs.computed.Masks.{sets_in}
use Rattle.cal_spec.specs.rules.Match.{matches}
use Rattle.cal_tasks.proofs.AtInstantLemmas.{match_here, no_match_here}
use Rattle.cal_tasks.proofs.at_instant.is_match.Goals as goal

pub returns-in-Some : goal.returns-in-Some
returns-in-Some c =
    let local : to_z w64 (of_z w64 c.args.local) ≡ c.args.local = to_z-of_z w64 c.args.local (search rules) in
    let first : to_z w64 (of_z w64 c.in-Some.first) ≡ c.in-Some.first = to_z-of_z w64 c.in-Some.first (search rules) in
    match_here (matches (sets_in c.args.masks.now)) c.args.local c.in-Some.first _ c.requires.0
    (λ same. sym first ∙ ap (to_z w64) (eqb-true _ _ same) ∙ local)
    (λ same. eq-eqb _ _ (ap (of_z w64) same))
    (rw (local, c.in-Some.is) at c.next_local.ensures.first)

pub returns-in-None : goal.returns-in-None
returns-in-None c =
    let local : to_z w64 (of_z w64 c.args.local) ≡ c.args.local = to_z-of_z w64 c.args.local (search rules) in
    no_match_here (matches (sets_in c.args.masks.now)) c.args.local c.requires (rw (local, c.in-None.is) at c.next_local.ensures.first)
