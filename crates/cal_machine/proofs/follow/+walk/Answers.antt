use Rattle.std.proofs.Common.{◌≡◌, ◌∙◌, Err, Ok, ap, arith, map, rules, string_bytes, subst, sym}
use Rattle.cal_machine.specs.rules.Machine.{Tells}
use Rattle.cal_machine.specs.rules.Places.{shown_place, shown_step}
use Rattle.cal_machine.specs.rules.Places.Step.{Ended, On}
use Rattle.cal_machine.proofs.PlaceLemmas.{walk_end, walk_err, walk_none, walk_on}
use Rattle.cal_machine.proofs.follow.+walk.Goals as goal

pub returns-in_default-clause-known : goal.returns-in_default-clause-known
returns-in_default-clause-known g t c =
    λ machine shows. walk_end machine c.args.last c.args.count (string_bytes c.args.folder) (map string_bytes c.args.parts.items) c.in_default.ensures

pub returns-then-count-eq0-clause-known : goal.returns-then-count-eq0-clause-known
returns-then-count-eq0-clause-known g t c =
    λ machine shows.
    walk_none machine c.args.last c.args.count (string_bytes c.args.folder) (map string_bytes c.args.parts.items) (string_bytes c.in-Some.part)
    (map string_bytes c.take_first.new.parts.items) c.if-count-eq0.true c.in-Some.ensures

pub returns-in_err-folder-clause-known : goal.returns-in_err-folder-clause-known
returns-in_err-folder-clause-known g t c =
    λ machine shows.
    let same : c.from_residual.result ≡ Err c.in_err-folder.field-0.0 = search rules in
    rw same
    (walk_err machine c.args.last c.args.count (string_bytes c.args.folder) (map string_bytes c.args.parts.items) _ _ _ (omega arith) c.in-Some.ensures c.as_str.ensures.value
    c.in_err-folder.field-0.0 (c.in_err-folder.ensures.known machine shows))

pub returns-in-On-clause-known : goal.returns-in-On-clause-known
returns-in-On-clause-known g t c =
    λ machine shows.
    subst (Tells shown_place c.walk.result)
    (sym (walk_on machine c.args.last c.args.count (string_bytes c.args.folder) (map string_bytes c.args.parts.items) _ _ _ (omega arith) c.in-Some.ensures c.as_str.ensures.value
    (Ok (On (string_bytes c.in-On.folder) (map string_bytes c.in-On.rest.items)))
    (c.in_ok-folder.ensures.known machine (c.walk.ensures.grows machine shows) ∙ ap (λ step. Ok (shown_step step)) c.in-On.is))) (c.walk.ensures.known machine shows)

pub returns-clause-known : goal.returns-clause-known
returns-clause-known g t c =
    λ machine shows.
    walk_on machine c.args.last c.args.count (string_bytes c.args.folder) (map string_bytes c.args.parts.items) _ _ _ (omega arith) c.in-Some.ensures c.as_str.ensures.value
    (Ok (Ended (shown_place c.in-Ended.place))) (c.in_ok-folder.ensures.known machine shows ∙ ap (λ step. Ok (shown_step step)) c.in-Ended.is)
