use Rattle.std.proofs.Common.{◌∙◌, [], ap, map, sym, refl, arith}
use Rattle.std.proofs.lemmas.List.{get_or-map, length-map}
use Rattle.cal_timers_command.specs.rules.VerbFirst.{first_failing, is_value_at}
use Rattle.cal_timers_command.proofs.VerbFirstLemmas.{first_found, first_none, next_passed, next_value}
use Rattle.cal_timers_command.proofs.verb_first.first_word.Goals as goal

pub loop-index-init : goal.loop-index-init
unfolding first_failing is_value_at
loop-index-init g c = record { passed = refl; value = refl }

pub returns-then-not-is_passed-clause-word : goal.returns-then-not-is_passed-clause-word
returns-then-not-is_passed-clause-word g c =
    let text = c.as_str-text.ensures ∙ ap g.S.AsStr.text c.index-arguments-index.is ∙ sym (get_or-map g.S.AsStr.text c.args.arguments.now c.loop-index.index _ [] c.loop-index-test.true) in
    first_found (map g.S.AsStr.text c.args.arguments.now) c.loop-index.index c.as_str-text.result.now c.loop-index.is_value
    (rw (length-map c.args.arguments.now g.S.AsStr.text) c.loop-index-test.true) text c.loop-index.invariant.passed c.loop-index.invariant.value
    (sym c.is_passed.ensures ∙ c.if-not-is_passed.true)

pub loop-index-preserved : goal.loop-index-preserved
loop-index-preserved g c =
    let text = c.as_str-text.ensures ∙ ap g.S.AsStr.text c.index-arguments-index.is ∙ sym (get_or-map g.S.AsStr.text c.args.arguments.now c.loop-index.index _ [] c.loop-index-test.true) in
    record {
      passed = next_passed (map g.S.AsStr.text c.args.arguments.now) c.loop-index.index c.as_str-text.result.now c.loop-index.is_value
          text c.loop-index.invariant.passed c.loop-index.invariant.value (sym c.is_passed.ensures ∙ c.if-not-is_passed.false);
      value = c.awaits_value-is_value.ensures ∙ next_value (map g.S.AsStr.text c.args.arguments.now) c.loop-index.index c.as_str-text.result.now c.loop-index.is_value text c.loop-index.invariant.value;
    }

pub returns-clause-word : goal.returns-clause-word
returns-clause-word g c =
    first_none (map g.S.AsStr.text c.args.arguments.now) c.loop-index.index (rw (length-map c.args.arguments.now g.S.AsStr.text) (omega (arith, c.loop-index.auto, c.loop-index-test.false))) c.loop-index.invariant.passed
