use Rattle.std.proofs.Common.{◌∙◌, ◌++◌, ap, sym, arith, List, ℕ, ◌≡◌}
use Rattle.std.proofs.lemmas.List.{append-nil, drop_all, append_assoc}
use Rattle.cal_span.proofs.SpanCounts.{led, led_taken, led_skipped, counts_in_row-led}
use Rattle.cal_span.specs.rules.SpanText.{positive, counts_of}
use Rattle.cal_span.proofs.span.text.push_counts.Goals as goal
use Rattle.cal_span.proofs.span.text.push_counts.Goals.{then-rest-size, else-rest-size}

appended : (text piece left later whole : List ℕ) → left ≡ piece ++ later → text ++ left ≡ whole → (text ++ piece) ++ later ≡ whole
appended text piece left later whole e h = append_assoc text piece later ∙ ap (λ rest. text ++ rest) (sym e) ∙ h

pub loop-unit-init : goal.loop-unit-init
loop-unit-init c = record {
  lead = omega arith;
  short = omega arith;
  whole = ap (λ row. c.args.text.now.items ++ row) (sym (counts_in_row-led _));
}

pub loop-unit-preserved : goal.loop-unit-preserved
loop-unit-preserved c =
    elim c.if-rest-size.branch [
      | then-rest-size w ↦
          (let taken = led_taken c.loop-unit.lead.now c.args.units.now c.loop-unit.unit-index _ c.micros-size.result c.loop-unit.rest (omega arith) c.micros-size.ensures.value (omega arith) in
          record {
            lead = rw w.lead-is (omega arith);
            short = rw w.text-is (omega (arith, w.push_count.ensures.short));
            whole = rw (w.text-is, w.lead-is, w.rest-is, w.push_count.ensures.text) (appended _ _ _ _ _ taken c.loop-unit.invariant.whole);
          })
      | else-rest-size w ↦
          (let skipped = led_skipped c.loop-unit.lead.now c.args.units.now c.loop-unit.unit-index _ c.micros-size.result c.loop-unit.rest (omega arith) c.micros-size.ensures.value (omega arith) in
          record {
            lead = rw w.lead-is c.loop-unit.invariant.lead;
            short = rw w.text-is (omega arith);
            whole = rw (w.text-is, w.lead-is, w.rest-is) (ap (λ left. c.loop-unit.text.items ++ left) (sym skipped) ∙ c.loop-unit.invariant.whole);
          })
    ]

pub returns-clause-text : goal.returns-clause-text
returns-clause-text c =
    let nothing = drop_all c.loop-unit.unit-index c.args.units.now c.loop-unit-test.false in
    sym (ap (λ units. c.loop-unit.text.items ++ led c.loop-unit.lead.now (positive (counts_of units c.loop-unit.rest))) nothing ∙ append-nil c.loop-unit.text.items) ∙ c.loop-unit.invariant.whole
