use Rattle.std.proofs.Common.{◌≡◌, ◌-◌, ◌∙◌, ap, arith, refl, sym, take, is_ok, true}
use Rattle.cal_spec.specs.computed.Expr.{expr_in}
use Rattle.cal_spec.proofs.FaultSpanLemmas.{accepted_before, accepted_up_to, trimmed_valid}
use Rattle.cal_spec.proofs.fault_word.fault_span.Goals as goal

pub returns-then-not-branch-clause-first : goal.returns-then-not-branch-clause-first
returns-then-not-branch-clause-first c =
    let text = c.args.text.now in
    let word = rw c.as_bytes.ensures.value at c.in-Some.ensures.word in
    accepted_before (λ end. is_ok (expr_in (take end text)) ≡ true) text c.loop-word.from c.in-Some.word.start c.in-Some.word.end
    word.2 word.3 word.4 c.loop-word.invariant.accepted

pub loop-word-preserved : goal.loop-word-preserved
loop-word-preserved c =
    let text = c.args.text.now in
    let word = rw c.as_bytes.ensures.value at c.in-Some.ensures.word in
    let valid : is_ok (expr_in (take c.in-Some.word.end text)) ≡ true = ap (λ t. is_ok (expr_in t)) (sym c.text_until.ensures) ∙ sym c.in_ok-is_valid-2.ensures ∙ c.if-not-branch.false in
    record {
      within = word.2;
      accepted = accepted_up_to (λ end. is_ok (expr_in (take end text)) ≡ true) text c.loop-word.from c.in-Some.word.start c.in-Some.word.end
          word.2 word.3 word.4 c.loop-word.invariant.accepted valid;
      solid = λ some. word.4 (c.in-Some.word.end - 1) (omega (arith, word.0)) (omega (arith, word.0));
      valid = λ _. valid;
      blank = λ _. word.5;
    }

pub returns-clause-none : goal.returns-clause-none
returns-clause-none c =
    let text = c.args.text.now in
    let none = rw c.as_bytes.ensures.value at c.in_default.ensures.none in
    trimmed_valid (λ t. is_ok (expr_in t)) text c.loop-word.from c.loop-word.invariant.within (none refl) c.loop-word.invariant.solid c.loop-word.invariant.valid
