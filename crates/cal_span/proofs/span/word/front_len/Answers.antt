use Rattle.std.proofs.Common.{rules, ◌≡◌, length, take, drop, ◌-◌, ◌++◌, arith, sym, ap, ◌∙◌}
use denote.Enum.Bare.{differs_false}
use Rattle.std.proofs.lemmas.List.{take_rest, append_assoc, length-drop}
use Rattle.std.proofs.Math.Seq.{take-add}
use Rattle.cal_span.specs.contracts.span.word.CharKind.{the_type}
use Rattle.cal_span.proofs.SpanWords.{front_more, after_more}
use Rattle.cal_span.proofs.span.word.front_len.Goals as goal

pub loop-found-preserved : goal.loop-found-preserved
loop-found-preserved c =
    let bytes = c.args.bytes.now in
    let rest = take (length bytes - c.loop-found.len) (drop c.loop-found.len bytes) in
    let at : rest ≡ drop c.loop-found.len bytes = take_rest bytes c.loop-found.len in
    let same : c.in-Some.found ≡ c.args.kind = differs_false the_type (search rules) _ _ (sym c.if-ne.ensures) in
    let first = rw same at c.in-Some.ensures.0 in
    record {
      in_range = omega (arith, ap length at, length-drop c.loop-found.len bytes, c.in-Some.ensures.2);
      front = rw take-add (rw append_assoc (c.loop-found.invariant.front ∙ ap (λ s. take c.loop-found.len bytes ++ s) (front_more _ bytes _ _ rest at first)));
      rest = c.loop-found.invariant.rest ∙ after_more _ bytes _ _ rest at first;
    }
