use Rattle.std.proofs.Common.{◌≡◌, ◌+◌, ◌<◌, length, false, arith, sym, ◌&&◌}
use Rattle.std.specs.List.{list_all}
use Rattle.std.specs.Char.{is_ascii_digit}
use Rattle.std.proofs.lemmas.Bool.{and_left, and_right, eqb-true}
use Rattle.std.proofs.lemmas.Bool.Decides.{nat_tests}
use Rattle.cal_span.proofs.SpanNumbers.{is_number_from_parts, no_number_from_empty, no_number_from_parts}
use Rattle.cal_span.proofs.span.number.Number.new.Goals as goal
use Rattle.cal_span.proofs.span.number.Number.new.Goals.{then-not-are_digits-via-then-not-are_digits, then-not-are_digits-via-else-not-are_digits+then-not-are_digits-2, else-is_empty-via-then-is_empty+else-is_empty-2, else-is_empty-via-else-is_empty}

pub returns-then-not-are_digits : goal.returns-then-not-are_digits
returns-then-not-are_digits c =
    let split = c.split_at_point.ensures in
    let some_other : (list_all is_ascii_digit c.split_at_point.result.0.now && list_all is_ascii_digit c.split_at_point.result.1.now) ≡ false = elim c.then-not-are_digits.branch [
      | then-not-are_digits-via-then-not-are_digits w ↦ and_left _ _ (sym w.if-not-are_digits.ensures)
      | then-not-are_digits-via-else-not-are_digits+then-not-are_digits-2 w ↦ and_right _ _ (sym w.if-not-are_digits-2.ensures)
    ] in
    no_number_from_parts _ _ _ split.before split.after some_other

pub returns-then-is_empty-2 : goal.returns-then-is_empty-2
returns-then-is_empty-2 c =
    let split = c.split_at_point.ensures in
    no_number_from_empty _ _ _ split.before split.after (eqb-true _ 0 (sym c.if-is_empty.ensures)) (eqb-true _ 0 (sym c.if-is_empty-2.ensures))

pub returns : goal.returns
returns c =
    let split = c.split_at_point.ensures in
    let some : 0 < length c.split_at_point.result.0.now + length c.split_at_point.result.1.now = elim c.else-is_empty.branch [
      | else-is_empty-via-then-is_empty+else-is_empty-2 w ↦ grind (arith, nat_tests, w.if-is_empty-2.ensures)
      | else-is_empty-via-else-is_empty w ↦ grind (arith, nat_tests, w.if-is_empty.ensures)
    ] in (
      is_number_from_parts _ _ _ split.before split.after (sym c.if-not-are_digits.ensures) (sym c.if-not-are_digits-2.ensures) some,
      split.before,
      split.after,
    )
