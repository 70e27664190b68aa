use Rattle.std.proofs.Common.{◌≡◌, ◌∙◌, ◌<◌, ◌≤◌, ◌+◌, ◌++◌, ℕ, List, [], ap, arith, false, length, length-append, subst, sym, string_bytes, take, true}
use Rattle.std.specs.Prelude.{◌==◌}
use Rattle.std.specs.List.{after_first, position_or_len}
use Rattle.std.proofs.lemmas.Bool.Decides.{nat_tests}
use Rattle.std.proofs.lemmas.List.{drop_all}
use Rattle.cal_timer.specs.rules.Lines.{logical_lines}
use Rattle.cal_load.specs.rules.Readable.{StandFor, is_readable, line_in_text}
use Rattle.cal_load.proofs.ReadableLemmas.{FirstLine, Reads, first_line, parts_long, reads_all, reads_cut, reads_line, reads_nothing, shorter_line}
use Rattle.cal_load.proofs.readable.readable_text.Goals as goal

pub loop-rest-init : goal.loop-rest-init
loop-rest-init c =
    let none : [] ≡ string_bytes c.new-text.result = sym c.new-text.ensures.bytes in
    record {
      stands = λ number. subst (λ text. Reads number c.args.bytes.now text c.args.bytes.now) none (reads_nothing number c.args.bytes.now);
      shorter = let long = ap length c.new-text.ensures.bytes in omega arith;
    }

-- `line` is the first line of `rest`, and `after` is what comes after it
line_of : (rest line after : List ℕ) → 0 < length rest → line ≡ take (position_or_len (λ b. b == 10) rest + 1) rest → after ≡ after_first (λ b. b == 10) rest → FirstLine rest line after
line_of rest line after some e f = rw (e, f) (first_line rest some)

-- after one more line was read, the text and the remaining bytes together are still at most as long as all bytes
room : (bytes text rest line after : List ℕ) → line ≡ take (position_or_len (λ b. b == 10) rest + 1) rest → after ≡ after_first (λ b. b == 10) rest → length text + length rest ≤ length bytes
    → length (text ++ line_in_text line) + length after ≤ length bytes
room bytes text rest line after e f h =
    let k = position_or_len (λ b. b == 10) rest + 1 in
    let parts : length line + length after ≡ length rest = rw (e, f) (parts_long k rest) in
    let shorter = shorter_line line in
    let long = length-append text (line_in_text line) in
    omega arith

pub loop-rest-preserved : goal.loop-rest-preserved
loop-rest-preserved c =
    let bytes = c.args.bytes.now in
    let rest = c.loop-rest.rest.now in
    let line = c.split_line.result.0.now in
    let after = c.split_line.result.1.now in
    let text = string_bytes c.loop-rest.text in
    let some : 0 < length rest = grind (arith, nat_tests, c.loop-rest-test.ensures) in
    let first = line_of rest line after some c.split_line.ensures.line c.split_line.ensures.after in
    let readable : is_readable line ≡ true = sym c.in_ok-push_line.ensures.goes_on ∙ c.if-not-branch.false in
    let pushed = sym c.in_ok-push_line.ensures.text in
    record {
      stands = λ number. subst (λ text. Reads number bytes text after) pushed (reads_line number bytes text rest line after some first readable (c.loop-rest.invariant.stands number));
      shorter = subst (λ text. length text + length after ≤ length bytes) pushed (room bytes text rest line after c.split_line.ensures.line c.split_line.ensures.after c.loop-rest.invariant.shorter);
    }

pub returns-then-not-branch-clause-stands : goal.returns-then-not-branch-clause-stands
returns-then-not-branch-clause-stands c =
    let bytes = c.args.bytes.now in
    let rest = c.loop-rest.rest.now in
    let line = c.split_line.result.0.now in
    let after = c.split_line.result.1.now in
    let text = string_bytes c.loop-rest.text in
    let some : 0 < length rest = grind (arith, nat_tests, c.loop-rest-test.ensures) in
    let first = line_of rest line after some c.split_line.ensures.line c.split_line.ensures.after in
    let unreadable : is_readable line ≡ false = sym c.in_ok-push_line.ensures.goes_on ∙ c.if-not-branch.true in
    λ number. subst (λ text. StandFor true (logical_lines number text) (logical_lines number bytes)) (sym c.in_ok-push_line.ensures.text)
    (reads_cut number bytes text rest line after some first unreadable (c.loop-rest.invariant.stands number))

pub returns-clause-stands : goal.returns-clause-stands
returns-clause-stands c =
    let bytes = c.args.bytes.now in
    let none : c.loop-rest.rest.now ≡ [] = drop_all 0 c.loop-rest.rest.now (grind (arith, nat_tests, c.loop-rest-test.ensures)) in
    λ number. reads_all number bytes (string_bytes c.loop-rest.text) (subst (λ rest. Reads number bytes (string_bytes c.loop-rest.text) rest) none (c.loop-rest.invariant.stands number))
