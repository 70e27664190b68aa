use Rattle.std.proofs.Common.{◌≡◌, arith, sym, rules}
use denote.Enum.Bare.{differs_true, differs_false, same_true, same_false}
use Rattle.cal_span.specs.contracts.span.word.CharKind.{the_type}
use Rattle.cal_span.specs.declared.span.word.CharKind.TheVariants.{Numeric, Letter}
use Rattle.cal_span.proofs.SpanPairs.{stray_is, last_is, bare_is, unit_is, no_pair}
use Rattle.cal_span.proofs.span.value.first_pair.Goals as goal
use Rattle.cal_span.proofs.span.value.first_pair.Goals.{in_default-via-in-Some+else-eq, in_default-via-in_default}

pub returns-in_err-word : goal.returns-in_err-word
returns-in_err-word c = rw c.from_residual.ensures (no_pair _ c.in_err-word.ensures)

pub returns-then-ne : goal.returns-then-ne
returns-then-ne c =
    let found = c.in_ok-word.ensures in
    (stray_is _ _ _ _ found.0 (differs_true the_type _ _ (sym c.if-ne.ensures)), found.1)

pub returns-in-Some : goal.returns-in-Some
returns-in-Some c =
    let found = c.in_ok-word.ensures in
    let numeric : c.in_ok-word.word.kind ≡ Numeric = differs_false the_type (search rules) _ _ (sym c.if-ne.ensures) in
    let letter : c.in-Some.unit.kind ≡ Letter = same_true the_type (search rules) _ _ (sym c.if-eq.ensures) in
    (unit_is _ _ _ _ _ (rw numeric at found.0) (rw letter at c.in-Some.ensures.0), omega (arith, found.1, c.in-Some.ensures.1))

pub returns-in_default : goal.returns-in_default
returns-in_default c =
    let found = c.in_ok-word.ensures in
    let numeric : c.in_ok-word.word.kind ≡ Numeric = differs_false the_type (search rules) _ _ (sym c.if-ne.ensures) in (
      elim c.in_default.branch [
        | in_default-via-in-Some+else-eq w ↦ bare_is _ _ _ _ _ _ (rw numeric at found.0) w.in-Some.ensures.0 (same_false the_type _ _ (sym w.if-eq.ensures))
        | in_default-via-in_default w ↦ last_is _ _ _ (rw numeric at found.0) w.in_default.ensures
      ],
      found.1,
    )
