use Rattle.std.proofs.Common.{refl}
use Rattle.cal_lint.specs.rules.Columns.{value_column}
use Rattle.cal_lint.proofs.ColumnLemmas.{place_found, place_lacking}
use Rattle.cal_lint.proofs.columns.value_column.Goals as goal

pub returns-in-Some : goal.returns-in-Some
unfolding value_column
returns-in-Some c =
    let found = c.in-Some.ensures.cases in
    rw (place_found c.args.line.now c.args.value.now c.in-Some.start found.0 found.1 found.3.0) c.column_at.ensures

pub returns-in-None : goal.returns-in-None
unfolding value_column
returns-in-None c = rw (place_lacking c.args.line.now c.args.value.now c.in-None.ensures.cases) refl
