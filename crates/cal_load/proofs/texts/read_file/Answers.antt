use Rattle.std.proofs.Common.{◌≤◌, arith, length}
use Rattle.std.specs.Str.Lines.{lines}
use Rattle.cal_load.proofs.PositionLemmas.{lines_fit}
use Rattle.cal_load.proofs.texts.read_file.Goals as goal

pub overflow_cast-result : goal.overflow_cast-result
overflow_cast-result c =
    let fit : length (lines c.as_slice-bytes.result.now) ≤ length c.as_slice-bytes.result.now = lines_fit c.as_slice-bytes.result.now in
    omega (arith, c.line_count.ensures)

pub overflow_add-result : goal.overflow_add-result
overflow_add-result c =
    let fit : length (lines c.as_slice-bytes.result.now) ≤ length c.as_slice-bytes.result.now = lines_fit c.as_slice-bytes.result.now in
    omega (arith, c.line_count.ensures)
