use Rattle.std.proofs.Common.{arith, ap, ◌∙◌, ◌-◌, length}
use Rattle.std.specs.List.{suffix_len}
use Rattle.cal_bytes.specs.rules.Separators.{is_blank}
use Rattle.cal_bytes.proofs.WordLemmas.{blank_ascii}
use Rattle.cal_bytes.proofs.words.trim_blanks_end.Goals as goal
use Rattle.cal_bytes.proofs.General.{boundary_at, end_boundary}

pub range-requires-clause-end_boundary : goal.range-requires-clause-end_boundary
range-requires-clause-end_boundary c =
    let text = c.args.text.now in
    let n = c.blanks_at_end.ensures.value ∙ ap (suffix_len is_blank) c.as_bytes.ensures.value in
    boundary_at text (length text - suffix_len is_blank text) (length text - c.blanks_at_end.result) (omega (arith, n)) (end_boundary is_blank text blank_ascii)
