-- The writer hasn't failed, and what is still to be written is the text of the components in `rows` from the loop's
-- index on.
use Rattle.std.proofs.Common.{drop}
use Rattle.std.specs.List.{flat_map}
use Rattle.std.specs.Option.{option_copied}
use Rattle.cal_bytes.proofs.PutLemmas.{PutsUpTo}
use Rattle.cal_spec.specs.rules.ExprText.{row_text}
use Rattle.cal_spec.proofs.expr_text.put_rows.Given as goal

abbrev pub invariant-loop-row : goal.invariant-loop-row
invariant-loop-row g l =
    PutsUpTo g.W.Sink l.fn.out l.out (flat_map (λ row. row_text row.lead.now row.width (option_copied row.parts)) (drop l.row-index l.rows))
    (flat_map (λ row. row_text row.lead.now row.width (option_copied row.parts)) l.fn.rows)
