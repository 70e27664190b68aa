use Rattle.std.proofs.Common.{ap, arith}
use Rattle.std.specs.Option.{option_copied}
use Rattle.cal_bytes.proofs.PutLemmas.{put_cut, put_next}
use Rattle.cal_spec.specs.rules.ExprText.{row_text}
use Rattle.cal_spec.proofs.expr_text.put_rows.Goals as goal
use Rattle.cal_bytes.proofs.General.{item_first}

pub returns-in_err-put_row : goal.returns-in_err-put_row
returns-in_err-put_row g c =
    put_cut _ (item_first (λ row. row_text row.lead.now row.width (option_copied row.parts)) c.loop-row.row-index c.args.rows.now _ (omega arith) (ap (λ row. row_text row.lead.now row.width (option_copied row.parts)) c.row-item.is))
    c.from_residual.ensures.0 c.loop-row.invariant c.in_err-put_row.ensures

pub loop-row-preserved : goal.loop-row-preserved
loop-row-preserved g c =
    put_next (item_first (λ row. row_text row.lead.now row.width (option_copied row.parts)) c.loop-row.row-index c.args.rows.now _ (omega arith) (ap (λ row. row_text row.lead.now row.width (option_copied row.parts)) c.row-item.is))
    c.loop-row.invariant c.in_ok-put_row.ensures
