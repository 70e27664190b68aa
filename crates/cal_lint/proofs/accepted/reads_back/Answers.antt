use Rattle.std.proofs.Common.{◌∙◌, Ok, ap}
use Rattle.cal_bytes.specs.rules.AndThen.{◌>>=◌}
use Rattle.cal_spec.specs.computed.Expr.{expr_in}
use Rattle.cal_spec.specs.computed.NormalParts.{normal_fields}
use Rattle.cal_lint.proofs.accepted.reads_back.Goals as goal

pub returns : goal.returns
unfolding expr_in
returns c =
    ap (λ read. read >>= λ f. Ok (normal_fields f)) (c.normal_texts_read_back.ensures.expression c.args.expr.now c.weekdays-weekdays.ensures.expr)
    ∙ ap Ok c.weekdays-weekdays.ensures.expr.normal
