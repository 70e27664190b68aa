use Rattle.std.proofs.Common.{◌∙◌, sym}
use Rattle.cal_load.proofs.ReadableLemmas.{bad_header, too_long, unbroken, unclean}
use Rattle.cal_load.proofs.readable.broken_reason.Goals as goal

pub returns-then-not-is_clean : goal.returns-then-not-is_clean
returns-then-not-is_clean c = sym (unclean c.args.line.now (sym c.is_clean.ensures ∙ c.if-not-is_clean.true))

pub returns-then-is_bad_header : goal.returns-then-is_bad_header
returns-then-is_bad_header c =
    sym (bad_header c.args.line.now (sym c.is_clean.ensures ∙ c.if-not-is_clean.false) (sym c.is_bad_header.ensures ∙ c.if-is_bad_header.true))

pub returns-then-line-ge-LINE_LIMIT : goal.returns-then-line-ge-LINE_LIMIT
returns-then-line-ge-LINE_LIMIT c =
    sym (too_long c.args.line.now (sym c.is_clean.ensures ∙ c.if-not-is_clean.false) (sym c.is_bad_header.ensures ∙ c.if-is_bad_header.false) c.if-line-ge-LINE_LIMIT.true)

pub returns : goal.returns
returns c =
    sym (unbroken c.args.line.now (sym c.is_clean.ensures ∙ c.if-not-is_clean.false) (sym c.is_bad_header.ensures ∙ c.if-is_bad_header.false) c.if-line-ge-LINE_LIMIT.false)
