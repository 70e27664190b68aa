use Rattle.std.proofs.Common.{◌∙◌, ap, arith}
use Rattle.std.specs.Str.Lossy.{utf8_lossy}
use Rattle.cal_answers.proofs.LintFileLemmas.{file_as, no_files, one_file_more}
use Rattle.cal_answers.proofs.lint.add_files.Goals as goal

pub loop-file-init : goal.loop-file-init
loop-file-init c = no_files c.args.style _

pub loop-file-preserved : goal.loop-file-preserved
loop-file-preserved c =
    one_file_more c.args.style c.args.files.now c.loop-file.file-index c.file-item.result _ _ _ (omega arith) c.file-item.is c.loop-file.invariant
    (file_as c.args.style c.file-item.result _ _ _ _ c.as_str.ensures.value
    (c.as_str-in-loop-file.ensures.value ∙ c.in_ok-text.ensures.lossy ∙ ap utf8_lossy c.as_slice.ensures.value) c.in_ok-add_file.ensures)
