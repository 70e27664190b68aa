use Rattle.std.proofs.Common.{◌++◌, arith, codes}
use Rattle.cal_answers.proofs.ErrorLemmas.{strings_more}
use Rattle.cal_answers.proofs.remarks.push_folder_lines.Goals as goal

pub loop-folder-preserved : goal.loop-folder-preserved
loop-folder-preserved c =
    strings_more (λ part. part ++ codes ": no timers in this directory\n") c.args.folders.now c.loop-folder.folder-index c.folder-item.result _ _ _ _ (omega arith) c.folder-item.is
    c.as_str.ensures.value c.loop-folder.invariant c.in_ok-push_folder_line.ensures
