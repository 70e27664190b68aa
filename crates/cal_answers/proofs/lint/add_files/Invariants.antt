-- the problems of the files before the loop's index have been added
use Rattle.std.proofs.Common.{take}
use Rattle.cal_answers.specs.rules.LintFiles.{AreProblemsOfFiles, HasAlso}
use Rattle.cal_answers.specs.rules.LintRows.{listed_in}
use Rattle.cal_answers.proofs.lint.add_files.Given as goal

abbrev pub invariant-loop-file : goal.invariant-loop-file
invariant-loop-file l =
    HasAlso (AreProblemsOfFiles l.style (take l.file-index l.files)) (listed_in l.fn.problems) (listed_in l.problems)
