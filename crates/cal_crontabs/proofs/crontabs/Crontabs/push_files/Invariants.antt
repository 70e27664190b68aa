use Rattle.std.proofs.Common.{[], map, take}
use Rattle.cal_unit_index.specs.rules.Files.{shown_unit_text}
use Rattle.cal_crontabs.specs.rules.Crontabs.{AreAlso, crontab_of}
use Rattle.cal_crontabs.proofs.crontabs.Crontabs.push_files.Given as goal

-- the files before the loop's index have been added
abbrev pub invariant-loop-file : goal.invariant-loop-file
invariant-loop-file l = AreAlso (map crontab_of (map shown_unit_text (take l.file-index l.files))) [] l.fn.self l.self
