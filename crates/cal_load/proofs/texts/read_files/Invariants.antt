-- What was found in the files so far, followed by what is found in the remaining files, is what is found in all files.
-- The number of each file's first line is one more than the number of lines before it.
use Rattle.std.proofs.Common.{◌≡◌, ◌+◌, ◌<◌, ◌++◌, ℕ, drop, get_or, length, map, take}
use Rattle.cal_read.specs.rules.SectionAssignments.{shown_owned_assignment}
use Rattle.cal_unit_index.specs.rules.Files.{shown_unit_text}
use Rattle.cal_load.specs.rules.Loaded.{assignments_from, assignments_of_files, broken_from, broken_of_files, bytes_in}
use Rattle.cal_load.specs.rules.Position.{total_lines}
use Rattle.cal_load.proofs.texts.read_files.Given as goal

abbrev pub invariant-loop-file : goal.invariant-loop-file
invariant-loop-file l = record {
  assignments : map shown_owned_assignment l.read.assignments.items ++ assignments_from l.first (bytes_in (map shown_unit_text (drop l.file-index l.files)))
      ≡ assignments_of_files (map shown_unit_text l.files);
  broken : l.read.broken.items ++ broken_from l.first (bytes_in (map shown_unit_text (drop l.file-index l.files)))
      ≡ broken_of_files (map shown_unit_text l.files);
  count : length l.read.first_lines.items ≡ l.file-index;
  next : l.first ≡ total_lines (take l.file-index (map shown_unit_text l.files)) + 1;
  numbers : (k : ℕ) → k < l.file-index
      → get_or l.read.first_lines.items k 0 ≡ total_lines (take k (map shown_unit_text l.files)) + 1;
}
