-- The assignments of a unit file, in all of its sections with a given name (systemd.syntax(7)). The definitions here
-- are like `assignments_in`, which is only for the section `Timer`.
use Rattle.std.specs.Prelude.{ℕ, Bool, if◌then◌else◌, List, [], ◌∷◌, map, string_bytes}
use Rattle.std.specs.List.{filter_map}
use Rattle.std.specs.Str.{bytes_eq}
use Rattle.cal_timer.specs.rules.Lines.{Line}
use Rattle.cal_timer.specs.rules.Assignments.{Assignment, assignment_of, is_header, section_of, trimmed}
use Rattle.cal_read.specs.declared.section_assignments.OwnedAssignment.{OwnedAssignment}

-- the lines in the sections with this name, without their headers; `inside` says whether the lines before the first
-- header are in such a section
unfoldable pub section_lines : List ℕ → Bool → List Line → List Line
section_lines name inside [] = []
section_lines name inside (line ∷ lines) =
    if is_header line.text then section_lines name (bytes_eq (section_of line.text) name) lines
    else (if inside then line ∷ section_lines name inside lines else section_lines name inside lines)

-- the assignments in the sections with this name, in order
unfoldable pub section_assignments : List ℕ → Bool → List Line → List Assignment
section_assignments name inside lines = filter_map assignment_of (section_lines name inside (map trimmed lines))

-- how contracts see an assignment: the number of its line and the bytes of its key and value, without their addresses
-- in memory
abbrev pub shown_owned_assignment : OwnedAssignment → Assignment
shown_owned_assignment owned = record { number = owned.number; key = string_bytes owned.key; value = string_bytes owned.value }
