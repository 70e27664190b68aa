-- The lines of a unit file: systemd.syntax(7). They are found in four steps, each of which goes through the whole file:
-- first the physical lines, then those that are not comments, then the groups of continued lines, and then the logical
-- lines.
use Rattle.std.specs.Prelude.{ℕ, ◌+◌, ◌-◌, ◌%◌, ◌==◌, Bool, not, ◌||◌, if◌then◌else◌, List, [], ◌∷◌, ◌++◌, length, map, filter, take, slice_index}
use Rattle.std.specs.List.{flat_map, suffix_len}
use Rattle.std.specs.Str.Lines.{lines}
use Rattle.cal_bytes.specs.rules.Trim.{trim_start_matches}
use Rattle.cal_bytes.specs.rules.Separators.{is_blank}

-- a space, a tab or a carriage return
abbrev pub is_blank_or_return : ℕ → Bool
is_blank_or_return b = is_blank b || (b == 13)

-- a line and its number in the file; the number of a logical line is that of its first physical line
pub record Line : Type 0 where
  pub number : ℕ
  pub text : List ℕ

-- the lines with consecutive numbers, beginning with `number`
abbrev pub numbered_lines : ℕ → List (List ℕ) → List Line
numbered_lines number [] = []
numbered_lines number (text ∷ texts) = record { number = number; text = text } ∷ numbered_lines (number + 1) texts

-- The physical lines of a text, numbered from `number` on. Each ends at a line feed or at the end of the text, and one
-- carriage return before a line feed is dropped. Leading blanks are dropped too, since no rule depends on them.
unfoldable pub physical_lines : ℕ → List ℕ → List Line
physical_lines number text = numbered_lines number (map (trim_start_matches is_blank_or_return) (lines text))

-- a comment begins with `#` or `;`
abbrev pub is_comment : List ℕ → Bool
is_comment text = (slice_index text 0 == 35) || (slice_index text 0 == 59)

-- the physical lines that are not comments
unfoldable pub plain_lines : ℕ → List ℕ → List Line
plain_lines number text = filter (λ line. not (is_comment line.text)) (physical_lines number text)

-- a line is continued if it ends in an odd number of backslashes
unfoldable pub is_continued : List ℕ → Bool
is_continued text = suffix_len (λ b. b == 92) text % 2 == 1

-- what a physical line contributes to its logical line: the line itself, with a space in place of its last backslash if
-- the line is continued
unfoldable pub part_of_line : List ℕ → List ℕ
part_of_line text = if is_continued text then take (length text - 1) text ++ (32 ∷ []) else text

-- the physical lines of one logical line
pub record Group : Type 0 where
  pub first : Line
  pub more : List Line

-- adds a continued line to the front of the first group; if there are no groups, the line is the last one, and it forms
-- a group of its own
abbrev pub continued_by : Line → List Group → List Group
continued_by line [] = record { first = line; more = [] } ∷ []
continued_by line (group ∷ groups) = record { first = line; more = group.first ∷ group.more } ∷ groups

-- the lines, divided into groups; each group ends at the first line that isn't continued, or at the end of the file
unfoldable pub groups : List Line → List Group
groups [] = []
groups (line ∷ lines) =
    if is_continued line.text then continued_by line (groups lines)
    else record { first = line; more = [] } ∷ groups lines

-- the logical line of a group, with the number of the group's first line
abbrev pub joined_line : Group → Line
joined_line group = record {
  number = group.first.number;
  text = part_of_line group.first.text ++ flat_map (λ line. part_of_line line.text) group.more;
}

-- the logical lines of a text whose first physical line has the number `number`
unfoldable pub logical_lines : ℕ → List ℕ → List Line
logical_lines number text = map joined_line (groups (plain_lines number text))
