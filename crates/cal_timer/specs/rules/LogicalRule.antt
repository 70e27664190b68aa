-- The logical lines of a text as a relation: systemd.syntax(7). The relation doesn't use the functions of `Lines` that
-- compute the lines, but shares with them the tests for blanks, comments and continued lines.
use Rattle.std.specs.Prelude.{◌≡◌, ◌⊎◌, ◌+◌, ℕ, true, false, not, List, [], ◌∷◌, ◌++◌, filter}
use Rattle.std.specs.Str.Lines.{lines}
use Rattle.cal_bytes.specs.rules.TrimRule.{IsUnindented}
use Rattle.cal_timer.specs.rules.LineRule.{AreGroups, lines_of}
use Rattle.cal_timer.specs.rules.Lines.{Group, Line, is_blank_or_return, is_comment, is_continued}

-- `lines` are the physical lines with these texts, numbered consecutively from `number` on, without leading blanks
abbrev pub ArePhysical : ℕ → List (List ℕ) → List Line → Type 0
ArePhysical number [] [] = Unit {0}
ArePhysical number (text ∷ texts) (line ∷ lines) = (line.number ≡ number) × IsUnindented is_blank_or_return text line.text × ArePhysical (number + 1) texts lines
ArePhysical number [] (line ∷ lines) = ⊥
ArePhysical number (text ∷ texts) [] = ⊥

-- `text` ends in a backslash that continues the line, and `part` is `text` with a space in place of that backslash
pub record IsContinuedPart (text part : List ℕ) : Type 0 where
  pub continued : is_continued text ≡ true
  pub front : List ℕ
  pub line : text ≡ front ++ 92 ∷ []
  pub said : part ≡ front ++ 32 ∷ []

-- what a physical line contributes to its logical line; a line that isn't continued contributes all of its text
abbrev pub IsLinePart : List ℕ → List ℕ → Type 0
IsLinePart text part = ((is_continued text ≡ false) × (part ≡ text)) ⊎ IsContinuedPart text part

-- the text is the concatenation of what the lines contribute to their logical line
abbrev pub AreJoined : List Line → List ℕ → Type 0
AreJoined [] text = text ≡ []
AreJoined (line ∷ lines) text = (part : List ℕ) × (rest : List ℕ) × IsLinePart line.text part × AreJoined lines rest × (text ≡ part ++ rest)

-- `line` is the logical line of `group` and has the number of the group's first line
pub record IsLogical (group : Group) (line : Line) : Type 0 where
  pub number : line.number ≡ group.first.number
  pub text : AreJoined (group.first ∷ group.more) line.text

abbrev pub EachIsLogical : List Group → List Line → Type 0
EachIsLogical [] [] = Unit {0}
EachIsLogical (group ∷ groups) (line ∷ lines) = IsLogical group line × EachIsLogical groups lines
EachIsLogical [] (line ∷ lines) = ⊥
EachIsLogical (group ∷ groups) [] = ⊥

-- the logical lines of a text: its physical lines without comments, grouped by continuation and joined
pub record AreLogical (number : ℕ) (text : List ℕ) (logical : List Line) : Type 0 where
  pub physical : List Line
  pub are_physical : ArePhysical number (lines text) physical
  pub groups : List Group
  pub plain : lines_of groups ≡ filter (λ line. not (is_comment line.text)) physical
  pub are_groups : AreGroups groups
  pub each : EachIsLogical groups logical
