-- The sections of a unit file, and what systemd does with the lines in them: systemd.syntax(7) and systemd.unit(5).
use Rattle.std.specs.Prelude.{ℕ, ◌==◌, nat_eq, nat_lt, Bool, false, true, not, ◌&&◌, ◌||◌, if◌then◌else◌, List, [], ◌∷◌, codes}
use Rattle.std.specs.List.{list_any, starts_with}
use Rattle.std.specs.Str.{bytes_eq}
use Rattle.cal_timer.specs.rules.Assignments.{is_header, section_of}
use Rattle.cal_timer.specs.rules.Lines.{Line}
use Rattle.cal_lint.specs.declared.sections.OpenSection.{OpenSection}
use Rattle.cal_lint.specs.declared.sections.OpenSection.TheVariants.{Known, Ignored}
use Rattle.cal_lint.specs.declared.sections.Section.TheVariants.{Unit, Timer, Install}

-- whether a section header can't have this byte: a control character, a quote or a backslash
abbrev pub is_bad_in_header : ℕ → Bool
is_bad_in_header b = nat_lt b 32 || (b == 34) || (b == 39) || (b == 92) || (b == 127)

-- whether a line that begins with `[` isn't a section header: it doesn't end with `]`, or it has a byte that a header
-- can't have
abbrev pub is_bad_header : List ℕ → Bool
is_bad_header text = not (is_header text) || list_any is_bad_in_header text

-- the section with this name; systemd knows three sections in timers, and ignores all others
abbrev pub section_named : List ℕ → OpenSection
section_named name =
    if bytes_eq name (codes "Unit") then Known Unit
    else (if bytes_eq name (codes "Timer") then Known Timer
    else (if bytes_eq name (codes "Install") then Known Install else Ignored))

abbrev pub is_ignored : OpenSection → Bool
is_ignored Ignored = true
is_ignored section = false

-- whether systemd warns about a section with this name: it ignores the section, and its name doesn't begin with `X-`
abbrev pub is_unknown_section : List ℕ → Bool
is_unknown_section name = is_ignored (section_named name) && not (starts_with nat_eq name (codes "X-"))

-- the section that is open after a line with this text, if `before` is the section that is open before it
abbrev pub section_after : OpenSection → List ℕ → OpenSection
section_after before text = if is_header text then section_named (section_of text) else before

-- a line, and the section that is open before it
pub record PlacedLine : Type 0 where
  pub section : OpenSection
  pub line : Line

-- the lines with their sections; the first line is in the section `before`
abbrev pub placed_lines : OpenSection → List Line → List PlacedLine
placed_lines before [] = []
placed_lines before (line ∷ lines) =
    record { section = before; line = line } ∷ placed_lines (section_after before line.text) lines
