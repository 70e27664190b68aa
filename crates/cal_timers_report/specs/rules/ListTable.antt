-- The report of `list` as text: a table of units.
use Rattle.std.specs.Prelude.{ℕ, ◌-◌, ◌==◌, nat_le, max, ℤ, List, [], ◌++◌, Option, Some, None, codes, length, map, string_bytes, if◌then◌else◌}
use Rattle.std.specs.List.{flat_map, join_by}
use Rattle.cal_zone.specs.declared.zone.Zone.{Zone}
use Rattle.cal_zone.specs.rules.InstantText.{instant_text}
use Rattle.cal_timers_report.specs.declared.list.Row.{Row}
use Rattle.cal_timers_report.specs.declared.list.Widths.{Widths}
use Rattle.cal_timers_report.specs.declared.style.Style.{Style}
use Rattle.cal_timers_report.specs.declared.style.Emphasis.TheVariants.{Heading}
use Rattle.cal_timers_report.specs.rules.Columns.{cut, padded, text_width, widest}
use Rattle.cal_timers_report.specs.rules.Emphasis.{begin_text, end_text}
use Rattle.cal_timers_report.specs.rules.PrintableText.{printable_text}
use Rattle.cal_timers_report.specs.rules.ReportView.{UnitView}
use Rattle.cal_timers_report.specs.rules.TimeLeft.{time_left}

-- ## Rows

-- the texts of a row; `notes` is empty for a unit without notes
pub record RowView : Type 0 where
  pub next : List ℕ
  pub left : List ℕ
  pub unit : List ℕ
  pub notes : List ℕ

abbrev pub row_seen : Row → RowView
row_seen row = record {
  next = string_bytes row.next;
  left = string_bytes row.left;
  unit = string_bytes row.unit;
  notes = string_bytes row.notes;
}

-- the next elapse, or `-` if there is none
abbrev pub next_cell : Zone → Option ℤ → List ℕ
next_cell zone None = codes "-"
next_cell zone (Some secs) = instant_text zone secs

-- how long it is until the next elapse, or `-` if there is none
abbrev pub left_cell : ℤ → Option ℤ → List ℕ
left_cell now None = codes "-"
left_cell now (Some secs) = time_left now secs

-- the notes, with two blanks between them
abbrev pub notes_cell : List (List ℕ) → List ℕ
notes_cell = join_by printable_text (codes "  ")

abbrev pub row_of : Zone → ℤ → UnitView → RowView
row_of zone now unit = record {
  next = next_cell zone unit.next;
  left = left_cell now unit.next;
  unit = printable_text unit.unit;
  notes = notes_cell unit.notes;
}

-- the heading of the column of notes, which is left out if the column is empty
abbrev pub notes_heading : ℕ → List ℕ
notes_heading width = if width == 0 then [] else codes "NOTES"

-- the headings of the columns, above these rows
abbrev pub headings_of : List RowView → RowView
headings_of rows = record {
  next = codes "NEXT";
  left = codes "LEFT";
  unit = codes "UNIT";
  notes = notes_heading (widest (λ row. text_width row.notes) rows);
}

-- ## Widths

-- the number of blanks between columns
abbrev pub gap : ℕ
gap = 2

-- the least room for notes: the width of `fails to load`, the longest note that is neither a setting nor
-- `exceptions ignored by systemd`
abbrev pub least_notes_room : ℕ
least_notes_room = 13

-- what is left of the width of a terminal after the columns of next elapses and of the time until then
abbrev pub room_after : ℕ → ℕ → ℕ → ℕ
room_after terminal next left = (((terminal - next) - gap) - left) - gap

-- the width that the unit of a row needs in its column, or 0 if the unit is wider than `room`
abbrev pub width_in : ℕ → List ℕ → ℕ
width_in room unit = if nat_le (text_width unit) room then text_width unit else 0

-- the width of the column of units if there is this much room for units and notes: a unit that leaves too little room
-- for notes doesn't widen the column
abbrev pub unit_width : ℕ → List RowView → ℕ
unit_width room rows = max (text_width (codes "UNIT")) (widest (λ row. width_in ((room - gap) - least_notes_room) row.unit) rows)

-- a column is as wide as the widest of its heading and its cells, except for the column of units (`unit_width`)
abbrev pub widths_of : ℕ → List RowView → Widths
widths_of terminal rows =
    let next = max (text_width (codes "NEXT")) (widest (λ row. text_width row.next) rows) in
    let left = max (text_width (codes "LEFT")) (widest (λ row. text_width row.left) rows) in
    record { terminal = terminal; next = next; left = left; unit = unit_width (room_after terminal next left) rows }

-- ## Lines

-- the room for the notes after this unit: what is left of the width of the terminal, but at least `least_notes_room`
abbrev pub notes_room : Widths → List ℕ → ℕ
notes_room widths unit =
    max least_notes_room ((room_after widths.terminal widths.next widths.left - max widths.unit (text_width unit)) - gap)

-- the unit and, if it has notes, its notes after it, cut to the room for notes
abbrev pub unit_and_notes : Widths → List ℕ → List ℕ → List ℕ
unit_and_notes widths unit notes =
    if length notes == 0 then unit
    else padded widths.unit unit ++ (codes "  " ++ cut (notes_room widths unit) notes)

-- the cells of a row, each but the last filled up to the width of its column, with two blanks between them
abbrev pub cells_text : Widths → RowView → List ℕ
cells_text widths row =
    padded widths.next row.next
    ++ (codes "  " ++ (padded widths.left row.left ++ (codes "  " ++ unit_and_notes widths row.unit row.notes)))

abbrev pub row_line : Widths → RowView → List ℕ
row_line widths row = cells_text widths row ++ codes "\n"

-- the line of headings, which is emphasized
abbrev pub heading_line : Style → Widths → RowView → List ℕ
heading_line style widths row = begin_text style Heading ++ (cells_text widths row ++ (end_text style ++ codes "\n"))

-- the line of headings, and a line for each row
abbrev pub lines_of : Style → List RowView → List ℕ
lines_of style rows =
    heading_line style (widths_of style.width rows) (headings_of rows) ++ flat_map (row_line (widths_of style.width rows)) rows

-- a table, or `no timers` if there are no rows
abbrev pub table_of : Style → List RowView → List ℕ
table_of style rows = if length rows == 0 then codes "no timers\n" else lines_of style rows

abbrev pub list_table : Style → Zone → ℤ → List UnitView → List ℕ
list_table style zone now units = table_of style (map (row_of zone now) units)
