-- Which assignments of a timer file are its expressions (systemd.timer(5), OnCalendar=), and which are its exceptions
-- (`X-ExceptOnCalendar=`, this project's own key). When an exception elapses, the timer doesn't. Each list has the
-- assignments of its kind after the last assignment that clears the list.
use Rattle.std.specs.Prelude.{ℕ, ◌==◌, nat_eq, Bool, not, ◌&&◌, if◌then◌else◌, List, [], ◌∷◌, length, filter, drop}
use Rattle.std.specs.List.{after_last, starts_with}
use Rattle.cal_timer.specs.rules.Assignments.{Assignment}
use Rattle.cal_timer.specs.rules.Keys.{clears_expressions, is_calendar_trigger, is_exception_key, kind_of}

abbrev pub has_no_value : Assignment → Bool
has_no_value a = length a.value == 0

-- whether the assignment clears the list of expressions: `OnCalendar` or a monotonic timer, without a value
unfoldable pub is_reset : Assignment → Bool
is_reset a = has_no_value a && clears_expressions (kind_of a.key)

-- whether the assignment is an expression: `OnCalendar` with a value
unfoldable pub is_expression : Assignment → Bool
is_expression a = not (has_no_value a) && is_calendar_trigger (kind_of a.key)

-- whether the assignment clears the list of exceptions: `X-ExceptOnCalendar` without a value
unfoldable pub is_exception_reset : Assignment → Bool
is_exception_reset a = has_no_value a && is_exception_key (kind_of a.key)

-- whether the assignment is an exception: `X-ExceptOnCalendar` with a value
unfoldable pub is_exception : Assignment → Bool
is_exception a = not (has_no_value a) && is_exception_key (kind_of a.key)

-- the assignments in the list of expressions: the expressions after the last assignment that clears the list
unfoldable pub listed : List Assignment → List Assignment
listed assignments = filter is_expression (after_last is_reset assignments)

-- the assignments in the list of exceptions: the exceptions after the last assignment that clears the list
unfoldable pub excepted : List Assignment → List Assignment
excepted assignments = filter is_exception (after_last is_exception_reset assignments)

-- the maximum number of entries in the list of expressions, and in the list of exceptions
abbrev pub max_expressions : ℕ
max_expressions = 256

-- the bytes of the byte order mark, U+FEFF
abbrev pub byte_order_mark : List ℕ
byte_order_mark = 239 ∷ 187 ∷ 191 ∷ []

-- the text without the byte order mark at its start, if there is one
unfoldable pub without_mark : List ℕ → List ℕ
without_mark text = if starts_with nat_eq text byte_order_mark then drop 3 text else text
