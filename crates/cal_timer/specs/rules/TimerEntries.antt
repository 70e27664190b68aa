-- The result for a timer file: its first error, or its lists of expressions (systemd.timer(5), OnCalendar=) and of
-- exceptions.
use Rattle.std.specs.Prelude.{ℕ, ◌+◌, ◌==◌, nat_le, false, if◌then◌else◌, List, [], ◌∷◌, ◌++◌, length, take, Option, None, Some, Result, Ok, Err, count_by}
use Rattle.std.specs.List.{filter_map}
use Rattle.std.specs.Option.{option_or}
use Rattle.std.specs.Str.{is_utf8}
use Rattle.std.specs.Str.Lossy.{utf8_valid_len}
use Rattle.cal_timer.specs.rules.Assignments.{Assignment, assignments_in}
use Rattle.cal_timer.specs.rules.Lines.{logical_lines}
use Rattle.cal_bytes.specs.rules.Whole.{GivesAll, IsWholeFault}
use Rattle.cal_bytes.specs.declared.whole.WholeFault.{WholeFault}
use Rattle.cal_spec.specs.declared.spec_fault.SpecFault.{SpecFault}
use Rattle.cal_timer.specs.declared.fault.TimerFault.{TimerFault}
use Rattle.cal_timer.specs.declared.fault.TimerFault.TheVariants.{ReadFailed, TooLarge, NotUtf8, BadLine, TooMany, NothingToDo, NoMemory}
use Rattle.cal_timer.specs.rules.TimerText.{excepted, is_exception, is_expression, listed, max_expressions, without_mark}
use Rattle.cal_bytes.specs.declared.whole.WholeFault.TheVariants as whole

-- an entry of the list of expressions or of exceptions: the number of its line, its text, and the parsed expression
pub record TimerLine (E : Type 0) : Type 0 where
  pub number : ℕ
  pub text : List ℕ
  pub expr : E

-- the error of a line, if it has one, given the result of parsing the expression in the line
abbrev pub bad_line : {E : Type 0} → ℕ → Result E SpecFault → Option TimerFault
bad_line number (Ok expr) = None
bad_line number (Err fault) = Some (BadLine number fault)

-- The error of the assignment `a`, which adds an entry to `list`. If the list is full, the error is `TooMany`, and the
-- expression of `a` isn't parsed. Otherwise the expression is parsed, even if a later assignment clears the list.
unfoldable pub fault_joining : {E : Type 0} → (List ℕ → Result E SpecFault) → List Assignment → Assignment → Option TimerFault
fault_joining read list a =
    if nat_le max_expressions (length list) then Some (TooMany a.number) else bad_line a.number (read a.value)

-- the error of the assignment `a`, which comes after those in `before`; a list is full if `max_expressions` entries
-- have been added to it since it was last cleared
unfoldable pub fault_following : {E : Type 0} → (List ℕ → Result E SpecFault) → List Assignment → Assignment → Option TimerFault
fault_following read before a =
    if is_expression a then fault_joining read (listed before) a
    else (if is_exception a then fault_joining read (excepted before) a else None)

-- the first error among the assignments that come after those in `before`
unfoldable pub first_fault : {E : Type 0} → (List ℕ → Result E SpecFault) → List Assignment → List Assignment → Option TimerFault
first_fault read before [] = None
first_fault read before (a ∷ after) = option_or (fault_following read before a) (first_fault read (before ++ a ∷ []) after)

-- the entry of an assignment, given the result of parsing its expression
abbrev pub entry_of : {E : Type 0} → Assignment → Result E SpecFault → Option (TimerLine E)
entry_of a (Ok expr) = Some (record { number = a.number; text = a.value; expr = expr })
entry_of a (Err fault) = None

-- the entries of the assignments in `list`; an assignment with an invalid expression has no entry
abbrev pub entries_of : {E : Type 0} → (List ℕ → Result E SpecFault) → List Assignment → List (TimerLine E)
entries_of read list = filter_map (λ a. entry_of a (read a.value)) list

-- the contents of a timer file: its expressions and its exceptions, both in the order of the file
pub record Timer (E : Type 0) : Type 0 where
  pub expressions : List (TimerLine E)
  pub exceptions : List (TimerLine E)

-- the entries of the list of expressions and of the list of exceptions, after all assignments
unfoldable pub entries : {E : Type 0} → (List ℕ → Result E SpecFault) → List Assignment → Timer E
entries read assignments = record {
  expressions = entries_of read (listed assignments);
  exceptions = entries_of read (excepted assignments);
}

-- the lists of expressions and exceptions, or `NothingToDo` if there is no expression, even if there are exceptions
abbrev pub some_expressions : {E : Type 0} → List (TimerLine E) → List (TimerLine E) → Result (Timer E) TimerFault
some_expressions [] exceptions = Err NothingToDo
some_expressions (e ∷ es) exceptions = Ok (record { expressions = e ∷ es; exceptions = exceptions })

abbrev pub some_entries : {E : Type 0} → Timer E → Result (Timer E) TimerFault
some_entries lists = some_expressions lists.expressions lists.exceptions

abbrev pub unless_fault : {A : Type 0} → Option TimerFault → Result A TimerFault → Result A TimerFault
unless_fault None result = result
unless_fault (Some fault) result = Err fault

-- the lists of expressions and exceptions after all assignments, or the first error
unfoldable pub lists_of : {E : Type 0} → (List ℕ → Result E SpecFault) → List Assignment → Result (Timer E) TimerFault
lists_of read assignments = unless_fault (first_fault read [] assignments) (some_entries (entries read assignments))

-- the lists of expressions and exceptions of a file with this text, or the error of the file
unfoldable pub timer_of : {E : Type 0} → (List ℕ → Result E SpecFault) → List ℕ → Result (Timer E) TimerFault
timer_of read text = lists_of read (assignments_in false (logical_lines 1 (without_mark text)))

-- the number of the physical line that contains the first byte that isn't valid UTF-8
unfoldable pub broken_line : List ℕ → ℕ
broken_line bytes = count_by (λ b. b == 10) (take (utf8_valid_len bytes) bytes) + 1

-- the lists of expressions and exceptions of a file with these bytes, or the error of the file
unfoldable pub timer_in : {E : Type 0} → (List ℕ → Result E SpecFault) → List ℕ → Result (Timer E) TimerFault
timer_in read bytes = if is_utf8 bytes then timer_of read bytes else Err (NotUtf8 (broken_line bytes))

-- the error for an input that could not be read to its end
abbrev pub input_fault : WholeFault → TimerFault
input_fault whole.ReadFailed = ReadFailed
input_fault whole.TooLarge = TooLarge
input_fault whole.NoMemory = NoMemory

-- the lists of expressions and exceptions of a file, or the error of the file, given the result of reading its bytes
abbrev pub timer_text : {E : Type 0} → (List ℕ → Result E SpecFault) → Result (List ℕ) WholeFault → Result (Timer E) TimerFault
timer_text read (Ok bytes) = timer_in read bytes
timer_text read (Err fault) = Err (input_fault fault)

-- the maximum size of a timer file, in bytes
abbrev pub timer_file_limit : ℕ
timer_file_limit = 1_048_576

-- the result of reading an input to its end: all bytes that were left to read, or an error; `old` and `new` are the
-- bytes that are left before and after reading, if they are known, and `limit` is the maximum number of bytes
abbrev pub ReadsWhole : Option (List ℕ) → Option (List ℕ) → ℕ → Result (List ℕ) WholeFault → Type 0
ReadsWhole old new limit (Ok bytes) = GivesAll old new limit bytes
ReadsWhole old new limit (Err fault) = IsWholeFault old new limit fault

-- the entries of both lists, or the first error; unlike in `lists_of`, it is not an error if the list of expressions is
-- empty
unfoldable pub entries_or_fault : {E : Type 0} → (List ℕ → Result E SpecFault) → List Assignment → Result (Timer E) TimerFault
entries_or_fault read assignments = unless_fault (first_fault read [] assignments) (Ok (entries read assignments))
