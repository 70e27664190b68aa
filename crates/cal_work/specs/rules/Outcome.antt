-- The outcome of the program's work: a report, or a stop, which is what is reported if the work ends before the run.
-- The outcome depends on a world: the parsed arguments, the files, the zones read from them, and the clock.
use Rattle.std.specs.Prelude.{ℕ, ℤ, pos, not, ◌&&◌, int_lt, List, [], ◌∷◌, Option, None, Some, is_some, Result, Ok, Err, if◌then◌else◌}
use Rattle.std.specs.FinMap.{insert, empty}
use Rattle.jiff.specs.Types.{TimeZone}
use Rattle.jiff.specs.Words.{read_whole as rule_read}
use Rattle.cal_zone.specs.rules.Instant.{last_instant}
use Rattle.cal_zone.specs.rules.Zone.{utc}
use Rattle.cal_zone.specs.rules.ZoneTable.{ZoneMap, zone_named}
use Rattle.cal_civil.specs.rules.ZoneName.{is_zone_name}
use Rattle.cal_zone.specs.rules.AddedZones.{is_taken}
use Rattle.cal_bytes.specs.declared.whole.WholeFault.{WholeFault}
use Rattle.cal_bytes.specs.declared.whole.WholeFault.TheVariants as whole
use Rattle.cal_zone.specs.declared.zone.Zone.{Zone as ClockZone}
use Rattle.cal_zone.specs.declared.zone_fault.ZoneFault.TheVariants.{BadName, BadFile, TooLarge, NoMemory, NameTaken}
use Rattle.cal_command.specs.rules.Ask.{Ask, ZoneItem}
use Rattle.cal_command.specs.rules.CommandFault.{CommandFault}
use Rattle.cal_report.specs.rules.RunReport.{file_report, texts_report}
use Rattle.cal_report.specs.rules.ReportLines.{Report}
use Rattle.cal_request.specs.rules.RequestKind.{RequestKind, for_file, for_texts, kind_of}
use Rattle.cal_request.specs.rules.Request.{Request}
use Rattle.cal_work.specs.rules.Stop.{Stop, command_stop, load_stop, rule_stop, name_stop, clock_stop, unopened_stop, memory_stop, exit_status}
use Rattle.cal_machine.specs.rules.Told.{Contents, Unopened}
use Rattle.cal_work.specs.rules.FileAnswer.{FileAnswer}
use Rattle.cal_zone.specs.declared.zone_files.LoadFault.{LoadFault}
use Rattle.cal_zone.specs.declared.zone_files.LoadFault.TheVariants.{ReadFailed, Zone}
use Rattle.cal_zone.specs.rules.ZoneArgument.{ZoneArgument, in_utc, at_offset, by_rule, of_name}
use Rattle.cal_request.specs.declared.request.RunFault.{RunFault}
use Rattle.cal_request.specs.declared.request.RunFault.TheVariants as run

-- what the program found in a zone file, and the zone that `jiff` reads from the file, if `jiff` accepts the file
pub record ZoneFound : Type 0 where
  pub answer : FileAnswer
  pub zone : Option TimeZone

-- Everything that the outcome depends on: the parsed arguments, what the program finds in each zone file (in the order
-- of the arguments), the local zone, the clock's time in seconds, and what the timer file holds.
pub record World : Type 0 where
  pub parsed : Result Ask CommandFault
  pub zones : List ZoneFound
  pub local : ClockZone
  pub clock : Option ℤ
  pub file : FileAnswer

-- the result of the step `next` if the step before it returned a value, and otherwise the stop of that step
abbrev pub and_then : {A B F : Type 0} → (A → Result B F) → Result A F → Result B F
and_then next (Ok value) = next value
and_then next (Err stop) = Err stop

-- ## The first step: loading the zone files

-- the table with the zone added, or an error if `jiff` rejects the file or the name is taken
abbrev pub with_zone : ZoneMap → List ℕ → Option TimeZone → Result ZoneMap LoadFault
with_zone table name None = Err (Zone BadFile)
with_zone table name (Some zone) = if is_taken table name then Err (Zone NameTaken) else Ok (insert table name zone)

-- `with_zone` if reading the file to its end gave its bytes, or why they can't be had
abbrev pub with_contents : ZoneMap → List ℕ → Option TimeZone → Result (List ℕ) WholeFault → Result ZoneMap LoadFault
with_contents table name tz (Ok bytes) = with_zone table name tz
with_contents table name tz (Err whole.ReadFailed) = Err ReadFailed
with_contents table name tz (Err whole.TooLarge) = Err (Zone TooLarge)
with_contents table name tz (Err whole.NoMemory) = Err (Zone NoMemory)

-- the table with the zone of the file added, or why the file can't be loaded; the zone's name is checked before the
-- file is read
abbrev pub with_file : ZoneMap → List ℕ → Option TimeZone → FileAnswer → Result ZoneMap LoadFault
with_file table name tz None = Err (Zone NoMemory)
with_file table name tz (Some Unopened) = Err ReadFailed
with_file table name tz (Some (Contents read)) =
    if is_zone_name name then with_contents table name tz read else Err (Zone BadName)

unfoldable pub loaded : ZoneMap → ZoneItem → ZoneFound → Result ZoneMap LoadFault
loaded table item found = with_file table item.name found.zone found.answer

abbrev pub or_load_stop : List ℕ → Result ZoneMap LoadFault → Result ZoneMap Stop
or_load_stop name (Ok table) = Ok table
or_load_stop name (Err fault) = Err (load_stop name fault)

-- the table with the zones of all files added in order, or the stop for the first file that can't be loaded
unfoldable pub table_by : ZoneMap → List ZoneItem → List ZoneFound → Result ZoneMap Stop
table_by table [] found = Ok table
table_by table (item ∷ items) [] = Ok table
table_by table (item ∷ items) (f ∷ found) =
    and_then (λ more. table_by more items found) (or_load_stop item.name (loaded table item f))

-- ## The second step: determining the local zone

-- the local zone, or the stop if the arguments give an invalid rule or an unknown name for it
unfoldable pub local_by : ZoneArgument → ZoneMap → ClockZone → Result ClockZone Stop
local_by in_utc table zone = Ok utc
local_by (at_offset seconds) table zone = Ok zone
local_by (by_rule rule) table zone = if is_some (rule_read rule) then Ok zone else Err rule_stop
local_by (of_name name) table zone = if is_some (zone_named table name) then Ok zone else Err name_stop

-- ## The third step: determining the present instant

-- the instant with this number of seconds of Unix time, if it is in the supported range
unfoldable pub instant_in : ℤ → Option ℤ
instant_in secs = if not (int_lt secs (pos 0)) && not (int_lt last_instant secs) then Some secs else None

abbrev pub or_clock_stop : Option ℤ → Result ℤ Stop
or_clock_stop None = Err clock_stop
or_clock_stop (Some now) = Ok now

abbrev pub clock_by : Option ℤ → Result ℤ Stop
clock_by None = Err clock_stop
clock_by (Some secs) = or_clock_stop (instant_in secs)

-- the instant that the arguments give as the present, if they give one, and otherwise the time of the clock
unfoldable pub present_by : Option ℤ → Option ℤ → Result ℤ Stop
present_by (Some now) clock = Ok now
present_by None clock = clock_by clock

-- ## The fourth step: opening the timer file and running the request

-- the result of reading the timer file to its end, or the stop if the file can't be opened or memory runs out
abbrev pub input_by : List ℕ → FileAnswer → Result (Result (List ℕ) WholeFault) Stop
input_by path None = Err memory_stop
input_by path (Some Unopened) = Err (unopened_stop path)
input_by path (Some (Contents read)) = Ok read

-- If the request is for texts: their report, for which no file is read. If it is for a timer file: the report for the
-- result of reading this file, or the stop that `input_by` returns. If the base time is invalid, the report is the same
-- for every result of reading, so the file needn't be read.
abbrev pub run_on : Request → FileAnswer → RequestKind → Result Report Stop
run_on asked answer (for_texts verb texts) = Ok (texts_report asked verb texts)
run_on asked answer (for_file path) = and_then (λ read. Ok (file_report asked path read)) (input_by path answer)

unfoldable pub run_by : Request → FileAnswer → Result Report Stop
run_by asked answer = run_on asked answer (kind_of asked)

-- ## All steps together

abbrev pub asked_at : Ask → ZoneMap → ClockZone → ℤ → Request
asked_at ask table local now = record {
  verb = ask.verb;
  texts = ask.texts;
  iterations = ask.iterations;
  base = ask.base;
  now = now;
  local = local;
  zones = table;
}

-- the report, or the first stop, in the order of the work: zone files, local zone, clock, timer file
unfoldable pub outcome_of : Ask → World → Result Report Stop
outcome_of ask world =
    and_then (λ table.
    and_then (λ local.
    and_then (λ now. run_by (asked_at ask table local now) world.file)
    (present_by ask.now world.clock))
    (local_by ask.local table world.local))
    (table_by empty ask.zones world.zones)

abbrev pub outcome_of_parsed : Result Ask CommandFault → World → Result Report Stop
outcome_of_parsed (Ok ask) world = outcome_of ask world
outcome_of_parsed (Err fault) world = Err (command_stop fault)

unfoldable pub outcome : World → Result Report Stop
outcome world = outcome_of_parsed world.parsed world

-- ## What an outcome writes, and its exit status

abbrev pub out_text : Result Report Stop → List ℕ
out_text (Ok report) = report.out
out_text (Err stop) = stop.out

abbrev pub err_text : Result Report Stop → List ℕ
err_text (Ok report) = report.err
err_text (Err stop) = stop.err

abbrev pub outcome_status : Result Report Stop → ℕ
outcome_status (Ok report) = exit_status report.status
outcome_status (Err stop) = stop.status

-- The exit status if standard error failed: 1 if the outcome is a report, and the status of the stop if it is a stop.
abbrev pub cut_status : Result Report Stop → ℕ
cut_status (Ok report) = 1
cut_status (Err stop) = stop.status

-- the exit status; it depends on the outcome, and on whether standard output, standard error or an allocation failed
abbrev pub ended_status : {T : Type 0} → Result T RunFault → Result Report Stop → ℕ
ended_status (Ok all) outcome = outcome_status outcome
ended_status (Err run.OutFailed) outcome = 1
ended_status (Err run.ErrFailed) outcome = cut_status outcome
ended_status (Err run.NoMemory) outcome = 1
