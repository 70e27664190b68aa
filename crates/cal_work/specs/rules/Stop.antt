-- A stop: what the program reports if its work ends before everything is done, and its exit status in that case.
use Rattle.std.specs.Prelude.{ℕ, Bool, true, false, List, [], ◌∷◌, string_bytes, codes}
use Rattle.cal_bytes.specs.rules.Bytes.{joined}
use Rattle.cal_zone.specs.declared.zone_fault.ZoneFault.{ZoneFault}
use Rattle.cal_zone.specs.declared.zone_fault.ZoneFault.TheVariants as zone
use Rattle.cal_command.specs.rules.CommandFault.{CommandFault, usage, help, bad_value, no_memory, shown_fault}
use Rattle.cal_zone.specs.rules.LoadFault.{message_of}
use Rattle.cal_zone.specs.declared.zone_files.LoadFault.{LoadFault}
use Rattle.cal_zone.specs.declared.zone_files.LoadFault.TheVariants.{ReadFailed, Zone}
use Rattle.cal_request.specs.declared.request.RunFault.{RunFault}
use Rattle.cal_request.specs.declared.request.RunFault.TheVariants as run
use Rattle.cal_request.specs.declared.request.Status.{Status}
use Rattle.cal_request.specs.declared.request.Status.TheVariants.{Fine, Refused}
use Rattle.cal_work.specs.declared.stop.Outlet.{Outlet}
use Rattle.cal_work.specs.declared.stop.Outlet.TheVariants.{OnOut, OnErr, Later}
use Rattle.cal_work.specs.declared.stop.Stop as declared_stop
use Rattle.cal_work.specs.declared.stop.Stop.TheVariants.{Command, Zones, LocalRule, LocalName, Clock, Open, Run}

-- the report of a stop: the text of help on standard output, or a line on standard error, and the status
pub record Stop : Type 0 where
  pub out : List ℕ
  pub err : List ℕ
  pub status : ℕ

-- a stop that writes only this line, to standard error
abbrev pub with_line : List ℕ → ℕ → Stop
with_line line status = record { out = []; err = line; status = status }

-- an error line that begins with the program's name
unfoldable pub own_line : List ℕ → List ℕ
own_line message = joined (codes "calendar-analyze: " ∷ message ∷ codes "\n" ∷ [])

-- the error line about the file of the zone `name`, an item of `--zones`
unfoldable pub zones_line : List ℕ → List ℕ → List ℕ
zones_line name message = joined (codes "calendar-analyze: --zones: " ∷ name ∷ codes ": " ∷ message ∷ codes "\n" ∷ [])

-- the error line for a timer file that can't be opened
unfoldable pub unopened_line : List ℕ → List ℕ
unopened_line path = joined (path ∷ codes ": cannot be read\n" ∷ [])

-- The stop for running out of memory. It doesn't depend on what the memory was needed for.
abbrev pub memory_stop : Stop
memory_stop = with_line (own_line (codes "out of memory")) 1

-- the stop for arguments that are invalid or ask only for help or the version, or for running out of memory while they
-- are parsed
abbrev pub command_stop : CommandFault → Stop
command_stop (usage text) = with_line text 2
command_stop (help text) = record { out = text; err = []; status = 0 }
command_stop (bad_value message) = with_line (own_line message) 2
command_stop no_memory = memory_stop

-- the stop for a zone that `jiff` rejects or that can't be added to the table
abbrev pub zone_stop : List ℕ → ZoneFault → Stop
zone_stop name zone.NoMemory = memory_stop
zone_stop name fault = with_line (zones_line name (message_of (Zone fault))) 2

-- the stop for a zone file that can't be loaded
abbrev pub load_stop : List ℕ → LoadFault → Stop
load_stop name ReadFailed = with_line (zones_line name (message_of ReadFailed)) 2
load_stop name (Zone fault) = zone_stop name fault

-- the next three stops are for a local zone given by an invalid rule, for a local zone given by an unknown name, and
-- for a clock that has no time in the supported range
abbrev pub rule_stop : Stop
rule_stop = with_line (own_line (codes "--local: bad rule")) 2

abbrev pub name_stop : Stop
name_stop = with_line (own_line (codes "--local: no such zone")) 2

abbrev pub clock_stop : Stop
clock_stop = with_line (own_line (codes "clock out of range")) 2

-- the stop for a timer file that can't be opened
abbrev pub unopened_stop : List ℕ → Stop
unopened_stop path = with_line (unopened_line path) 1

-- The stop for a run that ended early. If standard error itself failed, nothing more is reported.
abbrev pub fault_stop : RunFault → Stop
fault_stop run.OutFailed = with_line (own_line (codes "output failed")) 1
fault_stop run.ErrFailed = with_line [] 1
fault_stop run.NoMemory = memory_stop

-- the stop that a value of the Rust type `Stop` stands for: what is written to each output, and the exit status
abbrev pub shown_stop : declared_stop.Stop → Stop
shown_stop (Command fault) = command_stop (shown_fault fault)
shown_stop (Zones name fault) = load_stop (string_bytes name) fault
shown_stop LocalRule = rule_stop
shown_stop LocalName = name_stop
shown_stop Clock = clock_stop
shown_stop (Open path) = unopened_stop (string_bytes path)
shown_stop (Run fault) = fault_stop fault

-- the text that is written for help, for invalid arguments or for running out of memory, to whichever output it goes
abbrev pub command_text : CommandFault → List ℕ
command_text (help text) = text
command_text fault = (command_stop fault).err

-- the text that is written for a stop, to whichever output it goes
abbrev pub stop_text : declared_stop.Stop → List ℕ
stop_text (Command fault) = command_text (shown_fault fault)
stop_text stop = (shown_stop stop).err

-- ## Where each stop is reported
--
-- Help is reported on standard output, and other stops on standard error. A failed output and running out of memory are
-- reported only after the output is flushed.

abbrev pub zone_outlet : ZoneFault → Outlet
zone_outlet zone.NoMemory = Later run.NoMemory
zone_outlet fault = OnErr

abbrev pub load_outlet : LoadFault → Outlet
load_outlet ReadFailed = OnErr
load_outlet (Zone fault) = zone_outlet fault

abbrev pub command_outlet : CommandFault → Outlet
command_outlet (help text) = OnOut
command_outlet no_memory = Later run.NoMemory
command_outlet fault = OnErr

abbrev pub outlet_of : declared_stop.Stop → Outlet
outlet_of (Command fault) = command_outlet (shown_fault fault)
outlet_of (Zones name fault) = load_outlet fault
outlet_of LocalRule = OnErr
outlet_of LocalName = OnErr
outlet_of Clock = OnErr
outlet_of (Open path) = OnErr
outlet_of (Run fault) = Later fault

-- ## What a stop is due to
--
-- The next six definitions say whether a stop is due to a failure of standard output, to a failure of standard error,
-- or to a lack of memory. Three of them take the stop's `Outlet`, which names the failure, and three the stop itself.

abbrev pub is_out_failure : Outlet → Bool
is_out_failure (Later run.OutFailed) = true
is_out_failure outlet = false

abbrev pub is_err_failure : Outlet → Bool
is_err_failure (Later run.ErrFailed) = true
is_err_failure outlet = false

abbrev pub is_memory_failure : Outlet → Bool
is_memory_failure (Later run.NoMemory) = true
is_memory_failure outlet = false

abbrev pub stops_for_out : declared_stop.Stop → Bool
stops_for_out stop = is_out_failure (outlet_of stop)

abbrev pub stops_for_err : declared_stop.Stop → Bool
stops_for_err stop = is_err_failure (outlet_of stop)

abbrev pub stops_for_memory : declared_stop.Stop → Bool
stops_for_memory stop = is_memory_failure (outlet_of stop)

-- the exit status of a run that could write everything
abbrev pub exit_status : Status → ℕ
exit_status Fine = 0
exit_status Refused = 1
