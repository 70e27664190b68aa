-- What each step of the code returns, compared with what the definitions in Outcome.antt return for the same step. The
-- definitions are applied to a world that consists of answers of the system; a world is everything that the outcome
-- depends on. A stop is what is reported if the work ends early.
use Rattle.std.specs.Prelude.{◌≡◌, ℕ, ℤ, IsTrue, Bool, false, List, Option, None, Some, Result, Ok, Err, IsErr, IsSome, IfOk, IfNone}
use Rattle.std.specs.FinMap.{empty}
use Rattle.std.specs.Io.KnownBytes.{Appends}
use Rattle.jiff.specs.Types.{TimeZone}
use Rattle.jiff.specs.Words.{read_whole as rule_read}
use Rattle.jiff.specs.Placed.{IsPosixZone}
use Rattle.cal_bytes.specs.rules.Writes.{AppendsFront, Writes}
use Rattle.cal_zone.specs.rules.ZoneTable.{ZoneMap}
use Rattle.cal_zone.specs.declared.zone.Zone.{Zone as ClockZone}
use Rattle.cal_command.specs.rules.Ask.{Ask, ZoneItem}
use Rattle.cal_work.specs.rules.Outcome.{World, ZoneFound, loaded, table_by, local_by, clock_by, present_by, outcome, outcome_of, run_by, run_on, out_text, err_text, outcome_status, ended_status}
use Rattle.cal_report.specs.rules.ReportLines.{Report}
use Rattle.cal_request.specs.rules.Request.{Request}
use Rattle.cal_request.specs.rules.RequestKind.{for_file, kind_of}
use Rattle.cal_work.specs.rules.Stop.{Stop, exit_status, stops_for_memory, stops_for_out, stops_for_err, outlet_of, shown_stop, stop_text}
use Rattle.cal_machine.specs.rules.Told.{Told, ClockShows}
use Rattle.cal_work.specs.rules.FileAnswer.{FileAnswer, Gave}
use Rattle.cal_work.specs.rules.Works.{Fits, FitsArguments, IsLocal, LeavesFileUnread, LeavesUnread, SeesFile, SeesZone, SeesZones}
use Rattle.cal_zone.specs.declared.zone_files.LoadFault.{LoadFault}
use Rattle.cal_zone.specs.rules.ZoneArgument.{ZoneArgument, in_utc, at_offset, by_rule, of_name}
use Rattle.cal_request.specs.declared.request.RunFault.{RunFault}
use Rattle.cal_request.specs.declared.request.RunFault.TheVariants.{OutFailed, ErrFailed, NoMemory}
use Rattle.cal_request.specs.declared.request.Status.{Status}
use Rattle.cal_work.specs.declared.stop.Outlet.{Outlet}
use Rattle.cal_work.specs.declared.stop.Outlet.TheVariants.{OnOut, OnErr, Later}
use Rattle.cal_work.specs.declared.stop.Stop as declared_stop
use Rattle.cal_work.specs.declared.stop.Stop.TheVariants.{Run}

-- whether the work ended because standard output failed
abbrev pub is_out_cut : {T : Type 0} → Result T declared_stop.Stop → Bool
is_out_cut (Ok x) = false
is_out_cut (Err stop) = stops_for_out stop

-- whether the work ended because standard error failed
abbrev pub is_err_cut : {T : Type 0} → Result T declared_stop.Stop → Bool
is_err_cut (Ok x) = false
is_err_cut (Err stop) = stops_for_err stop

-- The work ended with `stop` before the run, and this agrees with `expected`, the result of the definitions. `stop`
-- isn't due to a failed output, and `expected` is a stop too. Unless `stop` is due to running out of memory, `expected`
-- is the report of `stop`.
pub record StopsAs {X : Type 0} (stop : declared_stop.Stop) (expected : Result X Stop) : Type 0 where
  pub before_out : stops_for_out stop ≡ false
  pub before_err : stops_for_err stop ≡ false
  pub stopped : IsErr expected
  pub same : stops_for_memory stop ≡ false → expected ≡ Err (shown_stop stop)

-- what a step returned agrees with `expected`, the result of the definitions; `view` maps the Rust value that the step
-- returned to a value of the definitions
abbrev pub Answers : {A B : Type 0} → (A → B) → Result A declared_stop.Stop → Result B Stop → Type 0
Answers view (Ok value) expected = expected ≡ Ok (view value)
Answers view (Err stop) expected = StopsAs stop expected

-- ## The results of the steps

-- what loading one zone file returned agrees with `expected`, the result of the definitions; `table` is the zone
-- table after loading
abbrev pub LoadsAs : Result Unit LoadFault → ZoneMap → Result ZoneMap LoadFault → Type 0
LoadsAs (Ok done) table expected = expected ≡ Ok table
LoadsAs (Err fault) table expected = expected ≡ Err fault

pub record Loads (gives : Told → Bool) (before after : ZoneMap) (item : ZoneItem) (result : Result Unit LoadFault) : Type 0 where
  pub found : ZoneFound
  pub sees : SeesZone gives item found
  pub loads : LoadsAs result after (loaded before item found)

-- what reading all zone files returned agrees with `table_by`, for what the program found in the files
pub record ReadsZones {T : Type 0} (view : T → ZoneMap) (gives : Told → Bool) (items : List ZoneItem) (result : Result T declared_stop.Stop) : Type 0 where
  pub found : List ZoneFound
  pub sees : SeesZones gives empty items found
  pub answers : Answers view result (table_by empty items found)

-- if the local zone is given as a POSIX rule, `jiff` can parse this rule, and `rules` is the zone that it stands for
abbrev pub HasRules : ZoneArgument → Option TimeZone → Type 0
HasRules in_utc rules = Unit {0}
HasRules (at_offset seconds) rules = Unit {0}
HasRules (by_rule rule) None = ⊥
HasRules (by_rule rule) (Some zone) = IsSome (rule_read rule) × IsPosixZone rule zone
HasRules (of_name name) rules = Unit {0}

-- the local zone is given as a POSIX rule that `jiff` can't parse
abbrev pub IsBadRule : ZoneArgument → Type 0
IsBadRule in_utc = ⊥
IsBadRule (at_offset seconds) = ⊥
IsBadRule (by_rule rule) = IsSome (rule_read rule) → ⊥
IsBadRule (of_name name) = ⊥

-- what determining the local zone returned agrees with `local_by`; `zone` is the local zone
pub record FindsLocal {T : Type 0} (view : T → ClockZone) (local : ZoneArgument) (table : ZoneMap) (result : Result T declared_stop.Stop) : Type 0 where
  pub zone : ClockZone
  pub is_local : IfOk (local_by local table zone) (IsLocal local table)
  pub answers : Answers view result (local_by local table zone)

-- what reading the clock returned agrees with `clock_by`, for the time that the clock showed
pub record Reads {T : Type 0} (view : T → ℤ) (gives : Told → Bool) (result : Result T declared_stop.Stop) : Type 0 where
  pub clock : Option ℤ
  pub is_time : IsTrue (gives (ClockShows clock))
  pub answers : Answers view result (clock_by clock)

-- What determining the present instant returned agrees with `present_by`. `clock` is the time that the clock showed; it
-- matters only if the arguments give no instant.
pub record Presents {T : Type 0} (view : T → ℤ) (gives : Told → Bool) (given : Option ℤ) (result : Result T declared_stop.Stop) : Type 0 where
  pub clock : Option ℤ
  pub asked : IfNone given (IsTrue (gives (ClockShows clock)))
  pub answers : Answers view result (present_by given clock)

-- ## How the work ended, and what it had written by then

-- the result of a run, converted to the result of the work
abbrev pub ran : Result Status RunFault → Result Status declared_stop.Stop
ran (Ok status) = Ok status
ran (Err fault) = Err (Run fault)

-- The work ended with this stop, and this agrees with the outcome `expected`. If the stop is `Run`, a prefix of each
-- text of the outcome was written, and `ended_status` returns 1 for the failure. For every other stop, nothing was
-- written, and `StopsAs` holds.
abbrev pub StopEnds : declared_stop.Stop → Result Report Stop → Option (List ℕ) → Option (List ℕ) → Option (List ℕ) → Option (List ℕ) → Type 0
StopEnds (Run fault) expected out out' err err' =
    (ended_status {T = Unit} (Err fault) expected ≡ 1) × AppendsFront out out' (out_text expected) × AppendsFront err err' (err_text expected)
StopEnds stop expected out out' err err' = StopsAs stop expected × (out' ≡ out) × (err' ≡ err)

abbrev pub EndsAs : Result Status declared_stop.Stop → Result Report Stop → Option (List ℕ) → Option (List ℕ) → Option (List ℕ) → Option (List ℕ) → Type 0
EndsAs (Ok status) expected out out' err err' =
    (outcome_status expected ≡ exit_status status) × Appends out out' (out_text expected) × Appends err err' (err_text expected)
EndsAs (Err stop) expected out out' err err' = StopEnds stop expected out out' err err'

-- the result and the output of opening a timer file and running its request agree with `run_on`, for what the system
-- answered; if the base time is invalid, the file was left unread
pub record RunsFile (gives : Told → Bool) (is_unread : List ℕ → Bool) (asked : Request) (path : List ℕ) (result : Result Status declared_stop.Stop) (out out' err err' : Option (List ℕ)) : Type 0 where
  pub answer : FileAnswer
  pub given : Gave gives path answer
  pub unread : LeavesUnread is_unread asked (for_file path) answer
  pub ends : EndsAs result (run_on asked answer (for_file path)) out out' err err'

-- what running a request returned and wrote agrees with `run_by`, for the answer of the system about the timer file
pub record Runs (gives : Told → Bool) (is_unread : List ℕ → Bool) (asked : Request) (result : Result Status declared_stop.Stop) (out out' err err' : Option (List ℕ)) : Type 0 where
  pub answer : FileAnswer
  pub sees : SeesFile gives asked answer
  pub unread : LeavesUnread is_unread asked (kind_of asked) answer
  pub ends : EndsAs result (run_by asked answer) out out' err err'

pub record Answered (gives : Told → Bool) (is_unread : List ℕ → Bool) (ask : Ask) (result : Result Status declared_stop.Stop) (out out' err err' : Option (List ℕ)) : Type 0 where
  pub world : World
  pub fits : Fits gives ask world
  pub unread : LeavesFileUnread is_unread ask world
  pub ends : EndsAs result (outcome_of ask world) out out' err err'

pub record AnsweredArguments (gives : Told → Bool) (is_unread : List ℕ → Bool) (arguments : List (List ℕ)) (result : Result Status declared_stop.Stop) (out out' err err' : Option (List ℕ)) : Type 0 where
  pub world : World
  pub fits : FitsArguments gives arguments world
  pub unread : IfOk world.parsed (λ ask. LeavesFileUnread is_unread ask world)
  pub ends : EndsAs result (outcome world) out out' err err'

-- ## After the work has ended: the report of a stop, the flush of standard output, and the exit status

-- The exit status after the output is flushed: 1 if standard output or an allocation failed, and otherwise `status`,
-- the exit status before the flush.
abbrev pub status_by : {T : Type 0} → Result T RunFault → ℕ → ℕ
status_by (Ok all) status = status
status_by (Err OutFailed) status = 1
status_by (Err ErrFailed) status = status
status_by (Err NoMemory) status = 1

pub record WritesOf {T : Type 0} (written : Result T RunFault) (status : ℕ) (expected : Result Report Stop) (out out' err err' : Option (List ℕ)) : Type 0 where
  pub by_status : ended_status written expected ≡ status_by written status
  pub out_bytes : Writes out out' written (out_text expected)
  pub err_bytes : Writes err err' written (err_text expected)

-- The first result is the one before standard output is flushed, and the second is the one after the flush. The flush
-- can change the result only from `Ok` to `OutFailed`.
abbrev pub IsFlushed : {T : Type 0} → Result T RunFault → Result T RunFault → Type 0
IsFlushed (Ok all) (Ok flushed) = Unit {0}
IsFlushed (Ok all) (Err fault) = fault ≡ OutFailed
IsFlushed (Err fault) flushed = flushed ≡ Err fault

-- The report `text` of a stop is written to the output that the outlet names. If the stop has to be reported later,
-- nothing is written.
abbrev pub ReportsOn : Outlet → List ℕ → Result Unit RunFault → Option (List ℕ) → Option (List ℕ) → Option (List ℕ) → Option (List ℕ) → Type 0
ReportsOn OnOut text result out out' err err' = Writes out out' result text × (err' ≡ err)
ReportsOn OnErr text result out out' err err' = Writes err err' result text × (out' ≡ out)
ReportsOn (Later fault) text result out out' err err' = (result ≡ Err fault) × (out' ≡ out) × (err' ≡ err)

abbrev pub ReportsStop : declared_stop.Stop → Result Unit RunFault → Option (List ℕ) → Option (List ℕ) → Option (List ℕ) → Option (List ℕ) → Type 0
ReportsStop stop result out out' err err' = ReportsOn (outlet_of stop) (stop_text stop) result out out' err err'
