-- From the arguments to the bytes: there is a world that consists of answers of the system, and the bytes written and
-- the status agree with the outcome in this world. A world is everything that the outcome depends on.
use Rattle.std.specs.Prelude.{◌≡◌, ℕ, ℤ, IsTrue, Bool, true, false, List, [], ◌∷◌, Option, None, Some, Result, Ok, Err, IfOk, IfNone}
use Rattle.std.specs.FinMap.{empty}
use Rattle.std.specs.Io.KnownBytes.{Keeps, Appends, append_known}
use Rattle.jiff.specs.Placed.{IsPosixZone}
use Rattle.jiff.specs.Types.{TimeZone, Offset}
use Rattle.jiff.specs.Words.{fixed_zone}
use Rattle.cal_bytes.specs.rules.Writes.{AppendsFront, Writes}
use Rattle.cal_zone.specs.rules.Zone.{is_utc, utc, zone_of}
use Rattle.cal_zone.specs.rules.ZoneFile.{IsFileFault, IsFileZone}
use Rattle.cal_zone.specs.rules.ZoneTable.{ZoneMap, zone_named}
use Rattle.cal_civil.specs.rules.ZoneName.{is_utc_name, is_zone_name}
use Rattle.cal_zone.specs.declared.zone.Zone.{Zone as ClockZone}
use Rattle.cal_zone.specs.declared.zone_fault.ZoneFault.TheVariants.{BadFile}
use Rattle.cal_zone.specs.rules.ZoneArgument.{ZoneArgument, in_utc, at_offset, by_rule, of_name}
use Rattle.cal_command.specs.rules.Ask.{Ask, ZoneItem}
use Rattle.cal_command.specs.rules.CommandLine.{IsAskOf}
use Rattle.cal_work.specs.rules.Outcome.{World, ZoneFound, loaded, table_by, local_by, present_by, asked_at, outcome, out_text, err_text, ended_status}
use Rattle.cal_request.specs.rules.RequestKind.{RequestKind, for_file, for_texts, kind_of}
use Rattle.cal_request.specs.rules.Request.{Request}
use Rattle.cal_work.specs.rules.Stop.{fault_stop}
use Rattle.cal_machine.specs.rules.Told.{ClockShows, Contents, Told, Unopened}
use Rattle.cal_report.specs.rules.BaseTime.{IsBase}
use Rattle.cal_work.specs.rules.FileAnswer.{FileAnswer, Gave}
use Rattle.cal_request.specs.declared.request.RunFault.{RunFault}
use Rattle.cal_work.specs.declared.arguments_to_bytes.Ended.{Ended}

-- ## A world that consists of answers of the system, as far as the program asked for them

-- `jiff` reads this zone from a zone file with this name and these bytes, or, if there is no zone (`None`), it rejects
-- the file
abbrev pub IsReadZone : List ℕ → List ℕ → Option TimeZone → Type 0
IsReadZone name bytes None = IsFileFault name bytes BadFile
IsReadZone name bytes (Some zone) = IsFileZone name bytes zone

-- if the program passes the file to `jiff` (it was read, and its zone's name is valid), then `tz` is the zone that `jiff`
-- reads from it, or None if `jiff` rejects it
abbrev pub ReadsZone : List ℕ → FileAnswer → Option TimeZone → Type 0
ReadsZone name None tz = Unit {0}
ReadsZone name (Some Unopened) tz = Unit {0}
ReadsZone name (Some (Contents (Err fault))) tz = Unit {0}
ReadsZone name (Some (Contents (Ok bytes))) tz = is_zone_name name ≡ true → IsReadZone name bytes tz

pub record SeesZone (gives : Told → Bool) (item : ZoneItem) (found : ZoneFound) : Type 0 where
  pub given : Gave gives item.path found.answer
  pub reads : ReadsZone item.name found.answer found.zone

-- `found` is what the program finds in the zone files, in order. The files after the first one that can't be loaded are
-- not read, so nothing is required of their entries in `found`.
abbrev pub SeesZones : (Told → Bool) → ZoneMap → List ZoneItem → List ZoneFound → Type 0
SeesZones gives table [] found = Unit {0}
SeesZones gives table (item ∷ items) [] = ⊥
SeesZones gives table (item ∷ items) (f ∷ found) =
    SeesZone gives item f × IfOk (loaded table item f) (λ more. SeesZones gives more items found)

-- `zone` is the local zone that the arguments ask for; `zone_of zone` is its `TimeZone` of `jiff`
abbrev pub IsLocal : ZoneArgument → ZoneMap → ClockZone → Type 0
IsLocal in_utc table zone = zone ≡ utc
IsLocal (at_offset seconds) table zone =
    (is_utc zone ≡ false) × ((offset : Offset) → offset.seconds ≡ seconds → zone_of zone ≡ fixed_zone offset)
IsLocal (by_rule rule) table zone = (is_utc zone ≡ false) × IsPosixZone rule (zone_of zone)
IsLocal (of_name name) table zone = (is_utc zone ≡ is_utc_name name) × (zone_named table name ≡ Some (zone_of zone))

-- the system gave this answer about the timer file, if the request is for one
abbrev pub SeesFor : RequestKind → (Told → Bool) → FileAnswer → Type 0
SeesFor (for_texts verb texts) gives answer = Unit {0}
SeesFor (for_file path) gives answer = Gave gives path answer

abbrev pub SeesFile : (Told → Bool) → Request → FileAnswer → Type 0
SeesFile gives asked answer = SeesFor (kind_of asked) gives answer

-- unless the work stops before the run, `P` is true of the request that is run
abbrev pub IfRun : Ask → World → (Request → Type 0) → Type 0
IfRun ask world P =
    IfOk (table_by empty ask.zones world.zones) (λ table.
    IfOk (local_by ask.local table world.local) (λ local.
    IfOk (present_by ask.now world.clock) (λ now. P (asked_at ask table local now))))

pub record Fits (gives : Told → Bool) (ask : Ask) (world : World) : Type 0 where
  pub zones : SeesZones gives empty ask.zones world.zones
  pub after : IfOk (table_by empty ask.zones world.zones) (λ table.
      IfOk (local_by ask.local table world.local) (λ local. IsLocal ask.local table local
      × IfNone ask.now (IsTrue (gives (ClockShows world.clock)))))
  pub file : IfRun ask world (λ asked. SeesFile gives asked world.file)

-- `world.parsed` is what the arguments parse to, and everything else in the world fits what they ask for
pub record FitsArguments (gives : Told → Bool) (arguments : List (List ℕ)) (world : World) : Type 0 where
  pub parsed : IsAskOf arguments world.parsed
  pub fits : IfOk world.parsed (λ ask. Fits gives ask world)

-- ## What is left of the timer file

-- If the request is for a timer file that could be opened, and its base time is invalid, nothing was read from the
-- file. `is_unread path` says that at the end, the file at this path is open, and nothing was read from it.
abbrev pub LeavesUnread : (List ℕ → Bool) → Request → RequestKind → FileAnswer → Type 0
LeavesUnread is_unread asked (for_file path) (Some (Contents read)) = ((base : ℤ) → IsBase asked base → ⊥) → IsTrue (is_unread path)
LeavesUnread is_unread asked kind answer = Unit {0}

-- `LeavesUnread` for the request that is run, unless the work stops before the run
abbrev pub LeavesFileUnread : (List ℕ → Bool) → Ask → World → Type 0
LeavesFileUnread is_unread ask world = IfRun ask world (λ asked. LeavesUnread is_unread asked (kind_of asked) world.file)

-- ## What reaches the outputs

-- If nothing failed, the whole text reached the output. If something failed, the bytes that reached the output,
-- followed by the bytes `held` that are left in a buffer, are a prefix of the text.
abbrev pub Reaches : {T : Type 0} → Option (List ℕ) → Option (List ℕ) → Result T RunFault → List ℕ → Type 0
Reaches old reached (Ok all) text = Appends old reached text
Reaches old reached (Err fault) text = (held : List ℕ) × AppendsFront old (append_known reached held) text

-- if an output or an allocation failed, the final error line is written, or a prefix of it if standard error fails;
-- otherwise nothing is written
abbrev pub ReportsFault : {T : Type 0} → Option (List ℕ) → Option (List ℕ) → Bool → Result T RunFault → Type 0
ReportsFault old new failed (Ok all) = Keeps old new
ReportsFault old new false (Err fault) = Appends old new (fault_stop fault).err
ReportsFault old new true (Err fault) = AppendsFront old new (fault_stop fault).err

-- If nothing failed, the whole text is written to standard error. If an output or an allocation failed, a prefix of the
-- text is written, and after it the final error line, as `ReportsFault` says.
pub record WritesErr {T : Type 0} (old new : Option (List ℕ)) (failed : Bool) (written : Result T RunFault) (text : List ℕ) : Type 0 where
  pub before : Option (List ℕ)
  pub text_bytes : Writes old before written text
  pub line : ReportsFault before new failed written

-- The status and the bytes that the program wrote agree, as `Reaches` and `WritesErr` say, with the outcome in a world
-- that fits the arguments and has only answers of the system. If the base time is invalid in this world, the timer file
-- was left unread, as `LeavesFileUnread` says.
pub record Works (gives : Told → Bool) (is_unread : List ℕ → Bool) (arguments : List (List ℕ)) (out reached err err' : Option (List ℕ)) (err_failed : Bool) (ended : Ended) : Type 0 where
  pub world : World
  pub fits : FitsArguments gives arguments world
  pub unread : IfOk world.parsed (λ ask. LeavesFileUnread is_unread ask world)
  pub status : ended.status ≡ ended_status ended.written (outcome world)
  pub out_bytes : Reaches out reached ended.written (out_text (outcome world))
  pub err_bytes : WritesErr err err' err_failed ended.written (err_text (outcome world))
