-- Lemmas on the steps of the work: what all steps found makes up one world, and what was written is the outcome in that
-- world.
use Rattle.std.proofs.Common.{◌≡◌, ℕ, ℤ, ◌<◌, ◌≤◌, Bool, true, false, List, [], ◌∷◌, length, Option, None, Some, Result, Ok, Err, IfOk, IfNone, refl, sym, ap, subst, ◌∙◌, arith, append-nil, nat_le}
use Rattle.std.specs.Prelude.{IfErr, IsSome, IsTrue, if◌then◌else◌, is_some, MatchResult, IsErr}
use Rattle.std.specs.FinMap.{empty}
use Rattle.std.proofs.lemmas.Bool.{false≢true}
use Rattle.std.proofs.lemmas.Bool.Decides.{nat_tests}
use Rattle.jiff.specs.Placed.{IsPosixZone}
use Rattle.jiff.specs.Types.{TimeZone}
use Rattle.jiff.specs.Words.{read_whole as rule_read}
use Rattle.cal_bytes.specs.rules.Writes.{AppendsFront, Writes}
use Rattle.cal_bytes.specs.rules.Whole.{is_read_failed}
use Rattle.cal_zone.specs.rules.Zone.{is_utc, utc, zone_of}
use Rattle.cal_zone.specs.rules.ZoneTable.{ZoneMap, zone_named}
use Rattle.cal_civil.specs.rules.ZoneName.{is_utc_name, is_zone_name}
use Rattle.cal_bytes.specs.declared.whole.WholeFault.{WholeFault}
use Rattle.cal_bytes.specs.declared.whole.WholeFault.TheVariants as whole
use Rattle.cal_zone.specs.declared.zone.Zone.{Zone as ClockZone}
use Rattle.cal_zone.specs.declared.zone_fault.ZoneFault.TheVariants as zone
use Rattle.cal_stamp.specs.declared.fault.StampFault.{StampFault}
use Rattle.cal_command.specs.rules.Ask.{Ask, ZoneItem}
use Rattle.cal_command.specs.rules.CommandFault.{CommandFault, usage, help, bad_value, no_memory, shown_fault}
use Rattle.cal_command.specs.rules.CommandLine.{IsAskOf}
use Rattle.cal_zone.specs.rules.LoadZone.{IsLoaded, IsLoadFault, is_load_read_failed}
use Rattle.cal_work.specs.rules.Outcome.{ZoneFound, and_then, loaded, table_by, local_by, present_by, run_by, run_on, asked_at, outcome, outcome_of, out_text, err_text}
use Rattle.cal_report.specs.rules.RunReport.{IsReported, ReadsFile, base_in, file_report, texts_report}
use Rattle.cal_report.specs.rules.ReportLines.{Report}
use Rattle.cal_request.specs.rules.RequestKind.{for_file, for_texts, kind_of}
use Rattle.cal_request.specs.rules.Request.{Request}
use Rattle.cal_work.specs.rules.Stop.{Stop, command_outlet, command_stop, is_out_failure, is_err_failure, exit_status, load_stop, name_stop, rule_stop, shown_stop, unopened_stop, memory_stop, stops_for_out, stops_for_err}
use Rattle.cal_machine.specs.rules.Told.{CanGive, ClockShows, Contents, FileHolds, Told, Unopened, input_limit}
use Rattle.cal_work.specs.computed.WorkSteps.{StopsAs, Loads, ReadsZones, FindsLocal, IsBadRule, EndsAs, Runs, RunsFile, Answered, AnsweredArguments, ran}
use Rattle.cal_work.specs.rules.Works.{LeavesUnread, ReadsZone, SeesFor, SeesZones}
use Rattle.cal_command.specs.declared.command_fault.CommandFault as declared_fault
use Rattle.cal_zone.specs.declared.zone_files.LoadFault.{LoadFault}
use Rattle.cal_zone.specs.declared.zone_files.LoadFault.TheVariants.{ReadFailed, Zone}
use Rattle.cal_zone.specs.rules.ZoneArgument.{ZoneArgument, in_utc, at_offset, by_rule, of_name}
use Rattle.cal_request.specs.declared.request.RunFault.{RunFault}
use Rattle.cal_request.specs.declared.request.RunFault.TheVariants.{OutFailed, ErrFailed, NoMemory}
use Rattle.cal_request.specs.declared.request.Status.{Status}
use Rattle.cal_request.specs.declared.verb.TextVerb.{TextVerb}
use Rattle.cal_work.specs.declared.stop.Stop as declared_stop
use Rattle.cal_work.specs.declared.stop.Stop.TheVariants.{Command, Zones, LocalRule, LocalName, Clock, Open, Run}
use Rattle.cal_report.proofs.BaseLemmas.{no_base}
use Rattle.cal_report.proofs.ReportLemmas.{nothing_front}

-- if `r` is an error, `IfOk r P` holds for every `P`
no_ok : {T E : Type 0} (r : Result T E) (P : T → Type 0) → IsErr r → IfOk r P
no_ok (Ok x) P h = absurd (false≢true h)
no_ok (Err e) P h = tt

-- ## How a stop agrees with the definitions

-- if a stop isn't due to a failed output, and `shown` is its report, then the stop agrees with `shown`, as `StopsAs`
-- says
pub is_stop : {X : Type 0} (stop : declared_stop.Stop) (shown : Stop) → stops_for_out stop ≡ false → stops_for_err stop ≡ false → shown_stop stop ≡ shown → StopsAs {X = X} stop (Err shown)
is_stop stop shown out err is = record { before_out = out; before_err = err; stopped = refl; same = λ h. ap (λ s. Err s) (sym is) }

-- if a stop agrees with `expected`, the result of one step, then it also agrees with the result of this step followed
-- by the step `next`
pub stops : {A B : Type 0} (stop : declared_stop.Stop) (next : A → Result B Stop) (expected : Result A Stop) → StopsAs stop expected → StopsAs stop (and_then next expected)
stops stop next (Ok value) s = absurd (false≢true s.stopped)
stops stop next (Err shown) s = record { before_out = s.before_out; before_err = s.before_err; stopped = refl; same = λ h. ap (λ r. and_then next r) (s.same h) }

stop_inside : {A : Type 0} (x y : Result A Stop) (a b : Stop) → x ≡ Err a → y ≡ Err b → x ≡ y → a ≡ b
stop_inside x y a b p q h = cc

-- whether a stop agrees with `Err shown` doesn't depend on the type of the values that the step returns
pub stops_other : {A B : Type 0} (stop : declared_stop.Stop) (shown : Stop) → StopsAs {X = A} stop (Err shown) → StopsAs {X = B} stop (Err shown)
stops_other {A = A} stop shown s = record { before_out = s.before_out; before_err = s.before_err; stopped = refl; same = λ h. ap (λ x. Err x) (stop_inside {A = A} (Err shown) (Err (shown_stop stop)) shown (shown_stop stop) refl refl (s.same h)) }

-- ## What reading a source to its end can give

all_fits : (bytes : List ℕ) → nat_le (length bytes) input_limit ≡ true → length bytes ≤ input_limit
all_fits bytes h = grind (arith, nat_tests)

all_is_more : (bytes : List ℕ) → nat_le (length bytes) input_limit ≡ false → input_limit < length bytes
all_is_more bytes h = grind (arith, nat_tests)

-- a result that reading a source to its end can give if reads don't fail
possible : Option (List ℕ) → Result (List ℕ) WholeFault
possible None = Ok []
possible (Some bytes) = if nat_le (length bytes) input_limit then Ok bytes else Err whole.TooLarge

possible_by : (bytes : List ℕ) (may_fail fits : Bool) → nat_le (length bytes) input_limit ≡ fits → CanGive (Some bytes) may_fail (if fits then Ok bytes else Err whole.TooLarge)
possible_by bytes may_fail true is = (Some [], record { taken = sym (append-nil bytes); at_end = refl; fits = all_fits bytes is })
possible_by bytes may_fail false is = (Some [], record { front = bytes; taken = sym (append-nil bytes); is_more = all_is_more bytes is })

is_possible : (left : Option (List ℕ)) (may_fail : Bool) → CanGive left may_fail (possible left)
unfolding possible
is_possible None may_fail = (None, record { taken = tt; at_end = tt; fits = omega arith })
is_possible (Some bytes) may_fail = possible_by bytes may_fail _ refl

-- if a read failed, then reads of this source can fail
can_fail : (may_fail failed : Bool) → (may_fail ≡ false → failed ≡ false) → failed ≡ true → may_fail ≡ true
can_fail true failed sure is = refl
can_fail false failed sure is = absurd (false≢true (sym (sure refl) ∙ is))

-- ## Loading the zone files

-- if the zone's name is invalid, the file isn't passed to `jiff`
unnamed_reads : (name : List ℕ) (read : Result (List ℕ) WholeFault) → is_zone_name name ≡ false → ReadsZone name (Some (Contents read)) None
unnamed_reads name (Ok bytes) is = λ named. absurd (false≢true (sym is ∙ named))
unnamed_reads name (Err fault) is = tt

-- the result of loading a zone file that was opened agrees with the definition `loaded`, as `Loads` says
pub loads : (gives : Told → Bool) (before after : ZoneMap) (item : ZoneItem) (r : Result Unit LoadFault) (left new : Option (List ℕ)) (may_fail failed : Bool)
    → ((read : Result (List ℕ) WholeFault) → CanGive left may_fail read → IsTrue (gives (FileHolds item.path (Contents read))))
    → failed ≡ is_load_read_failed r → (may_fail ≡ false → failed ≡ false) → MatchResult r (λ done. IsLoaded left new before after item.name) (IsLoadFault left new before item.name) → Loads gives before after item r
unfolding loaded
loads gives before after item (Ok done) left new may_fail failed holds fails sure h = record {
  found = record { answer = Some (Contents (Ok h.bytes)); zone = Some h.zone };
  sees = record { given = holds (Ok h.bytes) (new, h.given); reads = λ named. h.is_zone };
  loads = rw (h.addable.named, h.addable.free) (ap (λ m. Ok m) (sym h.added));
}
loads gives before after item (Err ReadFailed) left new may_fail failed holds fails sure h = record {
  found = record { answer = Some (Contents (Err whole.ReadFailed)); zone = None };
  sees = record { given = holds (Err whole.ReadFailed) (can_fail may_fail failed sure fails); reads = tt };
  loads = rw h.0 refl;
}
loads gives before after item (Err (Zone zone.BadName)) left new may_fail failed holds fails sure h = record {
  found = record { answer = Some (Contents (possible left)); zone = None };
  sees = record { given = holds (possible left) (is_possible left may_fail); reads = unnamed_reads item.name (possible left) h.0 };
  loads = rw h.0 refl;
}
loads gives before after item (Err (Zone zone.BadRule)) left new may_fail failed holds fails sure h = absurd h
loads gives before after item (Err (Zone zone.BadFile)) left new may_fail failed holds fails sure h = record {
  found = record { answer = Some (Contents (Ok h.bytes)); zone = None };
  sees = record { given = holds (Ok h.bytes) (new, h.given); reads = λ named. h.is_bad };
  loads = rw h.is_bad.0.named refl;
}
loads gives before after item (Err (Zone zone.TooLarge)) left new may_fail failed holds fails sure h = record {
  found = record { answer = Some (Contents (Err whole.TooLarge)); zone = None };
  sees = record { given = holds (Err whole.TooLarge) (new, h.1); reads = tt };
  loads = rw h.0 refl;
}
loads gives before after item (Err (Zone zone.NoMemory)) left new may_fail failed holds fails sure h =
    record { found = record { answer = None; zone = None }; sees = record { given = tt; reads = tt }; loads = refl }
loads gives before after item (Err (Zone zone.NameTaken)) left new may_fail failed holds fails sure h = record {
  found = record { answer = Some (Contents (Ok h.bytes)); zone = Some h.zone };
  sees = record { given = holds (Ok h.bytes) (new, h.given); reads = λ named. h.is_zone };
  loads = rw (h.is_taken.0, h.is_taken.1) refl;
}

-- if a zone file can't be opened, the error `ReadFailed` agrees with the definition `loaded`, as `Loads` says
pub loads_unopened : (gives : Told → Bool) (table : ZoneMap) (item : ZoneItem) → IsTrue (gives (FileHolds item.path Unopened)) → Loads gives table table item (Err ReadFailed)
unfolding loaded
loads_unopened gives table item given = record {
  found = record { answer = Some Unopened; zone = None };
  sees = record { given = given; reads = tt };
  loads = refl;
}

-- if memory ran out while a zone file was opened, the error `NoMemory` agrees with `loaded`, as `Loads` says
pub loads_nothing : (gives : Told → Bool) (table : ZoneMap) (item : ZoneItem) → Loads gives table table item (Err (Zone zone.NoMemory))
unfolding loaded
loads_nothing gives table item = record { found = record { answer = None; zone = None }; sees = record { given = tt; reads = tt }; loads = refl }

-- `table` is the table so far, `left` are the files that remain to be loaded, and `rest` is what the program finds in
-- these files. `found` is what it may have found in all files, `items`. Loading `items` with `found` into the empty
-- table gives the same table or stop as loading `left` with `rest` into `table`. `GoesOn`, the invariant of the loop
-- over the zone files, says that there is such a `found` for every `rest`.
pub record Continues (gives : Told → Bool) (items : List ZoneItem) (table : ZoneMap) (left : List ZoneItem) (rest : List ZoneFound) : Type 0 where
  pub found : List ZoneFound
  pub sees : SeesZones gives empty items found
  pub same : table_by empty items found ≡ table_by table left rest

abbrev pub GoesOn : (Told → Bool) → List ZoneItem → ZoneMap → List ZoneItem → Type 0
GoesOn gives items table left = (rest : List ZoneFound) → SeesZones gives table left rest → Continues gives items table left rest

-- if `GoesOn` holds, and the next file is loaded, then `GoesOn` holds for the new table and the files that remain
pub next_loaded : (gives : Told → Bool) (items left more : List ZoneItem) (item : ZoneItem) (table after : ZoneMap) → left ≡ item ∷ more → GoesOn gives items table left → Loads gives table after item (Ok tt) → GoesOn gives items after more
unfolding table_by
next_loaded gives items left more item table after is goes l rest h =
    let first = rw is at goes in
    let is_loaded : loaded table item l.found ≡ Ok after = l.loads in
    let on = first (l.found ∷ rest) (l.sees, rw is_loaded h) in
    record { found = on.found; sees = on.sees; same = on.same ∙ (rw is_loaded refl) }

-- if `GoesOn` holds, and the next file can't be loaded, then the stop for this file agrees with `table_by`, as
-- `ReadsZones` says
pub next_stops : {T : Type 0} (view : T → ZoneMap) (gives : Told → Bool) (items left more : List ZoneItem) (item : ZoneItem) (table after : ZoneMap) (fault : LoadFault) (stop : declared_stop.Stop) → left ≡ item ∷ more
    → GoesOn gives items table left → Loads gives table after item (Err fault) → StopsAs {X = Unit} stop (Err (load_stop item.name fault)) → ReadsZones view gives items (Err stop)
unfolding table_by
next_stops view gives items left more item table after fault stop is goes l s =
    let first = rw is at goes in
    let is_refused : loaded table item l.found ≡ Err fault = l.loads in
    let on = first (l.found ∷ []) (l.sees, rw is_refused tt) in
    let same : table_by empty items on.found ≡ Err (load_stop item.name fault) = on.same ∙ (rw is_refused refl) in
    record { found = on.found; sees = on.sees; answers = rw same (stops_other stop (load_stop item.name fault) s) }

-- if `GoesOn` holds, and no files remain, then the table agrees with `table_by`, as `ReadsZones` says
pub none_left : {T : Type 0} (view : T → ZoneMap) (gives : Told → Bool) (items left : List ZoneItem) (table : ZoneMap) (result : T) → left ≡ [] → table ≡ view result → GoesOn gives items table left → ReadsZones view gives items (Ok result)
unfolding table_by
none_left view gives items left table result is same goes =
    let on = (rw is at goes) [] tt in
    record { found = on.found; sees = on.sees; answers = on.same ∙ ap (λ m. Ok m) same }

-- ## Determining the local zone

pub finds_rule : (rule : List ℕ) (table : ZoneMap) (zone : ClockZone) (rules : TimeZone) → IsSome (rule_read rule) → IsPosixZone rule rules → zone_of zone ≡ rules → is_utc zone ≡ false → FindsLocal (λ z. z) (by_rule rule) table (Ok zone)
unfolding local_by
finds_rule rule table zone rules some posix is distinct = record {
  zone = zone;
  is_local = rw some (distinct, rw is posix);
  answers = rw some refl;
}

pub finds_name : (name : List ℕ) (table : ZoneMap) (zone : ClockZone) → Some (zone_of zone) ≡ zone_named table name → is_utc zone ≡ is_utc_name name → FindsLocal (λ z. z) (of_name name) table (Ok zone)
unfolding local_by
finds_name name table zone is distinct =
    let there : zone_named table name ≡ Some (zone_of zone) = sym is in
    record { zone = zone; is_local = rw there (distinct, there); answers = rw there refl }

pub finds_no_name : (name : List ℕ) (table : ZoneMap) → None ≡ zone_named table name → FindsLocal (λ z. z) (of_name name) table (Err LocalName)
unfolding local_by
finds_no_name name table is =
    let none : zone_named table name ≡ None = sym is in
    record { zone = utc; is_local = rw none tt; answers = rw none (is_stop LocalName name_stop refl refl refl) }

unread_rule : (rule : List ℕ) (table : ZoneMap) (b : Bool) → is_some (rule_read rule) ≡ b → (IsSome (rule_read rule) → ⊥) → local_by (by_rule rule) table utc ≡ Err rule_stop
unfolding local_by
unread_rule rule table true is h = absurd (h is)
unread_rule rule table false is h = rw is refl

-- if the local zone is given as a POSIX rule that `jiff` can't parse, then `local_by` returns `rule_stop`
pub local_refused : (local : ZoneArgument) (table : ZoneMap) → IsBadRule local → local_by local table utc ≡ Err rule_stop
local_refused in_utc table h = absurd h
local_refused (at_offset seconds) table h = absurd h
local_refused (by_rule rule) table h = unread_rule rule table (is_some (rule_read rule)) refl h
local_refused (of_name name) table h = absurd h

-- ## How the work ended

-- if a stop before the run agrees with `expected`, and nothing was written, then the work ended as `EndsAs` says
pub early : (stop : declared_stop.Stop) (expected : Result Report Stop) (out err : Option (List ℕ)) → StopsAs stop expected → EndsAs (Err stop) expected out out err err
early (Command fault) expected out err s = (s, refl, refl)
early (Zones name fault) expected out err s = (s, refl, refl)
early LocalRule expected out err s = (s, refl, refl)
early LocalName expected out err s = (s, refl, refl)
early Clock expected out err s = (s, refl, refl)
early (Open path) expected out err s = (s, refl, refl)
early (Run OutFailed) expected out err s = absurd (false≢true (sym s.before_out))
early (Run ErrFailed) expected out err s = absurd (false≢true (sym s.before_err))
early (Run NoMemory) expected out err s = (refl, nothing_front out (out_text expected), nothing_front err (err_text expected))

-- if what a run wrote and returned agrees with `report`, then the work ended with this report, as `EndsAs` says
run_ends : (r : Result Status RunFault) (report : Report) (out out' err err' : Option (List ℕ)) → IfOk r (λ status. status ≡ report.status) → Writes out out' r report.out → Writes err err' r report.err → EndsAs (ran r) (Ok report) out out' err err'
run_ends (Ok status) report out out' err err' is out_bytes err_bytes = (ap exit_status (sym is), out_bytes, err_bytes)
run_ends (Err OutFailed) report out out' err err' is out_bytes err_bytes = (refl, out_bytes, err_bytes)
run_ends (Err ErrFailed) report out out' err err' is out_bytes err_bytes = (refl, out_bytes, err_bytes)
run_ends (Err NoMemory) report out out' err err' is out_bytes err_bytes = (refl, out_bytes, err_bytes)

still_front : (a b : Option (List ℕ)) (text : List ℕ) → b ≡ a → AppendsFront a b text
still_front a b text is = rw is (nothing_front a text)

-- if memory ran out while the input of a run was read, then the work ended with `memory_stop`, as `EndsAs` says
unread_ends : (r : Result Status RunFault) (report : Report) (out out' err err' : Option (List ℕ)) → IsReported r out out' err err' (Err whole.NoMemory) report → EndsAs (ran r) (Err memory_stop) out out' err err'
unread_ends (Ok status) report out out' err err' t = absurd (t.had refl)
unread_ends (Err OutFailed) report out out' err err' t = (refl, still_front out out' _ (t.unread refl).0, still_front err err' _ (t.unread refl).1)
unread_ends (Err ErrFailed) report out out' err err' t = (refl, still_front out out' _ (t.unread refl).0, still_front err err' _ (t.unread refl).1)
unread_ends (Err NoMemory) report out out' err err' t = (refl, still_front out out' _ (t.unread refl).0, still_front err err' _ (t.unread refl).1)

-- if the base time is invalid, the report doesn't depend on the result of reading the timer file
file_same : (asked : Request) (name : List ℕ) (fault : StampFault) (a b : Result (List ℕ) WholeFault) → base_in asked ≡ Err fault → file_report asked name a ≡ file_report asked name b
file_same asked name fault a b is = rw is refl

-- Suppose that the file `name` is still unread at the end if the base time is invalid.
module _ (gives : Told → Bool) (is_unread : List ℕ → Bool) (asked : Request) (name : List ℕ) (kept : IfErr (base_in asked) (λ fault. IsTrue (is_unread name))) where
  -- if `read` is what the timer file holds, and the work ended with the outcome for it, then `RunsFile` holds
  timer_ends : (r : Result Status RunFault) (out out' err err' : Option (List ℕ)) (read : Result (List ℕ) WholeFault) → IsTrue (gives (FileHolds name (Contents read)))
      → IfOk r (λ status. status ≡ (file_report asked name read).status) → Writes out out' r (file_report asked name read).out → Writes err err' r (file_report asked name read).err
      → RunsFile gives is_unread asked name (ran r) out out' err err'
  timer_ends r out out' err err' read given status out_bytes err_bytes = record {
    answer = Some (Contents read);
    given = given;
    unread = no_base asked (IsTrue (is_unread name)) kept;
    ends = run_ends r (file_report asked name read) out out' err err' status out_bytes err_bytes;
  }

  -- if a timer file was opened, and what the run wrote and returned agrees with the report for what was read, then the
  -- run agrees with `run_on`, as `RunsFile` says
  timer_by : (r : Result Status RunFault) (left new : Option (List ℕ)) (may_fail failed : Bool) (out out' err err' : Option (List ℕ)) (read : Result (List ℕ) WholeFault) (base : Result ℤ StampFault)
      → base_in asked ≡ base → ((read : Result (List ℕ) WholeFault) → CanGive left may_fail read → IsTrue (gives (FileHolds name (Contents read))))
      → failed ≡ is_read_failed read → (may_fail ≡ false → failed ≡ false) → ReadsFile base left new read → IsReported r out out' err err' read (file_report asked name read)
      → RunsFile gives is_unread asked name (ran r) out out' err err'
  timer_by r left new may_fail failed out out' err err' (Ok all) (Ok base) based holds fails sure input t =
      timer_ends r out out' err err' (Ok all) (holds (Ok all) (new, input)) t.status t.out t.err
  timer_by r left new may_fail failed out out' err err' (Err whole.ReadFailed) (Ok base) based holds fails sure input t =
      timer_ends r out out' err err' (Err whole.ReadFailed) (holds (Err whole.ReadFailed) (can_fail may_fail failed sure fails)) t.status t.out t.err
  timer_by r left new may_fail failed out out' err err' (Err whole.TooLarge) (Ok base) based holds fails sure input t =
      timer_ends r out out' err err' (Err whole.TooLarge) (holds (Err whole.TooLarge) (new, input)) t.status t.out t.err
  timer_by r left new may_fail failed out out' err err' (Err whole.NoMemory) (Ok base) based holds fails sure input t =
      record { answer = None; given = tt; unread = tt; ends = unread_ends r _ out out' err err' t }
  timer_by r left new may_fail failed out out' err err' read (Err fault) based holds fails sure input t =
      let ended = rw (input.1, file_same asked name fault (Ok []) (possible left) based) at t in
      timer_ends r out out' err err' (possible left) (holds (possible left) (is_possible left may_fail)) ended.status ended.out ended.err

  pub timer_runs : (r : Result Status RunFault) (left new : Option (List ℕ)) (may_fail failed : Bool) (out out' err err' : Option (List ℕ)) (read : Result (List ℕ) WholeFault)
      → ((read : Result (List ℕ) WholeFault) → CanGive left may_fail read → IsTrue (gives (FileHolds name (Contents read))))
      → failed ≡ is_read_failed read → (may_fail ≡ false → failed ≡ false) → ReadsFile (base_in asked) left new read → IsReported r out out' err err' read (file_report asked name read)
      → RunsFile gives is_unread asked name (ran r) out out' err err'
  timer_runs r left new may_fail failed out out' err err' read holds fails sure input t =
      timer_by r left new may_fail failed out out' err err' read (base_in asked) refl holds fails sure input t

-- if `opens` is true of a state of the inputs, and the state stays the same if `r` is an error, then `opens` is true of
-- the new state if `r` is an error
pub stays_open : {S T E : Type 0} (opens : S → List ℕ → Bool) (old new : S) (path : List ℕ) (r : Result T E) → IsTrue (opens old path) → IfErr r (λ fault. new ≡ old) → IfErr r (λ fault. IsTrue (opens new path))
stays_open opens old new path (Ok x) before same = tt
stays_open opens old new path (Err fault) before same = subst (λ state. IsTrue (opens state path)) (sym same) before

-- if the timer file can't be opened, and nothing was written, then the stop for this file agrees with `run_on`
pub file_stops : (gives : Told → Bool) (is_unread : List ℕ → Bool) (asked : Request) (name : List ℕ) (stop : declared_stop.Stop) (out err : Option (List ℕ)) → IsTrue (gives (FileHolds name Unopened)) → StopsAs {X = Unit} stop (Err (unopened_stop name))
    → RunsFile gives is_unread asked name (Err stop) out out err err
file_stops gives is_unread asked name stop out err given s = record {
  answer = Some Unopened;
  given = given;
  unread = tt;
  ends = early stop (Err (unopened_stop name)) out err (stops_other stop (unopened_stop name) s);
}

-- if memory ran out while the timer file was opened, and nothing was written, then this agrees with `run_on`
pub memory_stops : (gives : Told → Bool) (is_unread : List ℕ → Bool) (asked : Request) (name : List ℕ) (out err : Option (List ℕ)) → RunsFile gives is_unread asked name (Err (Run NoMemory)) out out err err
memory_stops gives is_unread asked name out err = record {
  answer = None;
  given = tt;
  unread = tt;
  ends = early (Run NoMemory) (Err memory_stop) out err (is_stop (Run NoMemory) memory_stop refl refl refl);
}

-- if a request is for a timer file, and the run for this file agrees with `run_on`, then it agrees with `run_by`
pub runs_file : (gives : Told → Bool) (is_unread : List ℕ → Bool) (asked : Request) (name : List ℕ) (result : Result Status declared_stop.Stop) (out out' err err' : Option (List ℕ)) → for_file name ≡ kind_of asked
    → RunsFile gives is_unread asked name result out out' err err' → Runs gives is_unread asked result out out' err err'
unfolding run_by
runs_file gives is_unread asked name result out out' err err' is r = record {
  answer = r.answer;
  sees = subst (λ kind. SeesFor kind gives r.answer) is r.given;
  unread = subst (λ kind. LeavesUnread is_unread asked kind r.answer) is r.unread;
  ends = subst (λ kind. EndsAs result (run_on asked r.answer kind) out out' err err') is r.ends;
}

-- if the request is for texts, and the run wrote and returned what their report says, then the run agrees with
-- `run_by`, as `Runs` says
pub texts_run : (gives : Told → Bool) (is_unread : List ℕ → Bool) (asked : Request) (verb : TextVerb) (texts : List (List ℕ)) (r : Result Status RunFault) (out out' err err' : Option (List ℕ)) → for_texts verb texts ≡ kind_of asked
    → IfOk r (λ status. status ≡ (texts_report asked verb texts).status) → Writes out out' r (texts_report asked verb texts).out → Writes err err' r (texts_report asked verb texts).err
    → Runs gives is_unread asked (ran r) out out' err err'
unfolding run_by
texts_run gives is_unread asked verb texts r out out' err err' is status out_bytes err_bytes = record {
  answer = None;
  sees = subst (λ kind. SeesFor kind gives None) is tt;
  unread = subst (λ kind. LeavesUnread is_unread asked kind None) is tt;
  ends = subst (λ kind. EndsAs (ran r) (run_on asked None kind) out out' err err') is (run_ends r (texts_report asked verb texts) out out' err err' status out_bytes err_bytes);
}

-- ## All steps together
--
-- The work stops at the zone files, at the local zone or at the present instant, or it gets to the run.

module _ (gives : Told → Bool) (is_unread : List ℕ → Bool) (ask : Ask) (stop : declared_stop.Stop) (out err : Option (List ℕ)) where
  pub zones_stop : ReadsZones (λ table. table) gives ask.zones (Err stop) → Answered gives is_unread ask (Err stop) out out err err
  unfolding outcome_of
  zones_stop z = record {
    world = record { parsed = Ok ask; zones = z.found; local = utc; clock = None; file = None };
    fits = record {
      zones = z.sees;
      after = no_ok (table_by empty ask.zones z.found) _ z.answers.stopped;
      file = no_ok (table_by empty ask.zones z.found) _ z.answers.stopped;
    };
    unread = no_ok (table_by empty ask.zones z.found) _ z.answers.stopped;
    ends = early stop _ out err (stops stop _ (table_by empty ask.zones z.found) z.answers);
  }

  pub local_stops : (table : ZoneMap) (zone : ClockZone) → ReadsZones (λ table. table) gives ask.zones (Ok table) → StopsAs stop (local_by ask.local table zone) → Answered gives is_unread ask (Err stop) out out err err
  unfolding outcome_of
  local_stops table zone z s = record {
    world = record { parsed = Ok ask; zones = z.found; local = zone; clock = None; file = None };
    fits = record {
      zones = z.sees;
      after = rw z.answers (no_ok (local_by ask.local table zone) _ s.stopped);
      file = rw z.answers (no_ok (local_by ask.local table zone) _ s.stopped);
    };
    unread = rw z.answers (no_ok (local_by ask.local table zone) _ s.stopped);
    ends = early stop _ out err (rw z.answers (stops stop _ (local_by ask.local table zone) s));
  }

  pub clock_stops : (table : ZoneMap) (local : ClockZone) → ReadsZones (λ table. table) gives ask.zones (Ok table) → FindsLocal (λ zone. zone) ask.local table (Ok local)
      → (clock : Option ℤ) → IfNone ask.now (IsTrue (gives (ClockShows clock))) → StopsAs stop (present_by ask.now clock) → Answered gives is_unread ask (Err stop) out out err err
  unfolding outcome_of
  clock_stops table local z l clock is_time s =
      let found = rw l.answers at l.is_local in
      record {
        world = record { parsed = Ok ask; zones = z.found; local = l.zone; clock = clock; file = None };
        fits = record {
          zones = z.sees;
          after = rw (z.answers, l.answers) (found, is_time);
          file = rw (z.answers, l.answers) (no_ok (present_by ask.now clock) _ s.stopped);
        };
        unread = rw (z.answers, l.answers) (no_ok (present_by ask.now clock) _ s.stopped);
        ends = early stop _ out err (rw (z.answers, l.answers) (stops stop _ (present_by ask.now clock) s));
      }

pub ran_whole : (gives : Told → Bool) (is_unread : List ℕ → Bool) (ask : Ask) (result : Result Status declared_stop.Stop) (out out' err err' : Option (List ℕ)) (table : ZoneMap) (local : ClockZone) (now : ℤ)
    → ReadsZones (λ table. table) gives ask.zones (Ok table) → FindsLocal (λ zone. zone) ask.local table (Ok local)
    → (clock : Option ℤ) → IfNone ask.now (IsTrue (gives (ClockShows clock))) → present_by ask.now clock ≡ Ok now
    → Runs gives is_unread (asked_at ask table local now) result out out' err err' → Answered gives is_unread ask result out out' err err'
unfolding outcome_of
ran_whole gives is_unread ask result out out' err err' table local now z l clock is_time is_now r =
    let found = rw l.answers at l.is_local in
    record {
      world = record { parsed = Ok ask; zones = z.found; local = l.zone; clock = clock; file = r.answer };
      fits = record {
        zones = z.sees;
        after = rw (z.answers, l.answers) (found, is_time);
        file = rw (z.answers, l.answers, is_now) r.sees;
      };
      unread = rw (z.answers, l.answers, is_now) r.unread;
      ends = rw (z.answers, l.answers, is_now) r.ends;
    }

-- if the arguments were accepted, and the work that they ask for agrees with `outcome_of` (`Answered`), then the whole
-- work agrees with `outcome` (`AnsweredArguments`)
pub arguments_answered : (gives : Told → Bool) (is_unread : List ℕ → Bool) (arguments : List (List ℕ)) (ask : Ask) (result : Result Status declared_stop.Stop) (out out' err err' : Option (List ℕ)) → IsAskOf arguments (Ok ask) → Answered gives is_unread ask result out out' err err' → AnsweredArguments gives is_unread arguments result out out' err err'
unfolding outcome outcome_of
arguments_answered gives is_unread arguments ask result out out' err err' asks a = record {
  world = record { parsed = Ok ask; zones = a.world.zones; local = a.world.local; clock = a.world.clock; file = a.world.file };
  fits = record { parsed = asks; fits = record { zones = a.fits.zones; after = a.fits.after; file = a.fits.file } };
  unread = a.unread;
  ends = a.ends;
}

-- an error of the command line isn't due to a failed output
no_output : (fault : CommandFault) → (is_out_failure (command_outlet fault) ≡ false) × (is_err_failure (command_outlet fault) ≡ false)
no_output (usage text) = (refl, refl)
no_output (help text) = (refl, refl)
no_output (bad_value message) = (refl, refl)
no_output no_memory = (refl, refl)

command_stops : (fault : declared_fault.CommandFault) → StopsAs {X = Report} (Command fault) (Err (command_stop (shown_fault fault)))
command_stops fault = let apart = no_output (shown_fault fault) in is_stop (Command fault) (command_stop (shown_fault fault)) apart.0 apart.1 refl

-- if the arguments were rejected or ask for help, and nothing was written, then the stop for the arguments agrees with
-- `outcome` (`AnsweredArguments`)
pub arguments_refused : (gives : Told → Bool) (is_unread : List ℕ → Bool) (arguments : List (List ℕ)) (fault : declared_fault.CommandFault) (out err : Option (List ℕ)) → IsAskOf arguments (Err (shown_fault fault)) → AnsweredArguments gives is_unread arguments (Err (Command fault)) out out err err
unfolding outcome
arguments_refused gives is_unread arguments fault out err asks = record {
  world = record { parsed = Err (shown_fault fault); zones = []; local = utc; clock = None; file = None };
  fits = record { parsed = asks; fits = tt };
  unread = tt;
  ends = (command_stops fault, refl, refl);
}
