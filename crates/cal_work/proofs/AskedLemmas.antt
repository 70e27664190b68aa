-- Lemmas for the clause `headline` of `work`: what the arguments ask for. Either they make a request of the system, and
-- the outcome of the work is the outcome of this request, or the work stops before the run.
use Rattle.std.proofs.Common.{◌≡◌, ◌⊎◌, inl, inr, ℕ, ℤ, Bool, true, false, List, [], ◌∷◌, Option, None, Some, Result, Ok, Err, IfOk, IfNone, IfSome, refl, sym, ap, subst, ◌∙◌, arith}
use Rattle.std.specs.Prelude.{IfErr, IsTrue, is_some, not, ◌&&◌, ◌==◌, ◌≤◌, pos, negsuc, int_lt, if◌then◌else◌, codes, option_map}
use Rattle.std.specs.Option.{option_map_or}
use Rattle.std.specs.List.{list_any}
use Rattle.std.specs.FinMap.{empty, insert}
use Rattle.std.proofs.lemmas.Bool.{false≢true}
use Rattle.std.proofs.lemmas.Int.{ints}
use Rattle.jiff.specs.Types.{TimeZone}
use Rattle.jiff.specs.Words.{read_whole as rule_read}
use Rattle.cal_zone.specs.rules.AddedZones.{is_taken}
use Rattle.cal_zone.specs.rules.Instant.{IsInstant, last_instant}
use Rattle.cal_zone.specs.rules.ZoneFile.{IsFileZone}
use Rattle.cal_bytes.specs.declared.whole.WholeFault.{WholeFault}
use Rattle.cal_bytes.specs.declared.whole.WholeFault.TheVariants as whole
use Rattle.cal_zone.specs.rules.ZoneTable.{ZoneMap, zone_named}
use Rattle.cal_civil.specs.rules.ZoneName.{is_zone_name}
use Rattle.cal_zone.specs.declared.zone.Zone.{Zone as ClockZone}
use Rattle.cal_zone.specs.declared.zone_fault.ZoneFault.TheVariants as zone
use Rattle.cal_zone.specs.declared.zone_files.LoadFault.{LoadFault}
use Rattle.cal_zone.specs.declared.zone_files.LoadFault.TheVariants.{ReadFailed, Zone}
use Rattle.cal_zone.specs.rules.ZoneArgument.{ZoneArgument, in_utc, at_offset, by_rule, of_name}
use Rattle.cal_command.specs.rules.Ask.{Ask, ZoneItem}
use Rattle.cal_command.specs.rules.CommandFault.{CommandFault, usage, help, bad_value, bad_iterations, bad_local, bad_now, bad_zones, no_memory}
use Rattle.cal_command.specs.rules.CommandLine.{IsAskOf, ask_in, parsed_in, read_options, unless_bad}
use Rattle.cal_options.specs.rules.ArgumentFault.{is_of_help}
use Rattle.cal_options.specs.rules.OptionNumbers.{number_between, present_in}
use Rattle.cal_command.specs.rules.VerbMatches.{VerbMatches, elapse_option, instant_option}
use Rattle.cal_options.proofs.NumberLemmas.{number_between-range}
use Rattle.cal_report.specs.rules.ReportLines.{Report}
use Rattle.cal_request.specs.rules.Request.{Request}
use Rattle.cal_work.specs.rules.Outcome.{World, ZoneFound, and_then, asked_at, instant_in, loaded, local_by, or_clock_stop, or_load_stop, outcome, outcome_of, outcome_of_parsed, present_by, run_by, table_by, with_contents, with_file, with_zone}
use Rattle.cal_work.specs.rules.ProgramHeadline.{AreZonesOf, IsPresent, IsRequestOf}
use Rattle.cal_work.specs.rules.Stop.{Stop, load_stop, memory_stop, name_stop, rule_stop, with_line}
use Rattle.cal_machine.specs.rules.Told.{ClockShows, Contents, FileHolds, Told, Unopened}
use Rattle.cal_work.specs.rules.FileAnswer.{FileAnswer, Gave}
use Rattle.cal_work.specs.rules.Works.{Fits, FitsArguments, IsReadZone, ReadsZone, SeesFile, SeesZone, SeesZones}

-- ## What the arguments ask for

-- if the arguments ask for `ask`, then no other result of parsing them is right, except that memory ran out
asked_for : (arguments : List (List ℕ)) (ask : Ask) (parsed : Result Ask CommandFault) → IsAskOf arguments (Ok ask) → IsAskOf arguments parsed
    → (parsed ≡ Ok ask) ⊎ (parsed ≡ Err no_memory)
asked_for arguments ask (Ok other) given is =
    let same : ◌≡◌ {A = Option (Result Ask CommandFault)} (Some (Ok other)) (Some (Ok ask)) = sym is.1 ∙ given.1 in inl (cc)
asked_for arguments ask (Err (usage text)) given is =
    absurd (false≢true (sym (ap (list_any (λ kind. not (is_of_help kind))) given.0) ∙ is.1))
asked_for arguments ask (Err (help text)) given is =
    absurd (false≢true (sym (ap (list_any is_of_help) given.0) ∙ is.1))
asked_for arguments ask (Err (bad_value message)) given is =
    let never : ◌≡◌ {A = Option (Result Ask CommandFault)} (Some (Ok ask)) (Some (Err (bad_value message))) = sym given.1 ∙ is.1 in cc
asked_for arguments ask (Err no_memory) given is = inr refl

-- ## The instant that `--now` gives

most_instant : (n : ℕ) → n ≤ 7_258_211_998 → IsInstant (pos n)
most_instant n h = (omega (arith, ints, h), omega (arith, ints, h))

instant_of_number : (number : Option ℕ) (secs : ℤ) → ((n : ℕ) → Some n ≡ number → n ≤ 7_258_211_998) → option_map pos number ≡ Some secs → IsInstant secs
instant_of_number None secs small h = cc
instant_of_number (Some n) secs small h =
    let same : pos n ≡ secs = cc in
    subst IsInstant same (most_instant n (small n refl))

instant_after_mark : (marked : Bool) (number : Option ℕ) (secs : ℤ) → ((n : ℕ) → Some n ≡ number → n ≤ 7_258_211_998)
    → (if marked then option_map pos number else None) ≡ Some secs → IsInstant secs
instant_after_mark true number secs small h = instant_of_number number secs small h
instant_after_mark false number secs small h = cc

present_instant : (text : List ℕ) (secs : ℤ) → present_in text ≡ Some secs → IsInstant secs
unfolding present_in
present_instant [] secs h = cc
present_instant (byte ∷ bytes) secs h =
    instant_after_mark (byte == 64) (number_between 0 7_258_211_998 bytes) secs (λ n is. (number_between-range 0 7_258_211_998 n bytes is).1) h

instant_if_some : (present now : Option ℤ) (taken : Option (Option ℤ)) → taken ≡ option_map Some present → ((secs : ℤ) → present ≡ Some secs → IsInstant secs)
    → taken ≡ Some now → IfSome now IsInstant
instant_if_some None now taken is instant h = cc
instant_if_some (Some secs) now taken is instant h =
    let same : Some secs ≡ now = cc in
    subst (λ o. IfSome o IsInstant) same (instant secs refl)

instant_in_option : (value : Option (List ℕ)) (now : Option ℤ) → option_map_or (λ text. option_map Some (present_in text)) value (Some None) ≡ Some now → IfSome now IsInstant
instant_in_option None now h =
    let same : None ≡ now = cc in
    subst (λ o. IfSome o IsInstant) same tt
instant_in_option (Some text) now h = instant_if_some (present_in text) now _ refl (present_instant text) h

-- if the values of all options are valid, then the value of `--now` is valid, and the resulting `ask` has it as its
-- present
read_in_turn : (iterations : Option ℕ) (now : Option (Option ℤ)) (zones : Option (List ZoneItem)) (local : Option ZoneArgument)
    (made : ℕ → Option ℤ → List ZoneItem → ZoneArgument → Ask) (ask : Ask) → ((i : ℕ) (n : Option ℤ) (z : List ZoneItem) (l : ZoneArgument) → (made i n z l).now ≡ n)
    → unless_bad bad_iterations iterations (λ i. unless_bad bad_now now (λ n. unless_bad bad_zones zones (λ z. unless_bad bad_local local (λ l. Ok (made i n z l))))) ≡ Ok ask
    → now ≡ Some ask.now
read_in_turn None now zones local made ask kept h = cc
read_in_turn (Some i) None zones local made ask kept h = cc
read_in_turn (Some i) (Some n) None local made ask kept h = cc
read_in_turn (Some i) (Some n) (Some z) None made ask kept h = cc
read_in_turn (Some i) (Some n) (Some z) (Some l) made ask kept h =
    let same : made i n z l ≡ ask = cc in
    ap (λ (o : Option ℤ). Some o) (sym (kept i n z l) ∙ ap (λ (a : Ask). a.now) same)

instant_read : (found : VerbMatches) (ask : Ask) → read_options found ≡ Ok ask → IfSome ask.now IsInstant
unfolding read_options
instant_read found ask h =
    instant_in_option (instant_option found (codes "now")) ask.now
    (read_in_turn _ _ _ _ (λ i n z l. record {
      verb = found.verb;
      texts = found.texts;
      iterations = i;
      base = elapse_option found (codes "base-time");
      now = n;
      local = l;
      zones = z;
    }) ask (λ i n z l. refl) h)

instant_found : (found : Option VerbMatches) (ask : Ask) → option_map read_options found ≡ Some (Ok ask) → IfSome ask.now IsInstant
instant_found None ask h = cc
instant_found (Some found) ask h = let is : read_options found ≡ Ok ask = cc in instant_read found ask is

instant_given : (arguments : List (List ℕ)) (ask : Ask) → IsAskOf arguments (Ok ask) → IfSome ask.now IsInstant
unfolding ask_in
instant_given arguments ask asks = instant_found (parsed_in arguments) ask asks.1

-- ## Stops

-- the stop writes nothing to standard output, and its status isn't 0
pub record IsFault (stop : Stop) : Type 0 where
  pub out : stop.out ≡ []
  pub status : stop.status ≡ 0 → ⊥

pub is_fault : (line : List ℕ) (status : ℕ) → (status ≡ 0 → ⊥) → IsFault (with_line line status)
is_fault line status h = record { out = refl; status = h }

pub one : ◌≡◌ {A = ℕ} 1 0 → ⊥
one e = omega (arith, e)

pub two : ◌≡◌ {A = ℕ} 2 0 → ⊥
two e = omega (arith, e)

loading_fault : (name : List ℕ) (fault : LoadFault) → IsFault (load_stop name fault)
loading_fault name ReadFailed = is_fault _ 2 two
loading_fault name (Zone zone.BadName) = is_fault _ 2 two
loading_fault name (Zone zone.BadRule) = is_fault _ 2 two
loading_fault name (Zone zone.BadFile) = is_fault _ 2 two
loading_fault name (Zone zone.TooLarge) = is_fault _ 2 two
loading_fault name (Zone zone.NoMemory) = is_fault _ 1 one
loading_fault name (Zone zone.NameTaken) = is_fault _ 2 two

-- ## The zone files

-- the zone of one file was added to the table `before`, which made it the table `more`
record IsAdded (gives : Told → Bool) (before : ZoneMap) (item : ZoneItem) (more : ZoneMap) : Type 0 where
  bytes : List ℕ
  tz : TimeZone
  given : IsTrue (gives (FileHolds item.path (Contents (Ok bytes))))
  parsed : IsFileZone item.name bytes tz
  free : is_taken before item.name ≡ false
  is : more ≡ insert before item.name tz

module _ (gives : Told → Bool) (before : ZoneMap) (item : ZoneItem) (more : ZoneMap) where
  added_free : (bytes : List ℕ) (tz : TimeZone) → IsTrue (gives (FileHolds item.path (Contents (Ok bytes)))) → IsFileZone item.name bytes tz
      → (taken : Bool) → is_taken before item.name ≡ taken
      → ◌≡◌ {A = Result ZoneMap LoadFault} (if taken then Err (Zone zone.NameTaken) else Ok (insert before item.name tz)) (Ok more) → IsAdded gives before item more
  added_free bytes tz given is_zone true free h = cc
  added_free bytes tz given is_zone false free h = record { bytes = bytes; tz = tz; given = given; parsed = is_zone; free = free; is = cc }

  added_zone : (bytes : List ℕ) (read : Option TimeZone) → IsTrue (gives (FileHolds item.path (Contents (Ok bytes))))
      → IsReadZone item.name bytes read → with_zone before item.name read ≡ Ok more → IsAdded gives before item more
  added_zone bytes None given reads h = cc
  added_zone bytes (Some tz) given reads h = added_free bytes tz given reads (is_taken before item.name) refl h

  added_contents : (read : Result (List ℕ) WholeFault) (tz : Option TimeZone) (valid : Bool) → is_zone_name item.name ≡ valid
      → IsTrue (gives (FileHolds item.path (Contents read))) → ReadsZone item.name (Some (Contents read)) tz
      → ◌≡◌ {A = Result ZoneMap LoadFault} (if valid then with_contents before item.name tz read else Err (Zone zone.BadName)) (Ok more) → IsAdded gives before item more
  added_contents (Ok bytes) tz true named given reads h = added_zone bytes tz given (reads named) h
  added_contents (Err whole.ReadFailed) tz true named given reads h = cc
  added_contents (Err whole.TooLarge) tz true named given reads h = cc
  added_contents (Err whole.NoMemory) tz true named given reads h = cc
  added_contents read tz false named given reads h = cc

  added_file : (answer : FileAnswer) (tz : Option TimeZone) → Gave gives item.path answer → ReadsZone item.name answer tz
      → with_file before item.name tz answer ≡ Ok more → IsAdded gives before item more
  added_file None tz given reads h = cc
  added_file (Some Unopened) tz given reads h = cc
  added_file (Some (Contents read)) tz given reads h = added_contents read tz (is_zone_name item.name) refl given reads h

  added : (found : ZoneFound) → SeesZone gives item found → loaded before item found ≡ Ok more → IsAdded gives before item more
  unfolding loaded
  added found sees h = added_file found.answer found.zone sees.given sees.reads h

-- the table has the zones of the files, or the work stopped with a fault
ZonesEnd : (Told → Bool) → ZoneMap → List ZoneItem → Result ZoneMap Stop → Type 0
ZonesEnd gives before items (Ok table) = AreZonesOf gives before items table
ZonesEnd gives before items (Err stop) = IsFault stop

one_more : (gives : Told → Bool) (before more : ZoneMap) (item : ZoneItem) (items : List ZoneItem) (end : Result ZoneMap Stop) → IsAdded gives before item more
    → ZonesEnd gives more items end → ZonesEnd gives before (item ∷ items) end
unfolding ZonesEnd
one_more gives before more item items (Ok table) add rest =
    (add.bytes, add.tz, add.given, add.parsed, add.free, subst (λ start. AreZonesOf gives start items table) add.is rest)
one_more gives before more item items (Err stop) add rest = rest

file_ends : (gives : Told → Bool) (before : ZoneMap) (item : ZoneItem) (items : List ZoneItem) (found : ZoneFound) (later : List ZoneFound) → SeesZone gives item found
    → (r : Result ZoneMap LoadFault) → loaded before item found ≡ r → IfOk r (λ more. SeesZones gives more items later)
    → ((more : ZoneMap) → SeesZones gives more items later → ZonesEnd gives more items (table_by more items later))
    → ZonesEnd gives before (item ∷ items) (and_then (λ more. table_by more items later) (or_load_stop item.name r))
unfolding ZonesEnd
file_ends gives before item items found later sees (Ok more) is rest next =
    one_more gives before more item items (table_by more items later) (added gives before item more found sees is) (next more rest)
file_ends gives before item items found later sees (Err fault) is rest next = loading_fault item.name fault

zones_end : (gives : Told → Bool) (before : ZoneMap) (items : List ZoneItem) (found : List ZoneFound) → SeesZones gives before items found
    → ZonesEnd gives before items (table_by before items found)
unfolding table_by ZonesEnd
zones_end gives before [] found sees = refl
zones_end gives before (item ∷ items) [] sees = absurd sees
zones_end gives before (item ∷ items) (f ∷ found) sees =
    file_ends gives before item items f found sees.0 (loaded before item f) refl sees.1 (λ more rest. zones_end gives more items found rest)

zones_fault : (gives : Told → Bool) (before : ZoneMap) (items : List ZoneItem) (end : Result ZoneMap Stop) → ZonesEnd gives before items end → IfErr end IsFault
unfolding ZonesEnd
zones_fault gives before items (Ok table) h = tt
zones_fault gives before items (Err stop) h = h

zones_are : (gives : Told → Bool) (before : ZoneMap) (items : List ZoneItem) (end : Result ZoneMap Stop) (table : ZoneMap) → end ≡ Ok table → ZonesEnd gives before items end
    → AreZonesOf gives before items table
unfolding ZonesEnd
zones_are gives before items (Ok other) table is h =
    let same : other ≡ table = cc in
    subst (AreZonesOf gives before items) same h
zones_are gives before items (Err stop) table is h = cc

-- ## The local zone and the present instant

unless_fault : (found : Bool) (local : ClockZone) (stop : Stop) → IsFault stop → IfErr (if found then Ok local else Err stop) IsFault
unless_fault true local stop h = tt
unless_fault false local stop h = h

local_fault : (given : ZoneArgument) (table : ZoneMap) (local : ClockZone) → IfErr (local_by given table local) IsFault
unfolding local_by
local_fault in_utc table local = tt
local_fault (at_offset seconds) table local = tt
local_fault (by_rule rule) table local = unless_fault (is_some (rule_read rule)) local rule_stop (is_fault _ 2 two)
local_fault (of_name name) table local = unless_fault (is_some (zone_named table name)) local name_stop (is_fault _ 2 two)

clock_fault : (now : Option ℤ) → IfErr (or_clock_stop now) IsFault
clock_fault None = is_fault _ 2 two
clock_fault (Some now) = tt

present_fault : (given clock : Option ℤ) → IfErr (present_by given clock) IsFault
unfolding present_by
present_fault (Some now) clock = tt
present_fault None None = is_fault _ 2 two
present_fault None (Some secs) = clock_fault (instant_in secs)

instant_by : (secs : ℤ) (low high : Bool) → int_lt secs (pos 0) ≡ low → int_lt last_instant secs ≡ high → (not low && not high) ≡ true → IsInstant secs
instant_by secs true high l h is = absurd (false≢true is)
instant_by secs false true l h is = absurd (false≢true is)
instant_by (pos n) false false l h is = grind (arith, int_lt, ints)
instant_by (negsuc n) false false l h is = absurd (false≢true (sym l))

in_range : (secs now : ℤ) (tested : Bool) → (not (int_lt secs (pos 0)) && not (int_lt last_instant secs)) ≡ tested → or_clock_stop (if tested then Some secs else None) ≡ Ok now
    → (secs ≡ now) × IsInstant secs
in_range secs now true is h = (cc, instant_by secs _ _ refl refl is)
in_range secs now false is h = cc

present_is : (gives : Told → Bool) (given clock : Option ℤ) (now : ℤ) → IfSome given IsInstant → IfNone given (IsTrue (gives (ClockShows clock)))
    → present_by given clock ≡ Ok now → IsPresent gives given now
unfolding present_by instant_in
present_is gives (Some given) clock now instant shown h =
    let same : given ≡ now = cc in
    (sym same, subst IsInstant same instant)
present_is gives None None now instant shown h = cc
present_is gives None (Some secs) now instant shown h =
    let found = in_range secs now _ refl h in
    subst (λ t. IsTrue (gives (ClockShows (Some t))) × IsInstant t) found.0 (shown, found.1)

-- ## All steps together

-- the work ended with the report of the request, or with a stop of the run
pub record Ran (gives : Told → Bool) (ask : Ask) (world : World) (end : Result Report Stop) : Type 0 where
  pub asked : Request
  pub request : IsRequestOf gives ask asked
  pub file : SeesFile gives asked world.file
  pub is : end ≡ run_by asked world.file

pub record Stopped (end : Result Report Stop) : Type 0 where
  pub stop : Stop
  pub is : end ≡ Err stop
  pub fault : IsFault stop

unfoldable pub Ends : (Told → Bool) → Ask → World → Result Report Stop → Type 0
Ends gives ask world end = Ran gives ask world end ⊎ Stopped end

stops_here : (gives : Told → Bool) (ask : Ask) (world : World) (stop : Stop) → IsFault stop → Ends gives ask world (Err stop)
unfolding Ends
stops_here gives ask world stop fault = inr (record { stop = stop; is = refl; fault = fault })

step : {A : Type 0} (gives : Told → Bool) (ask : Ask) (world : World) (next : A → Result Report Stop) (r : Result A Stop) → IfErr r IsFault
    → ((x : A) → r ≡ Ok x → Ends gives ask world (next x)) → Ends gives ask world (and_then next r)
step gives ask world next (Ok x) fault h = h x refl
step gives ask world next (Err stop) fault h = stops_here gives ask world stop fault

ends : (gives : Told → Bool) (ask : Ask) (world : World) → IfSome ask.now IsInstant → Fits gives ask world → Ends gives ask world (outcome_of ask world)
unfolding outcome_of Ends
ends gives ask world instant fits =
    let zones = zones_end gives empty ask.zones world.zones fits.zones in
    step gives ask world _ (table_by empty ask.zones world.zones) (zones_fault gives empty ask.zones _ zones) (λ table is_table.
    let after = rw is_table at fits.after in
    step gives ask world _ (local_by ask.local table world.local) (local_fault ask.local table world.local) (λ local is_local.
    let later = rw is_local at after in
    step gives ask world _ (present_by ask.now world.clock) (present_fault ask.now world.clock) (λ now is_now.
    inl (record {
      asked = asked_at ask table local now;
      request = record {
        verb = refl;
        texts = refl;
        iterations = refl;
        base = refl;
        now = present_is gives ask.now world.clock now instant later.1 is_now;
        zones = zones_are gives empty ask.zones _ table is_table zones;
        local = later.0;
      };
      file = rw (is_table, is_local, is_now) at fits.file;
      is = refl;
    }))))

ends_by : (gives : Told → Bool) (ask : Ask) (world : World) → IfSome ask.now IsInstant → (parsed : Result Ask CommandFault) → world.parsed ≡ parsed → (parsed ≡ Ok ask) ⊎ (parsed ≡ Err no_memory)
    → IfOk parsed (λ a. Fits gives a world) → Ends gives ask world (outcome world)
unfolding outcome Ends
ends_by gives ask world instant parsed is (inl h) fits =
    subst (λ p. Ends gives ask world (outcome_of_parsed p world)) (sym (is ∙ h)) (ends gives ask world instant (rw h at fits))
ends_by gives ask world instant parsed is (inr h) fits =
    subst (λ p. Ends gives ask world (outcome_of_parsed p world)) (sym (is ∙ h)) (stops_here gives ask world memory_stop (is_fault _ 1 one))

pub work_ends : (gives : Told → Bool) (arguments : List (List ℕ)) (ask : Ask) (world : World) → FitsArguments gives arguments world → IsAskOf arguments (Ok ask)
    → Ends gives ask world (outcome world)
work_ends gives arguments ask world fits asks =
    ends_by gives ask world (instant_given arguments ask asks) world.parsed refl (asked_for arguments ask world.parsed asks fits.parsed) fits.fits
