-- Lemmas on the lines whose zone can't be used, and on the calendar without them.
use Rattle.std.proofs.Common.{◌≡◌, ◌∙◌, ◌||◌, ◌&&◌, ℕ, All, Bool, List, Option, [], ◌∷◌, ◌++◌, None, Some, false, true, not, ap, append-nil, cond, filter, inl, inr, map, refl, string_bytes, subst, sym}
use Rattle.std.proofs.lemmas.Bool.{false≢true}
use Rattle.std.proofs.lemmas.List.Concat.{flat_map-append}
use Rattle.std.proofs.lemmas.List.Elements.{All-cons, All-head, All-nil, All-tail, filter-append, filter_passes}
use Rattle.std.proofs.lemmas.List.Folds.{list_any-append}
use Rattle.std.proofs.lemmas.Slice.Eq.{bytes_eq-Decides}
use Rattle.std.specs.FinMap.{empty}
use Rattle.std.specs.List.{AllZip, list_any}
use Rattle.std.specs.Option.{option_to_list}
use Rattle.std.specs.Prelude.{is_some}
use Rattle.std.specs.Str.{bytes_eq}
use Rattle.cal_civil.specs.rules.ZoneName.{is_utc_name}
use Rattle.cal_machine.specs.rules.Machine.{Machine}
use Rattle.cal_spec.specs.rules.Fields.{Fields}
use Rattle.cal_spec.specs.rules.ZoneSuffix.{name_in}
use Rattle.cal_timer.specs.declared.timer.TimerLine as declared_line
use Rattle.cal_timer.specs.rules.TimerEntries.{TimerLine}
use Rattle.cal_timer.specs.rules.TimerView.{shown}
use Rattle.cal_unit_index.specs.rules.Files.{UnitText}
use Rattle.cal_zone.specs.rules.ZoneTable.{ZoneMap, zone_named}
use Rattle.cal_zone_files.specs.rules.ZoneFiles.{HasZonesOf, IsReasonOn}
use Rattle.cal_load.specs.declared.calendar.Calendar as calendars
use Rattle.cal_load.specs.declared.zones.CalendarZones.{CalendarZones}
use Rattle.cal_load.specs.declared.zones.UnusableZone.{UnusableZone}
use Rattle.cal_load.specs.rules.Expressions.{names_zone}
use Rattle.cal_load.specs.rules.CalendarZones.{HasZonesFor, HasZonesNamedIn, exceptions_in, expressions_in}
use Rattle.cal_load.specs.rules.Loaded.{AreTried, HasNames, IsCalendarBy, IsCalendarOf, IsStartedBy, IsTried, IsZoned, entries_of_files, exceptions_of_files, expressions_of_files, is_loaded, timer_assignments, unclear_of_files, zone_names_in}
use Rattle.cal_load.specs.rules.Notes.{starts_unit}
use Rattle.cal_load.specs.rules.TextFaults.{StartNothing}
use Rattle.cal_load.specs.rules.UnusableZones.{AreUnusableLines, IsUnusableLine, IsUnusableZoneOf, NamesUnusableZone, has_zone, is_zone_in}
use Rattle.cal_zone_files.proofs.ZoneLemmas.{empty_has, empty_has_none}

-- ## Filters

shown_step : (c : Bool) (line : declared_line.TimerLine) (kept : List declared_line.TimerLine) (all : List (TimerLine Fields)) → map shown kept ≡ all
    → map shown (cond c (line ∷ kept) kept) ≡ cond c (shown line ∷ all) all
shown_step true line kept all e = ap (λ rest. shown line ∷ rest) e
shown_step false line kept all e = e

pub filtered_shown : (keep : TimerLine Fields → Bool) (old new : List declared_line.TimerLine) → new ≡ filter (λ line. keep (shown line)) old
    → map shown new ≡ filter keep (map shown old)
filtered_shown keep old new e = ap (map shown) e ∙ shown_all old
  where
    shown_all : (lines : List declared_line.TimerLine) → map shown (filter (λ line. keep (shown line)) lines) ≡ filter keep (map shown lines)
    shown_all [] = refl
    shown_all (line ∷ lines) = shown_step (keep (shown line)) line _ _ (shown_all lines)

-- ## One more entry

zone_in_more : (old new : ZoneMap) (name : Option (List ℕ)) → ((other : List ℕ) → is_some (zone_named old other) ≡ true → is_some (zone_named new other) ≡ true)
    → is_zone_in old name ≡ true → is_zone_in new name ≡ true
zone_in_more old new None more h = refl
zone_in_more old new (Some name) more h = more name h

-- if lines fit the entries (`AreTried`), they still fit after more zones are added to the table
tried_more : (machine : Machine) (old new : ZoneMap) (entries : List (TimerLine Fields)) (lines : List UnusableZone)
    → ((other : List ℕ) → is_some (zone_named old other) ≡ true → is_some (zone_named new other) ≡ true)
    → AreTried machine old entries lines → AreTried machine new entries lines
tried_more machine old new [] lines more h = h
tried_more machine old new (entry ∷ entries) lines more h =
    elim h [
      | inl kept ↦ inl (zone_in_more old new (name_in entry.expr.zone) more kept.0, tried_more machine old new entries lines more kept.1)
      | inr left ↦ inr (left.0, left.1, left.2, left.3, tried_more machine old new entries left.1 more left.4)
    ]

kept_tried : (machine : Machine) (table : ZoneMap) (entries : List (TimerLine Fields)) (entry : TimerLine Fields) (lines : List UnusableZone)
    → has_zone table entry ≡ true → AreTried machine table entries lines → AreTried machine table (entries ++ entry ∷ []) lines
kept_tried machine table [] entry lines e h = inl (e, h)
kept_tried machine table (first ∷ entries) entry lines e h =
    elim h [
      | inl kept ↦ inl (kept.0, kept_tried machine table entries entry lines e kept.1)
      | inr left ↦ inr (left.0, left.1, left.2, left.3, kept_tried machine table entries entry left.1 e left.4)
    ]

left_tried : (machine : Machine) (table : ZoneMap) (entries : List (TimerLine Fields)) (entry : TimerLine Fields) (lines : List UnusableZone) (line : UnusableZone)
    → IsUnusableLine machine entry line → AreTried machine table entries lines → AreTried machine table (entries ++ entry ∷ []) (lines ++ line ∷ [])
left_tried machine table [] entry lines line is h = inr (line, [], ap (λ all. all ++ line ∷ []) h, is, refl)
left_tried machine table (first ∷ entries) entry lines line is h =
    elim h [
      | inl kept ↦ inl (kept.0, left_tried machine table entries entry lines line is kept.1)
      | inr left ↦ inr (left.0, left.1 ++ line ∷ [], ap (λ all. all ++ line ∷ []) left.2, left.3, left_tried machine table entries entry left.1 line is left.4)
    ]

-- a list of entries with `entry` appended names a zone if and only if the list names it or `entry` does
named_more : (entries : List (TimerLine Fields)) (entry : TimerLine Fields) (name : List ℕ)
    → list_any (bytes_eq name) (zone_names_in (entries ++ entry ∷ [])) ≡ (list_any (bytes_eq name) (zone_names_in entries) || names_zone name entry)
named_more entries entry name =
    let own = option_to_list (name_in entry.expr.zone) in
    ap (list_any (bytes_eq name)) (flat_map-append (λ (entry : TimerLine Fields). option_to_list (name_in entry.expr.zone)) entries (entry ∷ []) ∙ ap (λ last. zone_names_in entries ++ last) (append-nil own))
    ∙ list_any-append (bytes_eq name) (zone_names_in entries) own

or_more : (u a c : Bool) → (u || a) ≡ true → (u || (a || c)) ≡ true
or_more true a c h = refl
or_more false true c h = refl
or_more false false c h = absurd (cc)

or_last : (u a c : Bool) → c ≡ true → (u || (a || c)) ≡ true
or_last true a c h = refl
or_last false true c h = refl
or_last false false c h = h

one_named : (name : List ℕ) (found : Option (List ℕ)) → found ≡ Some name → list_any (bytes_eq name) (option_to_list found) ≡ true
one_named name found e = rw (e, (bytes_eq-Decides name name).1 refl) refl

-- `IsTried` still holds after a line that names no zone, for which nothing was done
pub none_tried : (machine : Machine) (before : List (TimerLine Fields)) (entry : TimerLine Fields) (tried : CalendarZones) → name_in entry.expr.zone ≡ None
    → IsTried machine before tried → IsTried machine (before ++ entry ∷ []) tried
none_tried machine before entry tried none h = record {
  names = λ name has. ap (λ c. is_utc_name name || c) (named_more before entry name) ∙ or_more (is_utc_name name) _ (names_zone name entry) (h.names name has);
  zones = h.zones;
  lines = kept_tried machine tried.zones before entry tried.unusable.items (ap (is_zone_in tried.zones) none) h.lines;
}

or_either : (a b : Bool) → (a || b) ≡ true → b ≡ false → a ≡ true
or_either true b h e = refl
or_either false b h e = absurd (cc)

or_first : (a b : Bool) → a ≡ true → (a || b) ≡ true
or_first a b e = rw e refl

-- each name that the table has after a zone was loaded is a name of UTC, or one of the entries names it
name_known : (before : List (TimerLine Fields)) (entry : TimerLine Fields) (name other : List ℕ) (t had : Bool) → name_in entry.expr.zone ≡ Some name
    → bytes_eq other name ≡ t → (had || t) ≡ true
    → (had ≡ true → (is_utc_name other || list_any (bytes_eq other) (zone_names_in before)) ≡ true)
    → (is_utc_name other || list_any (bytes_eq other) (zone_names_in (before ++ entry ∷ []))) ≡ true
name_known before entry name other true had is e has known =
    let same : other ≡ name = (bytes_eq-Decides other name).0 e in
    ap (λ c. is_utc_name other || c) (named_more before entry other)
    ∙ or_last (is_utc_name other) _ (names_zone other entry) (one_named other (name_in entry.expr.zone) (is ∙ ap Some (sym same)))
name_known before entry name other false had is e has known =
    ap (λ c. is_utc_name other || c) (named_more before entry other)
    ∙ or_more (is_utc_name other) _ (names_zone other entry) (known (or_either had false has refl))

-- `IsTried` still holds after a line whose zone was loaded into the table
pub zone_tried : (machine : Machine) (before : List (TimerLine Fields)) (entry : TimerLine Fields) (name : List ℕ) (old new : CalendarZones)
    → name_in entry.expr.zone ≡ Some name → new.unusable ≡ old.unusable
    → ((other : List ℕ) → is_some (zone_named new.zones other) ≡ (is_some (zone_named old.zones other) || bytes_eq other name))
    → (HasZonesOf machine old.zones → HasZonesOf machine new.zones)
    → IsTried machine before old → IsTried machine (before ++ entry ∷ []) new
zone_tried machine before entry name old new is same names zones h = record {
  names = λ other has. name_known before entry name other (bytes_eq other name) (is_some (zone_named old.zones other)) is refl (sym (names other) ∙ has) (h.names other);
  zones = zones h.zones;
  lines =
      let more : (other : List ℕ) → is_some (zone_named old.zones other) ≡ true → is_some (zone_named new.zones other) ≡ true =
      λ other has. names other ∙ or_first _ _ has in
      let here : has_zone new.zones entry ≡ true =
      ap (is_zone_in new.zones) is ∙ names name ∙ ap (λ c. is_some (zone_named old.zones name) || c) ((bytes_eq-Decides name name).1 refl) ∙ or_true (is_some (zone_named old.zones name)) in
      subst (AreTried machine new.zones (before ++ entry ∷ [])) (ap (λ list. list.items) (sym same))
      (kept_tried machine new.zones before entry old.unusable.items here (tried_more machine old.zones new.zones before old.unusable.items more h.lines));
}
  where
    or_true : (b : Bool) → (b || true) ≡ true
    or_true true = refl
    or_true false = refl

-- `IsTried` still holds after a line whose zone couldn't be loaded, and which was added to the unusable zones
pub unusable_tried : (machine : Machine) (before : List (TimerLine Fields)) (entry : TimerLine Fields) (name : List ℕ) (old new : CalendarZones) (line : UnusableZone)
    → name_in entry.expr.zone ≡ Some name → new.zones ≡ old.zones → new.unusable.items ≡ old.unusable.items ++ line ∷ [] → line.number ≡ entry.number
    → is_utc_name name ≡ false → (string_bytes line.name ≡ name) × IsReasonOn machine name line.reason
    → IsTried machine before old → IsTried machine (before ++ entry ∷ []) new
unusable_tried machine before entry name old new line is zones added number other reason h =
    let unusable : IsUnusableZoneOf machine entry (string_bytes line.name) line.reason =
    subst (λ name. IsUnusableZoneOf machine entry name line.reason) (sym reason.0) (is, other, reason.1) in
    record {
      names = λ name has.
          ap (λ c. is_utc_name name || c) (named_more before entry name)
          ∙ or_more (is_utc_name name) _ (names_zone name entry) (h.names name (ap (λ table. is_some (zone_named table name)) (sym zones) ∙ has));
      zones = subst (HasZonesOf machine) (sym zones) h.zones;
      lines =
          subst (λ table. AreTried machine table (before ++ entry ∷ []) new.unusable.items) (sym zones)
          (subst (AreTried machine old.zones (before ++ entry ∷ [])) (sym added)
          (left_tried machine old.zones before entry old.unusable.items line (number, unusable) h.lines));
    }

-- ## All entries

-- before any zone is loaded, `IsTried` holds for the empty list of entries
pub nothing_tried : (machine : Machine) (tried : CalendarZones) → tried.zones ≡ empty → tried.unusable.items ≡ [] → IsTried machine [] tried
nothing_tried machine tried none no_lines = record {
  names = λ name has. known (is_utc_name name) (sym (empty_has name) ∙ ap (λ table. is_some (zone_named table name)) (sym none) ∙ has);
  zones = subst (HasZonesOf machine) (sym none) (empty_has_none machine);
  lines = no_lines;
}
  where
    known : (utc : Bool) → utc ≡ true → (utc || false) ≡ true
    known utc e = rw e refl

zip_step : (machine : Machine) (c : Bool) (entry : TimerLine Fields) (entries : List (TimerLine Fields)) (line : UnusableZone) (lines : List UnusableZone)
    → IsUnusableLine machine entry line → AllZip (IsUnusableLine machine) entries lines
    → AllZip (IsUnusableLine machine) (cond c (entry ∷ entries) entries) (cond c (line ∷ lines) lines)
zip_step machine true entry entries line lines is h = (is, h)
zip_step machine false entry entries line lines is h = h

-- once the lines whose zone is in the table after all are removed, one line is left for each entry whose zone isn't in
-- the table
left_lines : (machine : Machine) (table : ZoneMap) (entries : List (TimerLine Fields)) (lines : List UnusableZone) → AreTried machine table entries lines
    → AreUnusableLines machine table entries (filter (λ line. not (is_loaded table line)) lines)
left_lines machine table [] lines h = rw h tt
left_lines machine table (entry ∷ entries) lines h =
    elim h [
      | inl kept ↦ rw (kept.0) (left_lines machine table entries lines kept.1)
      | inr left ↦
          let line = left.0 in
          let same : is_loaded table line ≡ has_zone table entry = ap (is_zone_in table) (sym left.3.1.0) in
          rw (left.2, same) (zip_step machine (not (has_zone table entry)) entry _ line _ left.3 (left_lines machine table entries left.1 left.4))
    ]

-- ## Names

named_zone : (table : ZoneMap) (name : List ℕ) (zone : Option (List ℕ)) → list_any (bytes_eq name) (option_to_list zone) ≡ true
    → is_zone_in table zone ≡ is_some (zone_named table name)
named_zone table name None h = absurd (false≢true h)
named_zone table name (Some other) h =
    let same : name ≡ other = (bytes_eq-Decides name other).0 (only_one (bytes_eq name other) h) in
    ap (λ zone. is_some (zone_named table zone)) (sym same)
  where
    only_one : (b : Bool) → (b || false) ≡ true → b ≡ true
    only_one true h = refl
    only_one false h = absurd (false≢true h)

and_false : (b : Bool) → (b && false) ≡ false
and_false true = refl
and_false false = refl

-- Suppose that the kept entries name a zone if and only if one of the entries names it and the table has it. This is
-- still true with one more entry. `keeps` says whether this entry is kept, `names` whether it names the zone, and `has`
-- whether the table has the zone.
kept_step : (keeps names has all : Bool) (name : List ℕ) (entry : TimerLine Fields) (kept : List (TimerLine Fields)) → names_zone name entry ≡ names
    → (names ≡ true → keeps ≡ has) → list_any (bytes_eq name) (zone_names_in kept) ≡ (all && has)
    → list_any (bytes_eq name) (zone_names_in (cond keeps (entry ∷ kept) kept)) ≡ ((names || all) && has)
kept_step true true has all name entry kept is f e =
    list_any-append (bytes_eq name) (option_to_list (name_in entry.expr.zone)) (zone_names_in kept)
    ∙ ap (λ b. b || list_any (bytes_eq name) (zone_names_in kept)) is ∙ f refl
kept_step true false has all name entry kept is f e =
    list_any-append (bytes_eq name) (option_to_list (name_in entry.expr.zone)) (zone_names_in kept)
    ∙ ap (λ b. b || list_any (bytes_eq name) (zone_names_in kept)) is ∙ e
kept_step false true has all name entry kept is f e = e ∙ ap (λ b. all && b) (sym (f refl)) ∙ and_false all ∙ f refl
kept_step false false has all name entry kept is f e = e

-- one of the entries whose zone is in the table names `name` if and only if one of all entries does and the table has
-- `name`
kept_names : (table : ZoneMap) (name : List ℕ) (entries : List (TimerLine Fields))
    → list_any (bytes_eq name) (zone_names_in (filter (has_zone table) entries)) ≡ (list_any (bytes_eq name) (zone_names_in entries) && is_some (zone_named table name))
kept_names table name [] = refl
kept_names table name (entry ∷ entries) =
    kept_step (has_zone table entry) (names_zone name entry) (is_some (zone_named table name)) (list_any (bytes_eq name) (zone_names_in entries)) name entry
    (filter (has_zone table) entries) refl (named_zone table name (name_in entry.expr.zone)) (kept_names table name entries)
    ∙ ap (λ b. b && is_some (zone_named table name)) (sym (list_any-append (bytes_eq name) (option_to_list (name_in entry.expr.zone)) (zone_names_in entries)))

utc_named : (table : ZoneMap) (name : List ℕ) → is_utc_name name ≡ true → is_some (zone_named table name) ≡ true
unfolding zone_named
utc_named table name e = rw e refl

known_if : (has utc named : Bool) → (has ≡ true → (utc || named) ≡ true) → (utc ≡ true → has ≡ true) → has ≡ (utc || (named && has))
known_if true true named f g = refl
known_if true false named f g = rw (f refl) refl
known_if false true named f g = g refl
known_if false false named f g = sym (and_false named)

kept_has_names : (table : ZoneMap) (expressions exceptions : List (TimerLine Fields))
    → ((name : List ℕ) → is_some (zone_named table name) ≡ true → (is_utc_name name || list_any (bytes_eq name) (zone_names_in (expressions ++ exceptions))) ≡ true)
    → HasNames table (zone_names_in (filter (has_zone table) expressions) ++ zone_names_in (filter (has_zone table) exceptions))
kept_has_names table expressions exceptions known name =
    let all : zone_names_in (filter (has_zone table) (expressions ++ exceptions)) ≡ zone_names_in (filter (has_zone table) expressions) ++ zone_names_in (filter (has_zone table) exceptions) =
    ap zone_names_in (filter-append (has_zone table) expressions exceptions)
    ∙ flat_map-append (λ (entry : TimerLine Fields). option_to_list (name_in entry.expr.zone)) (filter (has_zone table) expressions) (filter (has_zone table) exceptions) in
    known_if (is_some (zone_named table name)) (is_utc_name name) (list_any (bytes_eq name) (zone_names_in (expressions ++ exceptions))) (known name) (utc_named table name)
    ∙ ap (λ b. is_utc_name name || b) (sym (kept_names table name (expressions ++ exceptions)) ∙ ap (list_any (bytes_eq name)) all)

-- if the lines whose zone isn't in the table are removed from a calendar, the table has each zone that the calendar
-- names
pub zones_for_kept : (table : ZoneMap) (old new : calendars.Calendar) → expressions_in new ≡ filter (has_zone table) (expressions_in old)
    → exceptions_in new ≡ filter (has_zone table) (exceptions_in old) → HasZonesFor table new
zones_for_kept table old new expressions exceptions = (
  subst (HasZonesNamedIn table) (sym expressions) (filter_passes (has_zone table) (expressions_in old)),
  subst (HasZonesNamedIn table) (sym exceptions) (filter_passes (has_zone table) (exceptions_in old)),
)

or_second : (a b : Bool) → b ≡ true → (a || b) ≡ true
or_second true b h = refl
or_second false b h = h

zone_if_named : (table : ZoneMap) (zone : Option (List ℕ)) → ((name : List ℕ) → list_any (bytes_eq name) (option_to_list zone) ≡ true → is_some (zone_named table name) ≡ true)
    → is_zone_in table zone ≡ true
zone_if_named table None h = refl
zone_if_named table (Some name) h = h name (one_named name (Some name) refl)

each_zone : (table : ZoneMap) (entries : List (TimerLine Fields))
    → ((name : List ℕ) → list_any (bytes_eq name) (zone_names_in entries) ≡ true → is_some (zone_named table name) ≡ true)
    → HasZonesNamedIn table entries
each_zone table [] h = All-nil (λ entry. has_zone table entry ≡ true)
each_zone table (entry ∷ entries) h =
    let here = option_to_list (name_in entry.expr.zone) in
    All-cons (λ entry. has_zone table entry ≡ true) entry entries
    (zone_if_named table (name_in entry.expr.zone) (λ name named. h name (list_any-append (bytes_eq name) here (zone_names_in entries) ∙ or_first _ _ named)))
    (each_zone table entries (λ name named. h name (list_any-append (bytes_eq name) here (zone_names_in entries) ∙ or_second _ _ named)))

-- if the table has all zones that the entries name, it has the zone of each entry
pub zone_of_each : (table : ZoneMap) (entries : List (TimerLine Fields)) → HasNames table (zone_names_in entries) → HasZonesNamedIn table entries
zone_of_each table entries h = each_zone table entries (λ name named. h name ∙ or_second (is_utc_name name) _ named)

-- if the lines whose zone isn't in the table are removed from a calendar, `IsZoned` holds
pub zoned_calendar : (machine : Machine) (old new : calendars.Calendar) (tried found : CalendarZones) → found.zones ≡ tried.zones
    → expressions_in new ≡ filter (has_zone tried.zones) (expressions_in old) → exceptions_in new ≡ filter (has_zone tried.zones) (exceptions_in old)
    → found.unusable.items ≡ filter (λ line. not (is_loaded tried.zones line)) tried.unusable.items
    → IsTried machine (expressions_in old ++ exceptions_in old) tried → IsZoned machine old new found
zoned_calendar machine old new tried found same expressions exceptions unusable h =
    let names : HasNames tried.zones (zone_names_in (expressions_in new) ++ zone_names_in (exceptions_in new)) =
    rw (expressions, exceptions) (kept_has_names tried.zones (expressions_in old) (exceptions_in old) h.names) in
    record {
      expressions = expressions ∙ ap (λ table. filter (has_zone table) (expressions_in old)) (sym same);
      exceptions = exceptions ∙ ap (λ table. filter (has_zone table) (exceptions_in old)) (sym same);
      zones = (
        subst (λ table. HasNames table (zone_names_in (expressions_in new) ++ zone_names_in (exceptions_in new))) (sym same) names,
        subst (HasZonesOf machine) (sym same) h.zones,
      );
      unusable =
          subst (λ table. AreUnusableLines machine table (expressions_in old ++ exceptions_in old) found.unusable.items) (sym same)
          (subst (AreUnusableLines machine tried.zones (expressions_in old ++ exceptions_in old)) (sym unusable)
          (left_lines machine tried.zones (expressions_in old ++ exceptions_in old) tried.unusable.items h.lines));
    }

-- if the lines whose zone can't be used are removed from the calendar that was read from files, `IsCalendarOf` holds
pub zoned_files : (machine : Machine) (name : List ℕ) (files : List UnitText) (old new : calendars.Calendar) (found : CalendarZones)
    → IsCalendarBy (timer_assignments name files) old → IsZoned machine old new found → IsCalendarOf name files found.zones new
zoned_files machine name files old new found by zoned = (
  zoned.expressions ∙ ap (filter (has_zone found.zones)) by.0,
  zoned.exceptions ∙ ap (filter (has_zone found.zones)) by.1,
)

-- the lines whose zone can't be used are those of the entries in the files whose zone isn't in the table
pub unusable_of_files : (machine : Machine) (name : List ℕ) (files : List UnitText) (old new : calendars.Calendar) (found : CalendarZones)
    → IsCalendarBy (timer_assignments name files) old → IsZoned machine old new found
    → AreUnusableLines machine found.zones (entries_of_files name files) found.unusable.items
unusable_of_files machine name files old new found by zoned =
    subst (λ entries. AreUnusableLines machine found.zones entries found.unusable.items)
    (ap (λ all. all ++ exceptions_in old) by.0 ∙ ap (λ all. expressions_of_files name files ++ all) by.1) zoned.unusable

-- ## The numbers of lines

numbered_step : (machine : Machine) (P : ℕ → Type 0) (keeps : Bool) (entry : TimerLine Fields) (left : List (TimerLine Fields)) (lines : List UnusableZone) → P entry.number
    → ((others : List UnusableZone) → AllZip (IsUnusableLine machine) left others → All (λ line. P line.number) others)
    → AllZip (IsUnusableLine machine) (cond (not keeps) (entry ∷ left) left) lines → All (λ line. P line.number) lines
numbered_step machine P true entry left lines here rest h = rest lines h
numbered_step machine P false entry left [] here rest h = absurd h
numbered_step machine P false entry left (line ∷ lines) here rest h =
    All-cons (λ (line : UnusableZone). P line.number) line lines (subst P (sym h.0.0) here) (rest lines h.1)

-- the number of each line whose zone can't be used is the number of an entry
pub unusable_numbered : (machine : Machine) (table : ZoneMap) (P : ℕ → Type 0) (entries : List (TimerLine Fields)) (lines : List UnusableZone)
    → All (λ entry. P entry.number) entries → AreUnusableLines machine table entries lines → All (λ line. P line.number) lines
unusable_numbered machine table P [] [] all h = All-nil (λ (line : UnusableZone). P line.number)
unusable_numbered machine table P [] (line ∷ lines) all h = absurd h
unusable_numbered machine table P (entry ∷ entries) lines all h =
    numbered_step machine P (has_zone table entry) entry (filter (λ entry. not (has_zone table entry)) entries) lines
    (All-head (λ (entry : TimerLine Fields). P entry.number) entry entries all)
    (λ others rest. unusable_numbered machine table P entries others (All-tail (λ (entry : TimerLine Fields). P entry.number) entry entries all) rest) h

-- ## Why nothing starts a unit

all_left : (machine : Machine) (keeps : Bool) (entry : TimerLine Fields) (kept rest : List (TimerLine Fields)) (lines : List UnusableZone) → cond keeps (entry ∷ kept) kept ≡ []
    → AllZip (IsUnusableLine machine) (cond (not keeps) (entry ∷ rest) rest) lines
    → (kept ≡ []) × NamesUnusableZone machine entry × ((others : List UnusableZone) × AllZip (IsUnusableLine machine) rest others)
all_left machine true entry kept rest lines e h = absurd (cc)
all_left machine false entry kept rest [] e h = absurd h
all_left machine false entry kept rest (line ∷ lines) e h = (e, (string_bytes line.name, line.reason, h.0.1), (lines, h.1))

-- if no expression has a zone in the table, each one names a zone that can't be used
pub none_usable : (machine : Machine) (table : ZoneMap) (expressions exceptions : List (TimerLine Fields)) (lines : List UnusableZone)
    → filter (has_zone table) expressions ≡ [] → AreUnusableLines machine table (expressions ++ exceptions) lines → All (NamesUnusableZone machine) expressions
none_usable machine table [] exceptions lines e h = All-nil (NamesUnusableZone machine)
none_usable machine table (entry ∷ expressions) exceptions lines e h =
    let left = all_left machine (has_zone table entry) entry (filter (has_zone table) expressions)
    (filter (λ entry. not (has_zone table entry)) (expressions ++ exceptions)) lines e h in
    All-cons (NamesUnusableZone machine) entry expressions left.1 (none_usable machine table expressions exceptions left.2.0 left.0 left.2.1)

-- nothing starts the unit of a timer if none of its expressions is left and nothing else starts it
pub nothing_starts : (machine : Machine) (name : List ℕ) (files : List UnitText) (old new : calendars.Calendar) (found : CalendarZones) (is_started : Bool)
    → IsCalendarBy (timer_assignments name files) old → IsZoned machine old new found
    → IsStartedBy (unclear_of_files name files) (starts_unit (timer_assignments name files)) is_started → is_started ≡ false → expressions_in new ≡ []
    → StartNothing machine name files
nothing_starts machine name files old new found is_started by zoned started off none = (
  none_usable machine found.zones (expressions_of_files name files) (exceptions_of_files name files) found.unusable.items
      (sym (zoned_files machine name files old new found by zoned).0 ∙ none) (unusable_of_files machine name files old new found by zoned),
  (started.1 off).0,
  (started.1 off).1,
)
