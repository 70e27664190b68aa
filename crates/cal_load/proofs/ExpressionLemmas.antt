-- Lemmas on timers that are made of calendar expressions, without files.
use Rattle.std.proofs.Common.{◌≡◌, ◌+◌, ◌<◌, ◌∙◌, ◌||◌, ℕ, Bool, Bor, List, Option, [], ◌∷◌, ◌++◌, None, Some, All, Ok, Err, true, false, ap, cond, drop, get_or, inr, length, map, refl, string_bytes, subst, sym, take}
use Rattle.std.proofs.lemmas.List.{append-nil, drop_more, map-append, take-append-drop, take_more}
use Rattle.std.proofs.lemmas.List.Concat.{flat_map-append}
use Rattle.std.proofs.lemmas.List.Elements.{All-append, All-cons, All-head, All-nil, All-tail}
use Rattle.std.proofs.lemmas.List.Folds.{find-append, list_any-append, list_any-from_Any}
use Rattle.std.proofs.lemmas.Slice.Eq.{bytes_eq-Decides}
use Rattle.std.specs.List.{find, flat_map, list_any}
use Rattle.std.specs.Option.{option_or, option_to_list}
use Rattle.std.specs.Prelude.{Result, String, is_ok, not, option_copied, option_map}
use Rattle.std.specs.Str.{bytes_eq}
use Rattle.std.specs.declared.alloc.Global.{Global}
use Rattle.cal_machine.specs.rules.Machine.{Machine}
use Rattle.cal_spec.specs.rules.Fields.{Fields}
use Rattle.cal_spec.specs.rules.ZoneSuffix.{name_in}
use Rattle.cal_timer.specs.declared.timer.TimerLine as declared_line
use Rattle.cal_timer.specs.rules.TimerEntries.{TimerLine}
use Rattle.cal_timer.specs.rules.TimerView.{shown}
use Rattle.cal_zone_files.specs.declared.fault.FileReason.{FileReason}
use Rattle.cal_zone_files.specs.declared.fault.ZonesFault.TheVariants as zone_faults
use Rattle.cal_load.specs.declared.fault.TargetLoadFault.{TargetLoadFault}
use Rattle.cal_load.specs.declared.fault.TargetLoadFault as faults
use Rattle.cal_load.specs.declared.loaded.Loaded.{Loaded}
use Rattle.cal_load.specs.declared.target_fault.TargetReason.{TargetReason}
use Rattle.cal_load.specs.declared.target_fault.TargetReason.TheVariants.{ExpressionZone}
use Rattle.cal_load.specs.rules.Expressions.{AreAppended, AreOf, HasOnlyFault, HasOnlyZoneFault, IsExpressionReason, IsParseError, IsTimerOrReason, IsUnusableZone, NotEntry, NotExpression, Unread, Written, expressions_for, first_invalid, first_with_zone, names_zone, or_none, reason_of, written}
use Rattle.cal_load.specs.rules.Loaded.{zone_names_in}
use Rattle.cal_load.specs.rules.TextFaults.{IsZonesError}

-- ## The loop over the texts

found_one : (read : Result (List Written) Unread) (old new : List (TimerLine Fields)) → AreAppended read old new
    → (map written new ≡ map written old ++ or_none read) × (is_ok read ≡ true)
found_one (Ok found) old new h = (h, refl)
found_one (Err why) old new h = absurd h

-- if the lines are those of some texts, and a step adds the lines of one more text, then the lines are those of all
-- these texts
pub lines_of_more : (texts : List (List ℕ)) (text : List ℕ) (old new : List (TimerLine Fields)) → AreOf texts old
    → AreAppended (expressions_for text) old new → AreOf (texts ++ text ∷ []) new
lines_of_more texts text old new before step =
    let found = found_one (expressions_for text) old new step in
    let all : List ℕ → List Written = λ one. or_none (expressions_for one) in
    let last : flat_map all (text ∷ []) ≡ or_none (expressions_for text) = append-nil (or_none (expressions_for text)) in (
      found.0 ∙ ap (λ front. front ++ or_none (expressions_for text)) before.0
          ∙ ap (λ back. flat_map all texts ++ back) (sym last) ∙ sym (flat_map-append all texts (text ∷ [])),
      All-append (λ one. is_ok (expressions_for one) ≡ true) texts (text ∷ []) before.1 (All-cons (λ one. is_ok (expressions_for one) ≡ true) text [] found.1 (All-nil (λ one. is_ok (expressions_for one) ≡ true))),
    )

-- the same for the first `i` texts and the next one
pub lines_more : (texts : List (Bor (List ℕ))) (i : ℕ) (d : Bor (List ℕ)) (old new : List (TimerLine Fields)) → i < length texts
    → AreOf (map (λ text. text.now) (take i texts)) old → AreAppended (expressions_for (get_or texts i d).now) old new
    → AreOf (map (λ text. text.now) (take (i + 1) texts)) new
lines_more texts i d old new h before step =
    let e : map (λ (text : Bor (List ℕ)). text.now) (take (i + 1) texts) ≡ map (λ (text : Bor (List ℕ)). text.now) (take i texts) ++ (get_or texts i d).now ∷ [] =
    ap (map (λ (text : Bor (List ℕ)). text.now)) (take_more texts i d h) ∙ map-append (λ (text : Bor (List ℕ)). text.now) (take i texts) (get_or texts i d ∷ []) in
    let P : List (List ℕ) → Type 0 = λ all. AreOf all new in
    subst P (sym e) (lines_of_more (map (λ (text : Bor (List ℕ)). text.now) (take i texts)) (get_or texts i d).now old new before step)

none_invalid : (texts : List (List ℕ)) → All (λ text. is_ok (expressions_for text) ≡ true) texts → first_invalid texts ≡ None
none_invalid [] h = refl
none_invalid (text ∷ texts) h =
    rw (All-head (λ one. is_ok (expressions_for one) ≡ true) text texts h)
    (none_invalid texts (All-tail (λ one. is_ok (expressions_for one) ≡ true) text texts h))

-- if a text doesn't stand for expressions, and all texts before it do, it is the first invalid one
pub invalid_first : (texts : List (Bor (List ℕ))) (i : ℕ) (d : Bor (List ℕ)) (entries : List (TimerLine Fields)) (why : Unread) → i < length texts
    → AreOf (map (λ text. text.now) (take i texts)) entries → expressions_for (get_or texts i d).now ≡ Err why
    → first_invalid (map (λ text. text.now) texts) ≡ Some (get_or texts i d).now
invalid_first texts i d entries why h before bad =
    let now : Bor (List ℕ) → List ℕ = λ text. text.now in
    let test : List ℕ → Bool = λ text. not (is_ok (expressions_for text)) in
    let front = map now (take i texts) in
    let back = (get_or texts i d).now ∷ map now (drop (i + 1) texts) in
    let e : map now texts ≡ front ++ back =
    ap (map now) (sym (take-append-drop i texts)) ∙ map-append now (take i texts) (drop i texts) ∙ ap (λ xs. front ++ map now xs) (drop_more texts i d h) in
    let none : find test front ≡ None = none_invalid front before.1 in
    let here : find test back ≡ Some (get_or texts i d).now = rw bad refl in
    ap first_invalid e ∙ find-append test front back ∙ ap (λ r. option_or r (find test back)) none ∙ here

reason_given : (Shows : Machine → Type 0) (texts : List (List ℕ)) (target : List ℕ) (why : Unread) → first_invalid texts ≡ Some target
    → expressions_for target ≡ Err why → IsExpressionReason Shows texts target (reason_of why)
reason_given Shows texts target (NotExpression fault) first is = (first, is)
reason_given Shows texts target (NotEntry fault) first is = (first, is)

error_given : (read : Result (List Written) Unread) (error : TargetLoadFault) (reason : TargetReason) → IsParseError read error → error ≡ faults.TheVariants.Target reason
    → (why : Unread) × (read ≡ Err why) × (reason_of why ≡ reason)
error_given (Ok found) error reason wrong is = absurd (wrong (λ e. absurd (cc)))
error_given (Err why) error reason wrong is =
    let same : faults.TheVariants.Target (reason_of why) ≡ faults.TheVariants.Target reason = sym (wrong (λ e. absurd (cc))) ∙ is in
    (why, refl, cc)

-- if the only error is about the first invalid text, `IsTimerOrReason` holds
pub invalid_only : (Shows : Machine → Type 0) (texts : List (List ℕ)) (target : List ℕ) (error : TargetLoadFault) (loaded : Loaded) → IsParseError (expressions_for target) error
    → ((why : Unread) → expressions_for target ≡ Err why → first_invalid texts ≡ Some target) → HasOnlyFault target error loaded
    → IsTimerOrReason Shows texts loaded
invalid_only Shows texts target error loaded wrong first single =
    let found = error_given (expressions_for target) error single.fault.reason wrong single.is_error in
    let is : IsExpressionReason Shows texts (string_bytes single.fault.target) (reason_of found.0) =
    subst (λ name. IsExpressionReason Shows texts name (reason_of found.0)) (sym single.named) (reason_given Shows texts target found.0 (first found.0 found.1) found.1) in
    (single.masked, inr (single.timers, (single.fault, single.only, subst (IsExpressionReason Shows texts (string_bytes single.fault.target)) found.2 is)))

-- ## Zones

cond_map : {X Y : Type 0} (f : X → Y) (b : Bool) (x : X) (r : Option X) (s : Option Y) → s ≡ option_map f r
    → cond b (Some (f x)) s ≡ option_map f (cond b (Some x) r)
cond_map f true x r s e = refl
cond_map f false x r s e = e

pub find_map : {X Y : Type 0} (f : X → Y) (test : Y → Bool) (xs : List X) → find test (map f xs) ≡ option_map f (find (λ x. test (f x)) xs)
find_map f test [] = refl
find_map f test (x ∷ xs) = cond_map f (test (f x)) x (find (λ x. test (f x)) xs) (find test (map f xs)) (find_map f test xs)

text_shown : (found : Option (Bor declared_line.TimerLine))
    → option_map (λ line. string_bytes line.now.text) found ≡ option_map (λ entry. entry.text) (option_map shown (option_copied found))
text_shown None = refl
text_shown (Some line) = refl

-- if `found` is the first line that names a zone, its text is the one that `first_with_zone` returns for this zone
pub text_found : (zone text : List ℕ) (lines : List declared_line.TimerLine) (found : Option (Bor declared_line.TimerLine))
    → option_copied found ≡ find (λ line. names_zone zone (shown line)) lines → first_with_zone zone (map shown lines) ≡ Some text
    → option_map (λ line. string_bytes line.now.text) found ≡ Some text
text_found zone text lines found h first =
    text_shown found
    ∙ ap (λ line. option_map (λ (entry : TimerLine Fields). entry.text) (option_map shown line)) h
    ∙ ap (option_map (λ (entry : TimerLine Fields). entry.text)) (sym (find_map shown (names_zone zone) lines))
    ∙ first

found_more : (b c : Bool) (entry : TimerLine Fields) (found : Option (TimerLine Fields)) → (b || c) ≡ true
    → (c ≡ true → (text : List ℕ) × (option_map (λ (entry : TimerLine Fields). entry.text) found ≡ Some text))
    → (text : List ℕ) × (option_map (λ (entry : TimerLine Fields). entry.text) (cond b (Some entry) found) ≡ Some text)
found_more true c entry found h f = (entry.text, refl)
found_more false c entry found h f = f h

-- if at least one of the entries names a zone, `first_with_zone` returns the text of the first that does
pub zone_found : (zone : List ℕ) (entries : List (TimerLine Fields)) → list_any (bytes_eq zone) (zone_names_in entries) ≡ true
    → (text : List ℕ) × (first_with_zone zone entries ≡ Some text)
zone_found zone [] h = absurd (cc)
zone_found zone (entry ∷ entries) h =
    found_more (names_zone zone entry) (list_any (bytes_eq zone) (zone_names_in entries)) entry (find (names_zone zone) entries)
    (sym (list_any-append (bytes_eq zone) (option_to_list (name_in entry.expr.zone)) (zone_names_in entries)) ∙ h)
    (zone_found zone entries)

-- if the only error is about a zone whose file can't be used, `IsTimerOrReason` holds
pub zone_only : (Shows : Machine → Type 0) (texts : List (List ℕ)) (entries : List (TimerLine Fields)) (zone : String Global) (reason : FileReason) (loaded : Loaded)
    → AreOf texts entries → ((machine : Machine) → Shows machine → IsZonesError machine (zone_names_in entries) (zone_faults.OfZone zone reason))
    → HasOnlyZoneFault entries zone reason loaded → IsTimerOrReason Shows texts loaded
zone_only Shows texts entries zone reason loaded are error h =
    let single = h.1 in
    let is_error = single.is_error in
    let same : ExpressionZone zone reason ≡ single.fault.reason = cc in
    let name = string_bytes zone in
    let on_machine : (machine : Machine) → Shows machine → IsUnusableZone machine entries (string_bytes single.fault.target) name reason = λ machine shows.
    let found = error machine shows in
    let has = found.0 in
    let first = zone_found name entries (list_any-from_Any (bytes_eq name) (zone_names_in entries) (has.0, name, has.1, has.2, (bytes_eq-Decides name name).1 refl)) in
    record {
      is_unusable = found.1;
      is_first = first.1 ∙ ap Some (sym (h.2 first.0 first.1) ∙ sym single.named);
    } in
    (single.masked, inr (single.timers, (single.fault, single.only, subst (IsExpressionReason Shows texts (string_bytes single.fault.target)) same (entries, are, on_machine))))
