-- Lemmas about the values that `clap` stores for an argument each time that it is used.
use Rattle.std.proofs.Common.{◌≡◌, ◌==◌, ◌&&◌, ◌||◌, ℕ, Bool, true, false, cond, List, [], ◌∷◌, ◌++◌, Some, ap, append-nil, arith, length, length-append, refl}
use Rattle.std.specs.Prelude.{find, if◌then◌else◌, nat_lt, not}
use Rattle.std.specs.List.{list_all}
use Rattle.std.specs.Option.{option_map_or}
use Rattle.std.specs.Str.{bytes_eq}
use Rattle.std.proofs.lemmas.Bool.Decides.{nat_tests}
use Rattle.std.proofs.lemmas.List.Folds.{list_all-append}
use Rattle.clap.proofs.WalkLemmas.{both}
use Rattle.clap.specs.Facts.{unwrap_or_range}
use Rattle.clap.specs.Faults.{action_fault, repeat_fault, use_fault, values_fault}
use Rattle.clap.specs.Kinds.{or_else, range_kinds}
use Rattle.clap.specs.Walk.{action_of, at_row, has_row, more_values, most_values, reading_by, used, used_as, values_or_missing, with_values, without}
use Rattle.clap.specs.Words.{Kinds, Row, Rule, Text}
use Rattle.clap.specs.declared.builder.action.ArgAction.{ArgAction}
use Rattle.clap.specs.declared.builder.action.ArgAction.TheVariants.{Append, Count, Help, HelpLong, HelpShort, Set, SetFalse, SetTrue, Version}
use Rattle.clap.specs.declared.builder.value_parser.Reading.{Reading}
use Rattle.clap.specs.declared.error.kind.ErrorKind.TheVariants as kind
use Rattle.clap.specs.declared.parser.matches.ValueSource.{ValueSource}
use Rattle.clap.specs.declared.parser.matches.ValueSource.TheVariants.{CommandLine}

-- ## Truth values and faults

pub neither : (a b : Bool) → (a || b) ≡ false → (a ≡ false) × (b ≡ false)
neither true b e = absurd (cc)
neither false b e = (refl, e)

pub none_first : (a b : Kinds) → or_else a b ≡ [] → a ≡ []
none_first [] b e = refl
none_first (k ∷ ks) b e = absurd (cc)

pub none_then : (a b : Kinds) → or_else a b ≡ [] → b ≡ []
none_then [] b e = e
none_then (k ∷ ks) b e = absurd (cc)

pub found_passes : {A : Type 0} (p q : A → Bool) (xs : List A) → list_all q xs ≡ true → option_map_or q (find p xs) true ≡ true
found_passes p q [] all = refl
found_passes p q (x ∷ xs) all =
    let parts = both (q x) (list_all q xs) all in
    elim (p x) as (λ here. option_map_or q (cond here (Some x) (find p xs)) true ≡ true) [
      | true ↦ parts.0
      | false ↦ found_passes p q xs parts.1
    ]

-- ## Rows

-- `n` values are at least one, or exactly one if `is_single`
abbrev pub is_count : Bool → ℕ → Bool
is_count is_single n = if is_single then n == 1 else nat_lt 0 n

abbrev pub has_values : Bool → Row → Bool
has_values is_single row = is_count is_single (length row.values)

count_one : (is_single : Bool) (n : ℕ) → n ≡ 1 → is_count is_single n ≡ true
count_one true n one = rw one refl
count_one false n one = rw one refl

at_absent : (id : Text) (change : Row → List Row) (missing rows : List Row) → has_row id rows ≡ false → at_row id change missing rows ≡ rows ++ missing
at_absent id change missing [] none = refl
at_absent id change missing (row ∷ rows) none =
    let parts = neither (bytes_eq row.id id) (has_row id rows) none in
    rw parts.0 (ap (λ later. row ∷ later) (at_absent id change missing rows parts.1))

at_row-all : (p : Row → Bool) (id : Text) (change : Row → List Row) (missing rows : List Row) → ((row : Row) → p row ≡ true → list_all p (change row) ≡ true)
    → list_all p missing ≡ true → list_all p rows ≡ true → list_all p (at_row id change missing rows) ≡ true
at_row-all p id change missing [] changed added all = added
at_row-all p id change missing (row ∷ rows) changed added all =
    let parts = both (p row) (list_all p rows) all in
    elim (bytes_eq row.id id) as (λ here. list_all p (cond here (change row ++ rows) (row ∷ at_row id change missing rows)) ≡ true) [
      | true ↦ rw (list_all-append p (change row) rows, changed row parts.0, parts.1) refl
      | false ↦ rw (parts.0, at_row-all p id change missing rows changed added parts.1) refl
    ]

-- a new row with a single value
pub added_row : (is_single : Bool) (id : Text) (how : Reading) (source : ValueSource) (values : List Text) (rows : List Row) → has_row id rows ≡ false → length values ≡ 1
    → list_all (has_values is_single) rows ≡ true → list_all (has_values is_single) (with_values id how source values rows) ≡ true
added_row is_single id how source values rows absent one all =
    rw (at_absent id _ _ rows absent, list_all-append (has_values is_single) rows _, all, count_one is_single (length values) one) refl

-- ## One use of an argument

-- each use of the argument stores one value: the one that is given, or the one for a use without a value
abbrev pub stores_one : Rule → Bool
stores_one rule = (unwrap_or_range rule.range).start_inclusive == most_values rule
    && (most_values rule == 1 || (most_values rule == 0 && length rule.missing == 1))

-- uses with this action leave rows with values, if each use stores one value
abbrev pub stores : Bool → ArgAction → Bool → Bool
stores is_single Set one = one
stores is_single SetTrue one = one
stores is_single SetFalse one = one
stores is_single Append one = not is_single && one
stores is_single Count one = false
stores is_single Help one = true
stores is_single HelpShort one = true
stores is_single HelpLong one = true
stores is_single Version one = true

abbrev pub is_fit : Bool → Rule → Bool
is_fit is_single rule = stores is_single (action_of rule) (stores_one rule) && nat_lt (length rule.defaults) 2

count_is : (least most n : ℕ) → (least == most) ≡ true → range_kinds least most n ≡ [] → n ≡ most
count_is least most n same none = grind (arith, nat_tests)

one_value : (rule : Rule) (values : List Text) → stores_one rule ≡ true
    → range_kinds (unwrap_or_range rule.range).start_inclusive (most_values rule) (length values) ≡ [] → length (values_or_missing rule values) ≡ 1
one_value rule [] one none =
    let parts = both ((unwrap_or_range rule.range).start_inclusive == most_values rule) _ one in
    let none_given = count_is (unwrap_or_range rule.range).start_inclusive (most_values rule) 0 parts.0 none in
    grind (arith, nat_tests, parts.1, none_given)
one_value rule (text ∷ texts) one none =
    let parts = both ((unwrap_or_range rule.range).start_inclusive == most_values rule) _ one in
    let given = count_is (unwrap_or_range rule.range).start_inclusive (most_values rule) (length (text ∷ texts)) parts.0 none in
    grind (arith, nat_tests, parts.1, given)

not_repeated : (has again : Bool) → again ≡ false → cond (has && not again) (kind.ArgumentConflict ∷ []) [] ≡ [] → has ≡ false
not_repeated false again off e = refl
not_repeated true true off e = absurd (cc)
not_repeated true false off e = absurd (cc)

set_row : (is_single : Bool) (id : Text) (how : Reading) (source : ValueSource) (values : List Text) (rows : List Row) → has_row id rows ≡ false → length values ≡ 1
    → list_all (has_values is_single) rows ≡ true → list_all (has_values is_single) (with_values id how source values (without id rows)) ≡ true
set_row is_single id how source values rows absent one all =
    rw (at_absent id (λ _. []) [] rows absent, append-nil rows) (added_row is_single id how source values rows absent one all)

-- a row with more values has values
appended : (source : ValueSource) (values : List Text) (row : Row) → length values ≡ 1 → has_values false row ≡ true
    → list_all (has_values false) (more_values source values row) ≡ true
appended source values row one has = rw (length-append row.values values, one) (grind (arith, nat_tests))

appended_row : (id : Text) (how : Reading) (source : ValueSource) (values : List Text) (rows : List Row) → length values ≡ 1
    → list_all (has_values false) rows ≡ true → list_all (has_values false) (with_values id how source values rows) ≡ true
appended_row id how source values rows one all =
    at_row-all (has_values false) id (more_values source values) _ rows (λ row has. appended source values row one has)
    (rw one refl) all

used-set : (is_single again : Bool) (rule : Rule) (values : List Text) (rows : List Row) → again ≡ false → length values ≡ 1
    → or_else (repeat_fault again rule.id rows) (values_fault rule values) ≡ [] → list_all (has_values is_single) rows ≡ true
    → list_all (has_values is_single) (with_values rule.id (reading_by rule) CommandLine values (without rule.id rows)) ≡ true
used-set is_single again rule values rows off one none all =
    set_row is_single rule.id (reading_by rule) CommandLine values rows
    (not_repeated (has_row rule.id rows) again off (none_first (repeat_fault again rule.id rows) _ none)) one all

used-append : (is_single : Bool) (rule : Rule) (values : List Text) (rows : List Row) → not is_single ≡ true → length values ≡ 1
    → list_all (has_values is_single) rows ≡ true → list_all (has_values is_single) (with_values rule.id (reading_by rule) CommandLine values rows) ≡ true
used-append true rule values rows many one all = absurd (cc)
used-append false rule values rows many one all = appended_row rule.id (reading_by rule) CommandLine values rows one all

used_as-fits : (is_single : Bool) (action : ArgAction) (again : Bool) (rule : Rule) (values : List Text) (rows : List Row) → again ≡ false
    → stores is_single action (stores_one rule) ≡ true → (stores_one rule ≡ true → length values ≡ 1) → action_fault action again rule values rows ≡ []
    → list_all (has_values is_single) rows ≡ true → list_all (has_values is_single) (used_as action rule.id (reading_by rule) values rows) ≡ true
used_as-fits is_single Set again rule values rows off fit one none all = used-set is_single again rule values rows off (one fit) none all
used_as-fits is_single SetTrue again rule values rows off fit one none all = used-set is_single again rule values rows off (one fit) none all
used_as-fits is_single SetFalse again rule values rows off fit one none all = used-set is_single again rule values rows off (one fit) none all
used_as-fits is_single Append again rule values rows off fit one none all =
    let parts = both (not is_single) (stores_one rule) fit in used-append is_single rule values rows parts.0 (one parts.1) all
used_as-fits is_single Count again rule values rows off fit one none all = absurd (cc)
used_as-fits is_single Help again rule values rows off fit one none all = all
used_as-fits is_single HelpShort again rule values rows off fit one none all = all
used_as-fits is_single HelpLong again rule values rows off fit one none all = all
used_as-fits is_single Version again rule values rows off fit one none all = all

-- if a use has no fault, each row has values afterwards, too
pub used-fits : (is_single again : Bool) (rule : Rule) (values : List Text) (rows : List Row) → again ≡ false → is_fit is_single rule ≡ true
    → use_fault again rule values rows ≡ [] → list_all (has_values is_single) rows ≡ true → list_all (has_values is_single) (used rule values rows) ≡ true
used-fits is_single again rule values rows off fit none all =
    used_as-fits is_single (action_of rule) again rule (values_or_missing rule values) rows off (both (stores is_single (action_of rule) (stores_one rule)) _ fit).0
    (λ one. one_value rule values one (none_first _ _ none)) (none_then (range_kinds (unwrap_or_range rule.range).start_inclusive (most_values rule) (length values)) _ none) all
