-- Lemmas about arguments that `clap` accepts: they name a subcommand of the command, and each required argument of that
-- subcommand has a value.
use Rattle.std.proofs.Common.{◌≡◌, ◌&&◌, ◌||◌, ℕ, Bool, true, false, cond, List, [], ◌∷◌, Option, None, Some, arith, codes, length, refl}
use Rattle.std.specs.Prelude.{find, fold, is_some, nat_lt, not, option_map}
use Rattle.std.specs.List.{list_all, list_any}
use Rattle.std.specs.Option.{option_map_or}
use Rattle.std.specs.Str.{bytes_eq}
use Rattle.std.proofs.lemmas.Bool.Decides.{nat_tests}
use Rattle.std.proofs.lemmas.Slice.Eq.{bytes_eq-Decides}
use Rattle.clap.proofs.WalkLemmas.{both}
use Rattle.clap.specs.Facts.{explicit_source}
use Rattle.clap.specs.Faults.{check_fault, defaults_fault, entered_fault, fault_of, level_fault, other_fault, settle_fault, step_fault, turn_fault, walk_fault, word_fault}
use Rattle.clap.specs.Kinds.{check_kinds, or_else}
use Rattle.clap.specs.Lexer.{long_of, short_of}
use Rattle.clap.specs.Simple.{App, Shape, argument_words, built, entered, label_of, names_of, rows_at, subcommand_of}
use Rattle.clap.specs.Takes.{is_given}
use Rattle.clap.specs.Walk.{Held, Names, Outcome, Step, Waiting, Walk, after_flag, after_step, answers_to, arg_by_index, arg_by_long, bundle, default_rows, done, finished, has_row, idle, is_empty, long_met, long_or_other, next, nothing_held, option, plain, plain_word, positional, reading_by, refused, rows_after, settled, short_or_plain, subcommand, subcommand_met, subcommand_or_other, to_positional, trailing, value, waits, walk, walk_from, walked, walked_from, with_default, word_met}
use Rattle.clap.specs.Words.{Row, Rule, Text, all_of}
use Rattle.clap.specs.declared.builder.value_parser.Reading.{Reading}
use Rattle.clap.specs.declared.error.kind.ErrorKind.TheVariants as kind
use Rattle.cal_options.proofs.UseLemmas.{added_row, found_passes, has_values, is_count, is_fit, neither, none_first, none_then}
use Rattle.cal_options.proofs.WalkLemmas.{settled-fits, walk-fits}

-- ## Default values

default_rows-fit : (is_single : Bool) (id : Text) (how : Reading) (defaults : List Text) (rows : List Row) → has_row id rows ≡ false
    → nat_lt (length defaults) 2 ≡ true → list_all (has_values is_single) rows ≡ true
    → list_all (has_values is_single) (default_rows id how defaults rows) ≡ true
default_rows-fit is_single id how [] rows absent few all = all
default_rows-fit is_single id how (text ∷ texts) rows absent few all =
    added_row is_single id how _ (text ∷ texts) rows absent (grind (arith, nat_tests)) all

with_default-fits : (is_single : Bool) (rule : Rule) (rows : List Row) → is_fit is_single rule ≡ true → list_all (has_values is_single) rows ≡ true
    → list_all (has_values is_single) (with_default rows rule) ≡ true
with_default-fits is_single rule rows fit all = go (has_row rule.id rows) refl
  where
    go : (has : Bool) → has_row rule.id rows ≡ has
        → list_all (has_values is_single) (cond has rows (default_rows rule.id (reading_by rule) rule.defaults rows)) ≡ true
    go true is = all
    go false is = default_rows-fit is_single rule.id (reading_by rule) rule.defaults rows is (both _ (nat_lt (length rule.defaults) 2) fit).1 all

defaults-fit : (is_single : Bool) (rules : List Rule) (rows : List Row) → list_all (is_fit is_single) rules ≡ true → list_all (has_values is_single) rows ≡ true
    → list_all (has_values is_single) (fold with_default rows rules) ≡ true
defaults-fit is_single [] rows fit all = all
defaults-fit is_single (rule ∷ rules) rows fit all =
    let parts = both (is_fit is_single rule) _ fit in
    defaults-fit is_single rules (with_default rows rule) parts.1 (with_default-fits is_single rule rows parts.0 all)

-- ## Required arguments

has_subcommand : (help missing argument : Bool) → check_kinds help missing argument ≡ [] → missing ≡ false
has_subcommand true missing argument none = absurd (cc)
has_subcommand false true argument none = absurd (cc)
has_subcommand false false argument none = refl

has_arguments : (help missing argument : Bool) → check_kinds help missing argument ≡ [] → argument ≡ false
has_arguments true missing argument none = absurd (cc)
has_arguments false true argument none = absurd (cc)
has_arguments false false true none = absurd (cc)
has_arguments false false false none = refl

-- the subcommand has a required argument with this name
abbrev pub is_required : Text → List Rule → Bool
is_required id = list_any (λ rule. rule.required && bytes_eq rule.id id)

same_given : (rule : Rule) (id : Text) (rows : List Row) → (rule.required && not (is_given rule.id rows)) ≡ false → (rule.required && bytes_eq rule.id id) ≡ true
    → is_given id rows ≡ true
same_given rule id rows none here =
    let parts = both rule.required (bytes_eq rule.id id) here in
    let same : rule.id ≡ id = grind (arith, bytes_eq-Decides rule.id id, parts.1) in
    rw (← same) (grind (arith, parts.0, none))

required_given : (rules : List Rule) (id : Text) (rows : List Row) → list_any (λ rule. rule.required && not (is_given rule.id rows)) rules ≡ false
    → is_required id rules ≡ true → is_given id rows ≡ true
required_given [] id rows none required = absurd (cc)
required_given (rule ∷ rules) id rows none required =
    let parts = neither (rule.required && not (is_given rule.id rows)) _ none in go (rule.required && bytes_eq rule.id id) refl parts required (required_given rules id rows parts.1)
  where
    go : (here : Bool) → (rule.required && bytes_eq rule.id id) ≡ here
        → ((rule.required && not (is_given rule.id rows)) ≡ false) × (list_any (λ rule. rule.required && not (is_given rule.id rows)) rules ≡ false)
        → (here || is_required id rules) ≡ true → (is_required id rules ≡ true → is_given id rows ≡ true) → is_given id rows ≡ true
    go true is parts required later = same_given rule id rows parts.0 is
    go false is parts required later = later required

given_values : (is_single : Bool) (id : Text) (rows : List Row) → list_all (has_values is_single) rows ≡ true → is_given id rows ≡ true
    → option_map_or (λ values. is_count is_single (length values)) (all_of id rows) false ≡ true
given_values is_single id rows all given = go (find (λ row. bytes_eq row.id id) rows) given (found_passes (λ row. bytes_eq row.id id) (has_values is_single) rows all)
  where
    go : (found : Option Row) → option_map_or (λ row. explicit_source row.source) found false ≡ true → option_map_or (has_values is_single) found true ≡ true
        → option_map_or (λ values. is_count is_single (length values)) (option_map (λ row. row.values) found) false ≡ true
    go None given has = absurd (cc)
    go (Some row) given has = has

-- The subcommand has a required argument with this name, and each use of an argument stores a value. If `is_single`, no
-- argument may have more than one value.
abbrev pub needs : Bool → Text → Shape → Bool
needs is_single id shape = not shape.args_override_self && (list_all (is_fit is_single) shape.rules && is_required id shape.rules)

-- if a subcommand has no fault, then its required argument has a value, and exactly one if `is_single`
pub needed_values : (is_single : Bool) (id : Text) (shape : Shape) (words : List Text) → needs is_single id shape ≡ true
    → level_fault shape [] nothing_held words false [] ≡ []
    → option_map_or (λ values. is_count is_single (length values)) (all_of id (rows_after shape.rules [] words)) false ≡ true
needed_values is_single id shape words needed none =
    let off : shape.args_override_self ≡ false = grind (arith, (both (not shape.args_override_self) _ needed).0) in
    let parts = both (list_all (is_fit is_single) shape.rules) (is_required id shape.rules) (both (not shape.args_override_self) _ needed).1 in
    let end = (walk shape.rules [] nothing_held words).held in
    let walked = none_first (walk_fault shape [] (walk_from nothing_held) words) _ none in
    let later = none_then (walk_fault shape [] (walk_from nothing_held) words) _ none in
    let settles = none_first (settle_fault shape.rules shape.args_override_self end) _ later in
    let checked = none_then (defaults_fault (settled shape.rules end).rows shape.rules) _ (none_then (settle_fault shape.rules shape.args_override_self end) _ later) in
    let rows = finished shape.rules end in
    let all = defaults-fit is_single shape.rules (settled shape.rules end).rows parts.0
    (settled-fits is_single shape off parts.0 end settles (walk-fits is_single shape off parts.0 [] (walk_from nothing_held) words walked refl)) in
    given_values is_single id rows all (required_given shape.rules id rows (has_all shape rows checked) parts.1)
  where
    has_all : (shape : Shape) (rows : List Row) → check_fault shape rows false ≡ [] → list_any (λ rule. rule.required && not (is_given rule.id rows)) shape.rules ≡ false
    has_all shape rows none =
        let checked = has_arguments _ _ (not (shape.subcommand_negates_reqs && false) && list_any (λ rule. rule.required && not (is_given rule.id rows)) shape.rules) none in
        grind (arith, checked)

-- ## The subcommand

-- `clap` adds the subcommand `help`, which no accepted arguments name
abbrev is_help : Text → Bool
is_help name = bytes_eq name (codes "help")

-- the step doesn't enter `help`
abbrev enters_other : Step → Bool
enters_other (subcommand name) = not (is_help name)
enters_other (next waiting) = true
enters_other (trailing position) = true
enters_other value = true

-- the walk didn't stop at `help`
abbrev stops_elsewhere : Option (Text × List Text) → Bool
stops_elsewhere stopped = option_map_or (λ p. not (is_help p.0)) stopped true

plain_word-other : (rules : List Rule) (waiting : Waiting) (word : Text) (held : Held) → enters_other (plain_word rules waiting word held).1 ≡ true
plain_word-other rules idle word held = refl
plain_word-other rules (option id) word held = refl
plain_word-other rules positional word held = refl

after_flag-other : (rules : List Rule) (waiting : Waiting) (word : Text) (held : Held) (outcome : Outcome)
    → enters_other (after_flag rules waiting word held outcome).1 ≡ true
after_flag-other rules waiting word held done = refl
after_flag-other rules waiting word held (waits id) = refl
after_flag-other rules waiting word held plain = plain_word-other rules waiting word held
after_flag-other rules waiting word held refused = plain_word-other rules waiting word held

short_or_plain-other : (rules : List Rule) (waiting : Waiting) (word : Text) (flags : Option Text) (held : Held)
    → enters_other (short_or_plain rules waiting word flags held).1 ≡ true
short_or_plain-other rules waiting word None held = plain_word-other rules waiting word held
short_or_plain-other rules waiting word (Some flags) held = after_flag-other rules waiting word (bundle rules flags held).0 (bundle rules flags held).1

long_or_other-other : (rules : List Rule) (waiting : Waiting) (word : Text) (long : Option (Text × Option Text)) (held : Held)
    → enters_other (long_or_other rules waiting word long held).1 ≡ true
long_or_other-other rules waiting word None held = short_or_plain-other rules waiting word (short_of word) held
long_or_other-other rules waiting word (Some p) held =
    after_flag-other rules waiting word (long_met rules (arg_by_long rules p.0) p.1 held).0 (long_met rules (arg_by_long rules p.0) p.1 held).1

-- entering `help` is a fault, unless the command disables it
not_help : (help disabled : Bool) → disabled ≡ false → cond (help && not disabled) (kind.DisplayHelp ∷ kind.InvalidSubcommand ∷ []) [] ≡ [] → not help ≡ true
not_help false disabled enabled none = refl
not_help true true enabled none = absurd (cc)
not_help true false enabled none = absurd (cc)

module _ (shape : Shape) (enabled : shape.disable_help_subcommand ≡ false) where
  subcommand_or_other-other : (met : Option Text) (waiting : Waiting) (position : ℕ) (word : Text) (held : Held) → other_fault shape met word held ≡ []
      → enters_other (subcommand_or_other shape.rules met waiting position word held).1 ≡ true
  subcommand_or_other-other (Some name) waiting position word held none = not_help (is_help name) shape.disable_help_subcommand enabled none
  subcommand_or_other-other None waiting position word held none =
      elim (bytes_eq word (45 ∷ 45 ∷ [])) as (λ ends. enters_other (cond ends (held, trailing position) (long_or_other shape.rules waiting word (long_of word) held)).1 ≡ true) [
        | true ↦ refl
        | false ↦ long_or_other-other shape.rules waiting word (long_of word) held
      ]

  word_met-other : (names : Names) (is_trailing : Bool) (waiting : Waiting) (position : ℕ) (word : Text) (held : Held)
      → word_fault shape names is_trailing waiting word held ≡ [] → enters_other (word_met shape.rules names is_trailing waiting position word held).1 ≡ true
  word_met-other names true waiting position word held none = refl
  word_met-other names false waiting position word held none =
      subcommand_or_other-other (subcommand_met names waiting word) waiting position word held none

  to_positional-elsewhere : (found : Option Rule) (word : Text) (before : Walk) (held : Held) → stops_elsewhere before.stopped ≡ true
      → stops_elsewhere (to_positional shape.rules found word before held).stopped ≡ true
  to_positional-elsewhere None word before held elsewhere = elsewhere
  to_positional-elsewhere (Some rule) word before held elsewhere = refl

  after_step-elsewhere : (word : Text) (before : Walk) (held : Held) (step : Step) → enters_other step ≡ true → stops_elsewhere before.stopped ≡ true
      → stops_elsewhere (after_step shape.rules word before held step).stopped ≡ true
  after_step-elsewhere word before held (next waiting) other elsewhere = elsewhere
  after_step-elsewhere word before held (trailing position) other elsewhere = elsewhere
  after_step-elsewhere word before held (subcommand name) other elsewhere = other
  after_step-elsewhere word before held value other elsewhere = to_positional-elsewhere (arg_by_index shape.rules before.position) word before held elsewhere

  walked_from-elsewhere : (names : Names) (stopped : Option (Text × List Text)) (before : Walk) (word : Text)
      → cond (is_some stopped) [] (or_else (word_fault shape names before.is_trailing before.waiting word before.held)
      (step_fault shape before.position (word_met shape.rules names before.is_trailing before.waiting before.position word before.held).0
      (word_met shape.rules names before.is_trailing before.waiting before.position word before.held).1)) ≡ []
      → stops_elsewhere stopped ≡ true → stops_elsewhere before.stopped ≡ true → stops_elsewhere (walked_from shape.rules names stopped before word).stopped ≡ true
  walked_from-elsewhere names (Some p) before word none elsewhere kept = elsewhere
  walked_from-elsewhere names None before word none elsewhere kept =
      let met = word_met shape.rules names before.is_trailing before.waiting before.position word before.held in
      let faults = word_fault shape names before.is_trailing before.waiting word before.held in
      after_step-elsewhere word before met.0 met.1
      (word_met-other names before.is_trailing before.waiting before.position word before.held (none_first faults _ none)) kept

  walk-elsewhere : (names : Names) (before : Walk) (words : List Text) → walk_fault shape names before words ≡ [] → stops_elsewhere before.stopped ≡ true
      → stops_elsewhere (fold (walked shape.rules names) before words).stopped ≡ true
  unfolding walk_fault walked
  walk-elsewhere names before [] none elsewhere = elsewhere
  walk-elsewhere names before (word ∷ words) none elsewhere =
      let turn = turn_fault shape names before word in
      walk-elsewhere names (walked shape.rules names before word) words (none_then turn _ none)
      (walked_from-elsewhere names before.stopped before word (none_first turn _ none) elsewhere elsewhere)

-- What `clap` finds for a subcommand that passes the test: its name, and the rows after a walk over the arguments `after`
-- it. This walk has no fault.
pub record Entered (found : Option (Text × List Row)) (test : Shape → Bool) : Type 0 where
  pub shape : Shape
  pub after : List Text
  pub is : found ≡ Some (rows_at shape after)
  pub passes : test shape ≡ true
  pub sound : level_fault shape [] nothing_held after false [] ≡ []

-- the subcommand has no aliases, and passes the test unless it is `help`
abbrev pub is_subcommand : (Shape → Bool) → Shape → Bool
is_subcommand test shape = is_empty shape.aliases && (is_help shape.name || test shape)

find_holds : {A : Type 0} (p : A → Bool) (xs : List A) → option_map_or p (find p xs) true ≡ true
find_holds p [] = refl
find_holds p (x ∷ xs) = go (p x) refl (find_holds p xs)
  where
    go : (here : Bool) → p x ≡ here → option_map_or p (find p xs) true ≡ true → option_map_or p (cond here (Some x) (find p xs)) true ≡ true
    go true is later = is
    go false is later = later

no_alias : (name : Text) (aliases : List Text) → is_empty aliases ≡ true → list_any (λ alias. bytes_eq alias name) aliases ≡ false
no_alias name [] none = refl
no_alias name (alias ∷ aliases) none = absurd (grind (arith, nat_tests))

passes_test : (name : Text) (shape : Shape) (test : Shape → Bool) → is_subcommand test shape ≡ true → answers_to name (label_of shape) ≡ true
    → not (is_help name) ≡ true → test shape ≡ true
passes_test name shape test named answers other =
    let parts = both (is_empty shape.aliases) (is_help shape.name || test shape) named in
    let here : (bytes_eq shape.name name || false) ≡ true = rw (no_alias name shape.aliases parts.0) at answers in
    let same : shape.name ≡ name = grind (arith, bytes_eq-Decides shape.name name) in
    let elsewhere : not (is_help shape.name) ≡ true = rw same other in
    grind (arith, parts.1, elsewhere)

entered_found : (p : Text × List Text) (test : Shape → Bool) (found : Option Shape) → option_map_or (is_subcommand test) found true ≡ true
    → option_map_or (λ shape. answers_to p.0 (label_of shape)) found true ≡ true → is_some (option_map (λ shape. rows_at shape p.1) found) ≡ true
    → option_map_or (λ shape. level_fault shape [] nothing_held p.1 false []) found [] ≡ [] → not (is_help p.0) ≡ true
    → Entered (option_map (λ shape. rows_at shape p.1) found) test
entered_found p test None subcommands answers has none other = absurd (cc)
entered_found p test (Some shape) named answers has none other = record {
  shape = shape;
  after = p.1;
  is = refl;
  passes = passes_test p.0 shape test named answers other;
  sound = none;
}

entered_at : (app : App) (test : Shape → Bool) (stopped : Option (Text × List Text)) → list_all (is_subcommand test) app.subs ≡ true
    → is_some (entered app stopped) ≡ true → entered_fault app stopped ≡ [] → stops_elsewhere stopped ≡ true → Entered (entered app stopped) test
entered_at app test None subcommands has none elsewhere = absurd (cc)
entered_at app test (Some p) subcommands has none elsewhere =
    entered_found p test (find (λ shape. answers_to p.0 (label_of shape)) app.subs)
    (found_passes (λ shape. answers_to p.0 (label_of shape)) (is_subcommand test) app.subs subcommands)
    (find_holds (λ shape. answers_to p.0 (label_of shape)) app.subs) has none elsewhere

-- the command requires a subcommand, and each of its subcommands passes the test, except `help`
abbrev pub requires_one : (Shape → Bool) → App → Bool
requires_one test app = app.top.subcommand_required && (not app.top.disable_help_subcommand && list_all (is_subcommand test) app.subs)

entered_some : (shape : Shape) (rows : List Row) (has : Bool) → shape.subcommand_required ≡ true → check_fault shape rows has ≡ [] → has ≡ true
entered_some shape rows has required none =
    let checked = has_subcommand _ (not has && shape.subcommand_required) _ none in
    grind (arith, checked)

-- if `clap` accepts the arguments, then they name a subcommand that passes the test
pub accepted_subcommand : (app : App) (words : List Text) (test : Shape → Bool) → requires_one test (built app) ≡ true → fault_of app words ≡ []
    → Entered (subcommand_of app words) test
accepted_subcommand app words test required none =
    let top = (built app).top in
    let names = names_of (built app) in
    let arguments = argument_words app words in
    let end = walk top.rules names nothing_held arguments in
    let parts = both top.subcommand_required _ required in
    let others = both (not top.disable_help_subcommand) (list_all (is_subcommand test) (built app).subs) parts.1 in
    let enabled : top.disable_help_subcommand ≡ false = grind (arith, others.0) in
    let walks = none_first (walk_fault top names (walk_from nothing_held) arguments) _ none in
    let below = none_then (walk_fault top names (walk_from nothing_held) arguments) _ none in
    let settles = none_then (entered_fault (built app) end.stopped) _ below in
    let checked = none_then (defaults_fault (settled top.rules end.held).rows top.rules) _ (none_then (settle_fault top.rules top.args_override_self end.held) _ settles) in
    entered_at (built app) test end.stopped others.1
    (entered_some top (finished top.rules end.held) (is_some (entered (built app) end.stopped)) parts.0 checked)
    (none_first (entered_fault (built app) end.stopped) _ below)
    (walk-elsewhere top enabled names (walk_from nothing_held) arguments walks refl)
