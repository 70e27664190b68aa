-- Lemmas about the command that is described to `clap`, and about what `clap` finds in arguments that it accepts.
use Rattle.std.proofs.Common.{◌≡◌, ◌<◌, Bool, List, [], ◌∷◌, Option, None, Some, arith, codes, false, length, refl, true}
use Rattle.std.specs.Prelude.{IsSome, IsSomeAnd, find, option_and_then, option_map, slice_get, unwrap_or}
use Rattle.std.specs.List.{list_all}
use Rattle.std.specs.Option.{option_map_or}
use Rattle.std.specs.Str.{bytes_eq}
use Rattle.std.proofs.lemmas.Bool.Decides.{nat_tests}
use Rattle.clap.proofs.OnLiterals.{clap_on_literals}
use Rattle.clap.proofs.WalkLemmas.{both}
use Rattle.clap.specs.Faults.{level_fault}
use Rattle.clap.specs.Simple.{built, rows_at}
use Rattle.clap.specs.Walk.{nothing_held, rows_after}
use Rattle.clap.specs.Words.{Row, Shape, Text, all_of, fault_of, first_of, is_simple_and_free, subcommand_of}
use Rattle.cal_options.proofs.AcceptedLemmas.{accepted_subcommand, needed_values, needs, requires_one}
use Rattle.cal_options.proofs.UseLemmas.{is_count}
use Rattle.cal_timers_command.specs.declared.verb.Verb.{Verb}
use Rattle.cal_timers_command.specs.declared.verb.Verb.TheVariants as verbs
use Rattle.cal_timers_command.specs.rules.Asked.{HasNeeded, targets_in, verb_in}
use Rattle.cal_timers_command.specs.rules.CommandLine.{command_app}
use Rattle.cal_timers_command.specs.rules.Verbs.{verb_named}

pub is_free_command : is_simple_and_free command_app ≡ true
unfolding clap_on_literals
is_free_command = refl

-- ## What a verb needs

-- the names under which `clap` stores the targets that a verb needs
abbrev needed_names : Verb → List Text
needed_names verbs.List = []
needed_names verbs.Show = codes "target" ∷ []
needed_names verbs.Lint = []
needed_names verbs.Between = codes "first" ∷ codes "second" ∷ []
needed_names verbs.Same = codes "first" ∷ codes "second" ∷ []
needed_names verbs.Next = codes "target" ∷ []
needed_names verbs.Due = []
needed_names verbs.Cron = []

-- the subcommand is that of a verb, and requires all targets that this verb needs
abbrev needs_targets : Shape → Bool
needs_targets shape = option_map_or (λ verb. list_all (λ name. needs false name shape) (needed_names verb)) (verb_named shape.name) false

needs_verb : requires_one needs_targets (built command_app) ≡ true
needs_verb = refl

-- a target with this name is given
abbrev is_given : List Row → Text → Bool
is_given rows name = option_map_or (λ values. is_count false (length values)) (all_of name rows) false

some_targets : (rows : List Row) → is_given rows (codes "target") ≡ true → 0 < length (targets_in rows)
some_targets rows given = go (all_of (codes "target") rows) given
  where
    go : (targets : Option (List Text)) → option_map_or (λ values. is_count false (length values)) targets false ≡ true → 0 < length (unwrap_or targets [])
    go None given = absurd (cc)
    go (Some targets) given = grind (arith, nat_tests)

one_target : (name : Text) (rows : List Row) → is_given rows name ≡ true → IsSome (first_of name rows)
one_target name rows given = go (find (λ row. bytes_eq row.id name) rows) given
  where
    first_value : (values : List Text) → is_count false (length values) ≡ true → IsSome (slice_get values 0)
    first_value [] given = absurd (cc)
    first_value (text ∷ texts) given = refl

    go : (row : Option Row) → option_map_or (λ values. is_count false (length values)) (option_map (λ row. row.values) row) false ≡ true
        → IsSome (option_and_then (λ row. slice_get row.values 0) row)
    go None given = absurd (cc)
    go (Some row) given = first_value row.values given

has_needed : (verb : Verb) (rows : List Row) → list_all (is_given rows) (needed_names verb) ≡ true → HasNeeded verb rows
has_needed verbs.List rows given = tt
has_needed verbs.Show rows given = some_targets rows (both (is_given rows (codes "target")) true given).0
has_needed verbs.Lint rows given = tt
has_needed verbs.Between rows given =
    let parts = both (is_given rows (codes "first")) _ given in
    (one_target (codes "first") rows parts.0, one_target (codes "second") rows (both (is_given rows (codes "second")) true parts.1).0)
has_needed verbs.Same rows given =
    let parts = both (is_given rows (codes "first")) _ given in
    (one_target (codes "first") rows parts.0, one_target (codes "second") rows (both (is_given rows (codes "second")) true parts.1).0)
has_needed verbs.Next rows given = some_targets rows (both (is_given rows (codes "target")) true given).0
has_needed verbs.Due rows given = tt
has_needed verbs.Cron rows given = tt

-- ## What `clap` finds

all_given : (shape : Shape) (words : List Text) (names : List Text) → list_all (λ name. needs false name shape) names ≡ true
    → level_fault shape [] nothing_held words false [] ≡ [] → list_all (is_given (rows_after shape.rules [] words)) names ≡ true
all_given shape words [] needed sound = refl
all_given shape words (name ∷ names) needed sound =
    let parts = both (needs false name shape) _ needed in
    rw (needed_values false name shape words parts.0 sound) (all_given shape words names parts.1 sound)

verb_needed : (shape : Shape) (words : List Text) → needs_targets shape ≡ true → level_fault shape [] nothing_held words false [] ≡ []
    → IsSomeAnd (verb_in (Some (rows_at shape words))) (λ found. HasNeeded found.0 found.1)
unfolding verb_in
verb_needed shape words needed sound = go (verb_named shape.name) needed
  where
    go : (verb : Option Verb) → option_map_or (λ verb. list_all (λ name. needs false name shape) (needed_names verb)) verb false ≡ true
        → IsSomeAnd {T = Verb × List Row} (option_map (λ verb. (verb, rows_after shape.rules [] words)) verb) (λ found. HasNeeded found.0 found.1)
    go None needed = absurd (cc)
    go (Some verb) needed = has_needed verb (rows_after shape.rules [] words) (all_given shape words (needed_names verb) needed sound)

-- if `clap` parses the arguments, then it finds a verb and all targets that this verb needs
pub parsed_verb : (arguments : List Text) → fault_of command_app arguments ≡ [] → IsSomeAnd (verb_in (subcommand_of command_app arguments)) (λ found. HasNeeded found.0 found.1)
parsed_verb arguments none =
    let entered = accepted_subcommand command_app arguments needs_targets needs_verb none in
    rw entered.is (verb_needed entered.shape entered.after entered.passes entered.sound)

pub no_verb : (found : Option (Text × List Row)) → found ≡ None → IsSomeAnd (verb_in found) (λ found. HasNeeded found.0 found.1) → ⊥
unfolding verb_in
no_verb found is has = rw is at has

pub verb_found : (found : Option (Text × List Row)) (name : Text) (rows : List Row) (verb : Option Verb) → found ≡ Some (name, rows) → verb ≡ verb_named name
    → verb_in found ≡ option_map (λ verb. (verb, rows)) verb
unfolding verb_in
verb_found found name rows verb is named = rw (is, ← named) refl

pub unnamed : (found : Option (Text × List Row)) (name : Text) (rows : List Row) → found ≡ Some (name, rows) → None ≡ verb_named name
    → IsSomeAnd (verb_in found) (λ found. HasNeeded found.0 found.1) → ⊥
unnamed found name rows is named has = rw (verb_found found name rows None is named) at has

pub needed_found : (found : Option (Text × List Row)) (verb : Verb) (rows : List Row) → verb_in found ≡ Some (verb, rows)
    → IsSomeAnd (verb_in found) (λ found. HasNeeded found.0 found.1) → HasNeeded verb rows
needed_found found verb rows is has = rw is at has
