-- Lemmas about the command that is described to `clap`, and about which results of parsing the arguments are right.
use Rattle.std.proofs.Common.{arith, ◌≡◌, ◌<◌, ℕ, Bool, List, [], length, Option, None, Some, true, false, codes, refl, sym, ap, ◌∙◌, inl, inr, ◌⊎◌, Result, Ok, Err}
use Rattle.std.specs.Prelude.{IsSomeAnd, option_and_then, option_map}
use Rattle.std.specs.Option.{option_map_or}
use Rattle.std.proofs.lemmas.Bool.Decides.{nat_tests}
use Rattle.clap.specs.Faults.{level_fault}
use Rattle.clap.specs.Simple.{built, rows_at}
use Rattle.clap.specs.Walk.{nothing_held, rows_after}
use Rattle.clap.specs.Words.{Row, Shape, Text, all_of, is_simple_and_free}
use Rattle.clap.proofs.OnLiterals.{clap_on_literals}
use Rattle.std.specs.Borrow.{Bor}
use Rattle.std.proofs.lemmas.List.{length-map}
use Rattle.cal_command.specs.rules.Ask.{Ask, texts_of}
use Rattle.cal_command.specs.rules.CommandFault.{CommandFault, usage, help, bad_value, no_memory, reported}
use Rattle.cal_options.proofs.AcceptedLemmas.{accepted_subcommand, needed_values, needs, requires_one}
use Rattle.cal_options.proofs.UseLemmas.{is_count}
use Rattle.cal_options.specs.rules.ArgumentFault as refusals
use Rattle.cal_options.specs.rules.ArgumentFault.{Fault, IsRefusalOf}
use Rattle.cal_command.specs.rules.CommandLine.{parsed_in, read_options, IsAskOf, IsFaultOf, IsOrNoMemory, ask_in, command_app, faults_in, takes_arguments}
use Rattle.cal_command.specs.rules.VerbMatches.{HasTexts, VerbMatches, verb_matches_for, verb_matches_in}
use Rattle.cal_request.specs.declared.verb.Verb.{Verb}
use Rattle.cal_request.specs.rules.Verb.{is_timer, verb_named}

pub is_free_command : is_simple_and_free command_app ≡ true
unfolding clap_on_literals
is_free_command = refl

-- an error that may be reported for the arguments (`IsRefusalOf`) is right for them, as `IsFaultOf` defines it
pub refused_fault : (arguments : List Text) (fault : Fault) → IsRefusalOf command_app arguments fault → IsFaultOf arguments (reported fault)
unfolding faults_in takes_arguments
refused_fault arguments (refusals.usage text) is = is.0
refused_fault arguments (refusals.help text) is = is.0
refused_fault arguments refusals.no_memory is = tt

-- ## The verb and its texts

-- the subcommand is that of a verb, and requires the texts of this verb
abbrev needs_texts : Shape → Bool
needs_texts shape = option_map_or (λ verb. needs (is_timer verb) (codes "text") shape) (verb_named shape.name) false

needs_verb : requires_one needs_texts (built command_app) ≡ true
needs_verb = refl

counted : (is_single : Bool) (n : ℕ) → is_count is_single n ≡ true → (0 < n) × (is_single ≡ true → n ≡ 1)
counted true n is = (grind (arith, nat_tests), λ single. grind (arith, nat_tests))
counted false n is = (grind (arith, nat_tests), λ single. absurd (cc))

verb_texts : (verb : Verb) (rows : List Row) → option_map_or (λ texts. is_count (is_timer verb) (length texts)) (all_of (codes "text") rows) false ≡ true
    → IsSomeAnd (verb_matches_for verb rows) HasTexts
verb_texts verb rows counts = go (all_of (codes "text") rows) counts
  where
    go : (texts : Option (List Text)) → option_map_or (λ texts. is_count (is_timer verb) (length texts)) texts false ≡ true
        → IsSomeAnd (option_map (λ texts. record { verb = verb; texts = texts; rows = rows }) texts) HasTexts
    go None counts = absurd (cc)
    go (Some texts) counts = counted (is_timer verb) (length texts) counts

named_texts : (shape : Shape) (words : List Text) → needs_texts shape ≡ true → level_fault shape [] nothing_held words false [] ≡ []
    → IsSomeAnd (verb_matches_in (Some (rows_at shape words))) HasTexts
unfolding verb_matches_in
named_texts shape words needed sound = go (verb_named shape.name) needed
  where
    go : (verb : Option Verb) → option_map_or (λ verb. needs (is_timer verb) (codes "text") shape) verb false ≡ true
        → IsSomeAnd (option_and_then (λ verb. verb_matches_for verb (rows_after shape.rules [] words)) verb) HasTexts
    go None needed = absurd (cc)
    go (Some verb) needed = verb_texts verb (rows_after shape.rules [] words) (needed_values (is_timer verb) (codes "text") shape words needed sound)

-- if `clap` parses the arguments, then it finds a verb and its texts in them
pub parsed_texts : (arguments : List Text) → faults_in arguments ≡ [] → IsSomeAnd (parsed_in arguments) HasTexts
unfolding faults_in parsed_in
parsed_texts arguments none =
    let entered = accepted_subcommand command_app arguments needs_texts needs_verb none in
    rw entered.is (named_texts entered.shape entered.after entered.passes entered.sound)

-- ## What `clap` found

pub no_verb : (found : Option (Text × List Row)) → found ≡ None → IsSomeAnd (verb_matches_in found) HasTexts → ⊥
unfolding verb_matches_in
no_verb found is has = rw is at has

verb_found : (found : Option (Text × List Row)) (name : Text) (rows : List Row) (verb : Option Verb) → found ≡ Some (name, rows) → verb ≡ verb_named name
    → verb_matches_in found ≡ option_and_then (λ verb. verb_matches_for verb rows) verb
unfolding verb_matches_in
verb_found found name rows verb is named = rw (is, ← named) refl

pub unnamed : (found : Option (Text × List Row)) (name : Text) (rows : List Row) → found ≡ Some (name, rows) → None ≡ verb_named name
    → IsSomeAnd (verb_matches_in found) HasTexts → ⊥
unnamed found name rows is named has = rw (verb_found found name rows None is named) at has

pub texts_found : (found : Option (Text × List Row)) (name : Text) (rows : List Row) (verb : Verb) (texts : Option (List Text)) → found ≡ Some (name, rows)
    → Some verb ≡ verb_named name → texts ≡ all_of (codes "text") rows
    → verb_matches_in found ≡ option_map (λ texts. record { verb = verb; texts = texts; rows = rows }) texts
texts_found found name rows verb texts is named all = rw all (verb_found found name rows (Some verb) is named)

pub textless : (found : Option (Text × List Row)) (name : Text) (rows : List Row) (verb : Verb) → found ≡ Some (name, rows) → Some verb ≡ verb_named name
    → None ≡ all_of (codes "text") rows → IsSomeAnd (verb_matches_in found) HasTexts → ⊥
textless found name rows verb is named none has = rw (texts_found found name rows verb None is named none) at has

pub texts_counted : (found : Option (Text × List Row)) (name : Text) (rows : List Row) (verb : Verb) (texts : List (Bor Text)) → found ≡ Some (name, rows)
    → Some verb ≡ verb_named name → Some (texts_of texts) ≡ all_of (codes "text") rows → IsSomeAnd (verb_matches_in found) HasTexts
    → (0 < length texts) × (is_timer verb ≡ true → length texts ≡ 1)
texts_counted found name rows verb texts is named all has =
    let counts = rw (texts_found found name rows verb (Some (texts_of texts)) is named all) at has in
    let same = length-map texts (λ text. text.now) in
    (omega (arith, same, counts.0), λ timer. sym same ∙ counts.1 timer)

-- ## Which results are right

-- if `clap` parses the arguments, then the result of checking the values that it found in them, or the error for a failed
-- allocation, is right for the arguments, as `IsAskOf` defines it
pub read_answer : (arguments : List Text) (found : VerbMatches) (answer : Result Ask CommandFault) → faults_in arguments ≡ [] → Some found ≡ parsed_in arguments
    → IsOrNoMemory answer (read_options found) → IsAskOf arguments answer
unfolding ask_in
read_answer arguments found (Ok ask) none parsed is = (none, rw (← parsed) (ap Some (sym is)))
read_answer arguments found (Err (usage text)) none parsed is = absurd is
read_answer arguments found (Err (help text)) none parsed is = absurd is
read_answer arguments found (Err (bad_value message)) none parsed is = (none, rw (← parsed) (ap Some (sym is)))
read_answer arguments found (Err no_memory) none parsed is = tt

-- if `clap` accepts the arguments, only two results are right for them (`IsAskOf`): the one that `ask_in` returns,
-- and the error for a failed allocation
pub taken_arguments : (arguments : List Text) (answer : Result Ask CommandFault) → IsAskOf arguments answer → takes_arguments arguments ≡ true
    → (answer ≡ Err no_memory) ⊎ (ask_in arguments ≡ Some answer)
taken_arguments arguments (Ok ask) is takes = inr is.1
taken_arguments arguments (Err (usage text)) is takes = let bad : true ≡ false = sym takes ∙ is.0 in absurd (cc)
taken_arguments arguments (Err (help text)) is takes = let bad : true ≡ false = sym takes ∙ is.0 in absurd (cc)
taken_arguments arguments (Err (bad_value message)) is takes = inr is.1
taken_arguments arguments (Err no_memory) is takes = inl refl
