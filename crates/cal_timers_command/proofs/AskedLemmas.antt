-- Lemmas about what the arguments ask, and which errors they have.
use Rattle.std.proofs.Common.{IfErr, IfOk, ◌≡◌, ◌∙◌, true, false, List, [], ◌∷◌, None, Option, Some, Result, Ok, Err, arith, ap, codes, inl, inr, map, refl, sym}
use Rattle.std.specs.Prelude.{IsSomeAnd, not, unwrap_or}
use Rattle.cal_timers_command.proofs.CommandLemmas.{parsed_verb}
use Rattle.clap.specs.Facts.{Entry}
use Rattle.clap.specs.Walk.{row_of}
use Rattle.clap.specs.declared.parser.matches.Found.{Found}
use Rattle.cal_options.specs.declared.argument_fault.ArgumentFault.{ArgumentFault}
use Rattle.cal_options.specs.declared.argument_fault.ArgumentFault.TheVariants.{Usage, Help, NoMemory}
use Rattle.cal_timers_command.specs.declared.verb.Verb.{Verb}
use Rattle.cal_timers_command.specs.rules.CommandLine.{command_app}
use Rattle.cal_timers_command.specs.rules.VerbFirst.{verb_first}
use Rattle.std.specs.List.{list_any}
use Rattle.clap.specs.Words.{Row, Text, all_of, fault_of, rows_of, subcommand_of}
use Rattle.cal_timers_command.specs.rules.Asked.{Command, HasNeeded, IsCommandOf, IsFaultIn, IsFaultOf, answer_in, command_for, faults_in, parsed_in, targets_in, verb_in}
use Rattle.cal_options.specs.rules.ArgumentFault.{Fault, IsRefusalOf, help, is_of_help, no_memory, shown_fault, usage}

-- the entries that `clap` found have the same names as the rows that `rows_of` makes from them
pub names_found : (found : Found) → map (λ entry. entry.0.now) found.entries.items ≡ map (λ row. row.id) (rows_of found)
names_found found = go found.entries.items
  where
    go : (entries : List Entry) → map (λ entry. entry.0.now) entries ≡ map (λ row. row.id) (map row_of entries)
    go [] = refl
    go (entry ∷ entries) = ap (λ names. entry.0.now ∷ names) (go entries)

-- ## The timers, or the expressions of `next`

pub targets_given : (rows : List Row) (texts : List Text) → Some texts ≡ all_of (codes "target") rows → texts ≡ targets_in rows
targets_given rows texts is = ap (λ given. unwrap_or given []) is

pub no_targets_given : (rows : List Row) → None ≡ all_of (codes "target") rows → [] ≡ targets_in rows
no_targets_given rows is = ap (λ given. unwrap_or given []) is

-- ## The answer to the arguments

answered : (arguments ordered : List Text) (found : Option (Text × List Row)) (verb : Verb) (rows : List Row) → ordered ≡ verb_first arguments
    → found ≡ subcommand_of command_app ordered → verb_in found ≡ Some (verb, rows) → answer_in arguments ≡ Some (command_for verb rows)
unfolding answer_in parsed_in
answered arguments ordered found verb rows first at is = rw (← first, ← at, is) refl

sound : (arguments ordered : List Text) → ordered ≡ verb_first arguments → fault_of command_app ordered ≡ [] → faults_in arguments ≡ []
unfolding faults_in
sound arguments ordered first none = ap (fault_of command_app) (sym first) ∙ none

pub read_command : (arguments ordered : List Text) (found : Option (Text × List Row)) (verb : Verb) (rows : List Row) (command : Command) → ordered ≡ verb_first arguments
    → fault_of command_app ordered ≡ [] → found ≡ subcommand_of command_app ordered → verb_in found ≡ Some (verb, rows) → command_for verb rows ≡ Ok command
    → IsCommandOf arguments command
read_command arguments ordered found verb rows command first none at is asked =
    (sound arguments ordered first none, answered arguments ordered found verb rows first at is ∙ ap Some asked)

pub read_fault : (arguments ordered : List Text) (found : Option (Text × List Row)) (verb : Verb) (rows : List Row) (fault : ArgumentFault) → ordered ≡ verb_first arguments
    → fault_of command_app ordered ≡ [] → found ≡ subcommand_of command_app ordered → verb_in found ≡ Some (verb, rows) → IsFaultIn (command_for verb rows) fault
    → IsFaultOf arguments (shown_fault fault)
read_fault arguments ordered found verb rows (Usage text) first none at is asked =
    inr ((sound arguments ordered first none, answered arguments ordered found verb rows first at is ∙ ap Some asked.0), asked.1)
read_fault arguments ordered found verb rows (Help text) first none at is asked = absurd asked
read_fault arguments ordered found verb rows NoMemory first none at is asked = tt

pub parsed_complete : (arguments : List Text) → faults_in arguments ≡ [] → IsSomeAnd (parsed_in arguments) (λ found. HasNeeded found.0 found.1)
unfolding faults_in parsed_in
parsed_complete arguments none = parsed_verb (verb_first arguments) none

pub refused_fault : (arguments ordered : List Text) (fault : ArgumentFault) → ordered ≡ verb_first arguments → IsRefusalOf command_app ordered (shown_fault fault)
    → IsFaultOf arguments (shown_fault fault)
refused_fault arguments ordered (Usage text) first is = inl (rw (← first) is)
refused_fault arguments ordered (Help text) first is = rw (← first) is
refused_fault arguments ordered NoMemory first is = tt

pub if_ok_both : {X Y : Type 0} (r : Result X Y) (P Q : X → Type 0) {R : X → Type 0} → ((x : X) → P x → Q x → R x) → IfOk r P → IfOk r Q → IfOk r R
if_ok_both (Ok x) P Q f p q = f x p q
if_ok_both (Err y) P Q f p q = tt

pub if_err_weaker : {X Y : Type 0} (r : Result X Y) (P Q : Y → Type 0) → ((fault : Y) → P fault → Q fault) → IfErr r P → IfErr r Q
if_err_weaker (Ok x) P Q f p = tt
if_err_weaker (Err y) P Q f p = f y p

-- ## Arguments have one answer

pub one_command : (arguments : List Text) (one other : Command) → IsCommandOf arguments one → IsCommandOf arguments other → one ≡ other
one_command arguments one other first second = let equal : Some (Ok one) ≡ Some (Ok other) = sym first.1 ∙ second.1 in grind arith

pub command_or_fault : (arguments : List Text) (command : Command) (fault : Fault) → IsCommandOf arguments command → IsFaultOf arguments fault → fault ≡ no_memory
unfolding faults_in
command_or_fault arguments command (usage text) asked (inl refused) =
    let bad : false ≡ true = ap (list_any (λ kind. not (is_of_help kind))) (sym asked.0) ∙ refused.0.1 in absurd (cc)
command_or_fault arguments command (usage text) asked (inr read) =
    let bad : Some (Ok command) ≡ Some (Err (usage text)) = sym asked.1 ∙ read.0.1 in absurd (cc)
command_or_fault arguments command (help text) asked refused =
    let bad : false ≡ true = ap (list_any is_of_help) (sym asked.0) ∙ refused.0.1 in absurd (cc)
command_or_fault arguments command no_memory asked refused = refl
