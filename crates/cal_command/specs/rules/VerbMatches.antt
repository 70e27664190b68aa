-- What `clap` finds in the arguments: a verb with its texts, and the values of its options (systemd-analyze(1)).
use Rattle.std.specs.Prelude.{◌≡◌, ◌<◌, true, List, length, Option, None, codes, if◌then◌else◌, option_and_then, option_map}
use Rattle.clap.specs.Words.{Row, Text, all_of, first_of, found_of, rows_of}
use Rattle.cal_command.specs.rules.Ask.{texts_of}
use Rattle.cal_command.specs.declared.verb_matches.VerbMatches as declared_matches
use Rattle.cal_request.specs.rules.Verb.{uses_instants, is_timer, seeks_elapses, verb_named}
use Rattle.cal_request.specs.declared.verb.Verb.{Verb}

-- a verb with its texts, and the rows of what `clap` found for the verb: one row for each option that was given, and
-- one row for all texts
pub record VerbMatches : Type 0 where
  pub verb : Verb
  pub texts : List Text
  pub rows : List Row

-- there is at least one text, and for `timer` exactly one: the path of the timer file
abbrev pub HasTexts : VerbMatches → Type 0
HasTexts found = (0 < length found.texts) × (is_timer found.verb ≡ true → length found.texts ≡ 1)

-- the verb with its texts, or None if `clap` found no texts
abbrev pub verb_matches_for : Verb → List Row → Option VerbMatches
verb_matches_for verb rows = option_map (λ texts. record { verb = verb; texts = texts; rows = rows }) (all_of (codes "text") rows)

-- the verb whose name `clap` found, with its texts; None if it found no verb or no texts
unfoldable pub verb_matches_in : Option (Text × List Row) → Option VerbMatches
verb_matches_in = option_and_then (λ found. option_and_then (λ verb. verb_matches_for verb found.1) (verb_named found.0))

-- the value of an option, if the verb computes elapses and the option was given
abbrev pub elapse_option : VerbMatches → Text → Option Text
elapse_option found name = if seeks_elapses found.verb then first_of name found.rows else None

-- the value of an option, if the verb reads or prints instants and the option was given
abbrev pub instant_option : VerbMatches → Text → Option Text
instant_option found name = if uses_instants found.verb then first_of name found.rows else None

abbrev pub shown_matches : declared_matches.VerbMatches → VerbMatches
shown_matches found = record {
  verb = found.verb;
  texts = texts_of found.texts.now;
  rows = rows_of (found_of found.values.now);
}
