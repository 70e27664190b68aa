-- The verbs of `calendar-timers` and their names.
use Rattle.std.specs.Prelude.{ℕ, ◌==◌, Bool, List as ListOf, [], ◌∷◌, Option, chars, codes, find, length}
use Rattle.std.specs.Str.{bytes_eq}
use Rattle.strsim.specs.Edits.{osa_table}
use Rattle.cal_timers_command.specs.declared.verb.Verb.{Verb}
use Rattle.cal_timers_command.specs.declared.verb.Verb.TheVariants.{List, Show, Lint, Between, Same, Next, Due, Cron}

-- the verbs, in the order in which the help lists them
abbrev pub all_verbs : ListOf Verb
all_verbs = List ∷ Show ∷ Lint ∷ Between ∷ Same ∷ Next ∷ Due ∷ Cron ∷ []

-- the name of a verb, as it is written in the arguments
abbrev pub verb_name : Verb → ListOf ℕ
verb_name List = codes "list"
verb_name Show = codes "show"
verb_name Lint = codes "lint"
verb_name Between = codes "between"
verb_name Same = codes "same"
verb_name Next = codes "next"
verb_name Due = codes "due"
verb_name Cron = codes "cron"

-- the verb with this name, or None if there is no such verb
abbrev pub verb_named : ListOf ℕ → Option Verb
verb_named name = find (λ verb. bytes_eq (verb_name verb) name) all_verbs

-- the number of edits between two words; an edit leaves out, adds or replaces a letter, or swaps it with the next one
unfoldable pub edits_between : ListOf ℕ → ListOf ℕ → ℕ
edits_between word other = (osa_table (chars word) (chars other)).last_row (length (chars other))

abbrev pub is_similar : ListOf ℕ → Verb → Bool
is_similar word verb = edits_between word (verb_name verb) == 1

-- the first verb whose name differs from the word by a single edit
abbrev pub similar_verb : ListOf ℕ → Option Verb
similar_verb word = find (is_similar word) all_verbs
