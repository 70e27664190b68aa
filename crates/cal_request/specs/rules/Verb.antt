-- The verbs of requests: their names, which of them take texts, which options they have, and how many elapses a request
-- can ask for.
use Rattle.std.specs.Prelude.{ℕ, ◌≤◌, Bool, true, false, List, [], ◌∷◌, Option, Some, None, codes, find, is_none}
use Rattle.std.specs.Str.{bytes_eq}
use Rattle.cal_request.specs.declared.verb.Verb.{Verb}
use Rattle.cal_request.specs.declared.verb.Verb.TheVariants.{Calendar, Timer, Timestamp, Timespan}
use Rattle.cal_request.specs.declared.verb.TextVerb.{TextVerb}
use Rattle.cal_request.specs.declared.verb.TextVerb.TheVariants as text_verbs

-- the verbs, in the order in which the help lists them
abbrev pub all_verbs : List Verb
all_verbs = Calendar ∷ Timestamp ∷ Timespan ∷ Timer ∷ []

-- the name of a verb, as it is written in the arguments
abbrev pub verb_name : Verb → List ℕ
verb_name Calendar = codes "calendar"
verb_name Timestamp = codes "timestamp"
verb_name Timespan = codes "timespan"
verb_name Timer = codes "timer"

abbrev pub verb_named : List ℕ → Option Verb
verb_named name = find (λ verb. bytes_eq (verb_name verb) name) all_verbs

-- the verb as one that takes texts; None for `timer`, which takes the path of a timer file
abbrev pub text_verb : Verb → Option TextVerb
text_verb Calendar = Some text_verbs.Calendar
text_verb Timestamp = Some text_verbs.Timestamp
text_verb Timespan = Some text_verbs.Timespan
text_verb Timer = None

-- whether a verb reads a timer file; the only text of the request is then the path of that file
abbrev pub is_timer : Verb → Bool
is_timer verb = is_none (text_verb verb)

-- whether a verb computes elapses; only such verbs have a base time
abbrev pub seeks_elapses : Verb → Bool
seeks_elapses Calendar = true
seeks_elapses Timestamp = false
seeks_elapses Timespan = false
seeks_elapses Timer = true

-- whether a verb reads or prints instants; only the reports of such verbs depend on the present and on zones, so only
-- such verbs have the options for them
abbrev pub uses_instants : Verb → Bool
uses_instants Calendar = true
uses_instants Timestamp = true
uses_instants Timespan = false
uses_instants Timer = true

-- the maximum number of elapses that a request can ask for
abbrev pub max_iterations : ℕ
max_iterations = 1_000_000

-- `n` is a number of elapses that a request can ask for
abbrev pub IsCount : ℕ → Type 0
IsCount n = (1 ≤ n) × (n ≤ max_iterations)
