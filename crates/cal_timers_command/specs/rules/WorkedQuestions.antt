-- Examples of arguments, and what verbs ask if few options are given.
use Rattle.std.specs.Prelude.{ℕ, List, [], ◌∷◌, None, Some, codes, false}
use Rattle.cal_timers_command.specs.rules.Asked.{Command, Options, Question}

-- the options if none of them is given
abbrev pub no_options : Options
no_options = record { zone = None; shown_in = None; now = None; root = []; is_user = false; is_json = false }

-- a question without options that most verbs share
abbrev pub plain : Question → Command
plain question = record { question = question; options = no_options }

-- a question with `--utc`
abbrev pub in_utc : Question → Command
in_utc question = record { question = question; options = record no_options { zone = Some (codes "UTC") } }

-- `show backup`
abbrev pub show_arguments : List (List ℕ)
show_arguments = codes "show" ∷ codes "backup" ∷ []

-- `backup`, which isn't a verb
abbrev pub target_arguments : List (List ℕ)
target_arguments = codes "backup" ∷ []

-- `--utc list`
abbrev pub utc_arguments : List (List ℕ)
utc_arguments = codes "--utc" ∷ codes "list" ∷ []

-- `-n 3 next daily`
abbrev pub count_arguments : List (List ℕ)
count_arguments = codes "-n" ∷ codes "3" ∷ codes "next" ∷ codes "daily" ∷ []

-- `between -- -5 now`
abbrev pub range_arguments : List (List ℕ)
range_arguments = codes "between" ∷ codes "--" ∷ codes "-5" ∷ codes "now" ∷ []

-- `due`
abbrev pub due_arguments : List (List ℕ)
due_arguments = codes "due" ∷ []

-- `--utc due backup`
abbrev pub due_unit_arguments : List (List ℕ)
due_unit_arguments = codes "--utc" ∷ codes "due" ∷ codes "backup" ∷ []

-- `due backup clean`, which has one unit too many
abbrev pub due_two_arguments : List (List ℕ)
due_two_arguments = codes "due" ∷ codes "backup" ∷ codes "clean" ∷ []

-- `--utc --zone=UTC list`, whose options exclude each other
abbrev pub clash_arguments : List (List ℕ)
clash_arguments = codes "--utc" ∷ codes "--zone=UTC" ∷ codes "list" ∷ []

-- `list --help`
abbrev pub help_arguments : List (List ℕ)
help_arguments = codes "list" ∷ codes "--help" ∷ []
