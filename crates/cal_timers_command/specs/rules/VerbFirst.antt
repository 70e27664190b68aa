-- Which argument is moved to the front, so that `clap` reads the verb first.
use Rattle.std.specs.Prelude.{ℕ, zero, suc, ◌+◌, ◌==◌, ◌&&◌, ◌||◌, Bool, false, not, List, [], ◌∷◌, ◌++◌, Option, Some, None, codes, drop, get_or, if◌then◌else◌, is_some, length, nat_lt, take}
use Rattle.std.specs.List.{list_any}
use Rattle.std.specs.Option.{option_map_or}
use Rattle.std.specs.Str.{bytes_eq}
use Rattle.clap.specs.Words.{Text}
use Rattle.cal_timers_command.specs.rules.CommandLine.{needs_value}
use Rattle.cal_timers_command.specs.rules.Verbs.{verb_named}

-- the argument is one of these texts
abbrev pub is_among : List Text → Text → Bool
is_among texts argument = list_any (λ text. bytes_eq text argument) texts

-- the requests for help and for the version
abbrev pub help_options : List Text
help_options = codes "-h" ∷ codes "--help" ∷ codes "-V" ∷ codes "--version" ∷ []

abbrev pub asks_help : Text → Bool
asks_help = is_among help_options

-- an option, other than a request for help or the version: it begins with `-` and isn't just `-`; `--` isn't an option,
-- since only targets follow it
abbrev pub is_option : Text → Bool
is_option argument =
    (get_or argument 0 0 == 45 && nat_lt 1 (length argument)) && not (is_among (codes "--" ∷ help_options) argument)

-- the argument can stand at the front: it is a verb, or `help`, which `clap` adds to the verbs, or a request for help
-- or the version
abbrev pub leads : Text → Bool
leads argument = is_among (codes "help" ∷ help_options) argument || is_some (verb_named argument)

-- the argument at this index is the value of the option before it: that option needs a value, and is not itself the
-- value of an option
unfoldable pub is_value_at : List Text → ℕ → Bool
is_value_at arguments zero = false
is_value_at arguments (suc index) = needs_value (get_or arguments index []) && not (is_value_at arguments index)

-- the argument at this index is an option or the value of an option
abbrev pub is_passed : List Text → ℕ → Bool
is_passed arguments index = is_value_at arguments index || is_option (get_or arguments index [])

-- the first index below `count` at which the test fails
unfoldable pub first_failing : (ℕ → Bool) → ℕ → Option ℕ
first_failing test zero = None
first_failing test (suc count) =
    option_map_or (λ index. Some index) (first_failing test count) (if test count then None else Some count)

-- the index of the first argument that is neither an option, in the sense of `is_option`, nor the value of an option
abbrev pub first_word : List Text → Option ℕ
first_word arguments = first_failing (is_passed arguments) (length arguments)

-- the first argument that is neither an option nor the value of an option is `due`
unfoldable pub asks_due : List Text → Bool
asks_due arguments =
    option_map_or (λ index. bytes_eq (get_or arguments index []) (codes "due")) (first_word arguments) false

abbrev pub moved_first : List Text → ℕ → List Text
moved_first arguments index =
    get_or arguments index [] ∷ (take index arguments ++ drop (index + 1) arguments)

abbrev pub list_first : List Text → List Text
list_first arguments = codes "list" ∷ arguments

-- the arguments with the one at this index moved to the front if it can stand there (`leads`), and otherwise with
-- `list` put in front
abbrev pub led_from : List Text → ℕ → List Text
led_from arguments index =
    if leads (get_or arguments index []) then moved_first arguments index else list_first arguments

-- The arguments as `clap` reads them. The first argument that is neither an option nor the value of an option is moved
-- to the front if it is a verb or a request for help or the version. Otherwise (it is a target or `--`, or there is no
-- such argument), `list` is put in front. All other arguments keep their order.
unfoldable pub verb_first : List Text → List Text
verb_first arguments = option_map_or (led_from arguments) (first_word arguments) (list_first arguments)
