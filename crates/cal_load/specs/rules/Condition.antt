-- Whether a command is a guard of a timer's exceptions: whether it runs `calendar-timers due` about the timer, so that
-- the service isn't started if it fails (systemd.service(5), ExecCondition= and Command Lines).
--
-- A command is only split at blanks. Quotes aren't interpreted, nor are variables, specifiers and several commands that
-- `;` separates: `may_be_guard` has the commands that one of these could make a guard. The stem of a timer is its name
-- without `.timer`.
use Rattle.std.specs.Prelude.{ℕ, ◌==◌, nat_eq, nat_lt, Bool, false, not, ◌&&◌, ◌||◌, if◌then◌else◌, List, [], ◌∷◌, codes, count_by, drop, filter, length, take}
use Rattle.std.specs.List.{ends_with, list_all, list_any, prefix_len, starts_with}
use Rattle.std.specs.Str.{bytes_eq}
use Rattle.cal_bytes.specs.rules.Separators.{words}
use Rattle.cal_bytes.specs.rules.Trim.{trim_start_matches}
use Rattle.cal_unit_index.specs.rules.UnitName.{without_suffix}

-- ## The parts of a command

-- whether the byte is one of the prefixes of a command, which can have several
abbrev pub is_prefix : ℕ → Bool
is_prefix b = list_any (nat_eq b) (codes "@-:+!")

-- the prefixes of a command with this first word
abbrev pub prefixes : List ℕ → List ℕ
prefixes first = take (prefix_len is_prefix first) first

-- whether a failure of the command counts as success, because it has the prefix `-`
abbrev pub ignores_failure : List ℕ → Bool
ignores_failure first = list_any (nat_eq 45) (prefixes first)

-- whether the second word of the command is `argv[0]` of its program, because it has the prefix `@`
abbrev pub names_itself : List ℕ → Bool
names_itself first = list_any (nat_eq 64) (prefixes first)

-- whether the program is `calendar-timers`, or a path that ends with this name
abbrev pub is_our_program : List ℕ → Bool
is_our_program program =
    bytes_eq program (codes "calendar-timers") || ends_with nat_eq program (codes "/calendar-timers")

-- whether the program of a command with this first word is `calendar-timers`
abbrev pub is_ours : List ℕ → Bool
is_ours first = is_our_program (trim_start_matches is_prefix first)

-- the arguments of the program of a command with these words
abbrev pub arguments_in : List ℕ → List (List ℕ) → List (List ℕ)
arguments_in first rest = if names_itself first then drop 1 rest else rest

-- ## Arguments

-- whether systemd replaces or removes what this byte is or begins: a quote, a variable, a specifier or an escape
abbrev pub is_special : ℕ → Bool
is_special b = list_any (nat_eq b) (codes "\"'$%\\")

-- whether systemd may pass something else to the program than this word, or ends the command before it, at a `;`
abbrev pub is_replaced : List ℕ → Bool
is_replaced word = list_any is_special word || bytes_eq word (codes ";")

-- whether the byte is a quote or begins an escape, so that systemd may divide the command at other blanks
abbrev pub is_quoting : ℕ → Bool
is_quoting b = list_any (nat_eq b) (codes "\"'\\")

-- whether systemd may read another command than these words; it fills in specifiers in the path of the program, such as
-- `%h`, but no variables
abbrev pub is_rewritten : List ℕ → List (List ℕ) → Bool
is_rewritten first rest = list_any is_quoting first || list_any is_replaced rest

abbrev pub is_option : List ℕ → Bool
is_option word = starts_with nat_eq word (codes "-")

-- whether the word is `--in=ZONE`
abbrev pub is_zone : List ℕ → Bool
is_zone word = starts_with nat_eq word (codes "--in=")

-- whether the argument isn't an option, or is `--user`, `--json` or `--in=ZONE`
abbrev pub is_allowed : List ℕ → Bool
is_allowed word =
    not (is_option word) || (bytes_eq word (codes "--user") || (bytes_eq word (codes "--json") || is_zone word))

-- how many of the arguments are this one
abbrev pub count_of : List ℕ → List (List ℕ) → ℕ
count_of argument arguments = count_by (λ word. bytes_eq word argument) arguments

-- whether the options among the arguments are allowed, each at most once, and `--user` is among them exactly if
-- the timer is a unit of a user
abbrev pub do_options_fit : Bool → List (List ℕ) → Bool
do_options_fit is_user arguments =
    list_all is_allowed arguments
    && (count_of (codes "--user") arguments == (if is_user then 1 else 0)
    && (nat_lt (count_of (codes "--json") arguments) 2 && nat_lt (count_by is_zone arguments) 2))

-- whether the word is the name of the timer with this stem, with or without `.timer`
abbrev pub names_timer : List ℕ → List ℕ → Bool
names_timer stem word = bytes_eq (without_suffix word) stem

-- whether these are the verb `due` and, at most, the name of the timer
abbrev pub is_due_about : List ℕ → List (List ℕ) → Bool
is_due_about stem [] = false
is_due_about stem (verb ∷ names) =
    bytes_eq verb (codes "due") && (nat_lt (length names) 2 && list_all (names_timer stem) names)

-- whether `calendar-timers` with these arguments runs `due` about the timer; without a name, `due` is about the timer
-- that started the service
abbrev pub runs_due : Bool → List ℕ → List (List ℕ) → Bool
runs_due is_user stem arguments =
    is_due_about stem (filter (λ word. not (is_option word)) arguments) && do_options_fit is_user arguments

-- ## Guards

-- whether a command with these words is a guard
abbrev pub are_words_of_guard : Bool → List ℕ → List (List ℕ) → Bool
are_words_of_guard is_user stem [] = false
are_words_of_guard is_user stem (first ∷ rest) =
    (not (ignores_failure first) && is_ours first)
    && (not (is_rewritten first rest) && runs_due is_user stem (arguments_in first rest))

-- whether the command is a guard of the timer with this stem; `is_user` says whether the timer is a unit of a user
unfoldable pub is_guard : Bool → List ℕ → List ℕ → Bool
is_guard is_user stem command = are_words_of_guard is_user stem (words command)

-- whether the second text contains the first one
unfoldable pub has_text : List ℕ → List ℕ → Bool
has_text needle [] = starts_with nat_eq [] needle
has_text needle (b ∷ bs) = starts_with nat_eq (b ∷ bs) needle || has_text needle bs

-- whether a command with these words may be a guard
abbrev pub may_words_guard : List ℕ → List (List ℕ) → Bool
may_words_guard command [] = false
may_words_guard command (first ∷ rest) =
    not (ignores_failure first)
    && (if is_ours first then is_rewritten first rest else has_text (codes "calendar-timers") command)

-- whether a command that isn't a guard by its words alone may be one: it runs `calendar-timers`, but
-- systemd may read other words, or it runs another program and mentions `calendar-timers`
unfoldable pub may_be_guard : List ℕ → Bool
may_be_guard command = may_words_guard command (words command)
