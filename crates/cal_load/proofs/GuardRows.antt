-- Examples that check the definitions of a service's guard.
use Rattle.std.proofs.Common.{◌≡◌, ℕ, true, false, List, [], ◌∷◌, codes, map, refl}
use Rattle.std.specs.List.{list_all, list_any}
use Rattle.cal_bytes.specs.rules.Separators.{words}
use Rattle.cal_bytes.specs.rules.Trim.{trim_start_matches}
use Rattle.cal_timer.specs.rules.Assignments.{Assignment}
use Rattle.cal_unit_index.specs.rules.UnitName.{without_suffix}
use Rattle.cal_load.specs.declared.guard.Guard.{Guard}
use Rattle.cal_load.specs.declared.guard.Guard.TheVariants.{Asks, Missing, Unknown, FailureAccepted}
use Rattle.cal_load.specs.rules.Condition.{has_text, is_guard, may_be_guard}
use Rattle.cal_load.specs.rules.Guard.{Fails, GoesOn, Skips, counted_values, guard_in, reaction}

-- commands that are guards of the system's timer `backup.timer`
guards : map (is_guard false (codes "backup"))
    (codes "/usr/bin/calendar-timers due" ∷ codes "calendar-timers due" ∷ codes "calendar-timers due backup" ∷ codes "calendar-timers due backup.timer"
    ∷ codes "calendar-timers --json due --in=Europe/Berlin" ∷ codes "%h/bin/calendar-timers  due\tbackup --json" ∷ [])
    ≡ true ∷ true ∷ true ∷ true ∷ true ∷ true ∷ []
unfolding is_guard words trim_start_matches without_suffix
guards = refl

-- guards with prefixes; after `@`, the second word is `argv[0]`
prefixed_guards : map (is_guard false (codes "backup"))
    (codes ":/usr/bin/calendar-timers due" ∷ codes "+calendar-timers due" ∷ codes "!calendar-timers due" ∷ codes "!!calendar-timers due"
    ∷ codes "@/usr/bin/calendar-timers x due" ∷ codes "@calendar-timers timers due" ∷ codes ":@!!/opt/bin/calendar-timers due due backup" ∷ [])
    ≡ true ∷ true ∷ true ∷ true ∷ true ∷ true ∷ true ∷ []
unfolding is_guard words trim_start_matches without_suffix
prefixed_guards = refl

-- commands that aren't guards: a failure counts as success; the verb is `argv[0]`; another timer, verb or program;
-- other words and options; an option given twice; `--user` at a unit of the system; and incomplete commands
others : list_any (is_guard false (codes "backup"))
    (codes "-/usr/bin/calendar-timers due" ∷ codes "@-calendar-timers x due" ∷ codes "@/usr/bin/calendar-timers due" ∷ codes "calendar-timers due other"
    ∷ codes "calendar-timers due backup backup" ∷ codes "calendar-timers backup due" ∷ codes "calendar-timers list due" ∷ codes "calendar-timers next due" ∷ codes "calendar-timers list"
    ∷ codes "calendar-timers due #" ∷ codes "calendar-timers due --help" ∷ codes "calendar-timers due --now=0" ∷ codes "calendar-timers due --root=/mnt"
    ∷ codes "calendar-timers due --zone=UTC" ∷ codes "calendar-timers --utc due" ∷ codes "calendar-timers due --" ∷ codes "calendar-timers due --json --json"
    ∷ codes "calendar-timers due --in=UTC --in=UTC" ∷ codes "calendar-timers --user due" ∷ codes "/usr/bin/my-calendar-timers due"
    ∷ codes "calendar-timers" ∷ codes "due" ∷ codes "-" ∷ [] ∷ [])
    ≡ false
unfolding is_guard words trim_start_matches without_suffix
others = refl

-- for a unit of a user, the command needs `--user`
user_guards : map (is_guard true (codes "backup"))
    (codes "calendar-timers --user due" ∷ codes "calendar-timers due backup --user" ∷ codes "calendar-timers due" ∷ codes "calendar-timers due --user --user" ∷ codes "--user calendar-timers due" ∷ [])
    ≡ true ∷ true ∷ false ∷ false ∷ false ∷ []
unfolding is_guard words trim_start_matches without_suffix
user_guards = refl

-- commands that may be guards, or not: another program, a shell, quotes, a variable, a specifier, an escape, and a
-- second command
unclear : list_all may_be_guard
    (codes "/usr/bin/env calendar-timers due" ∷ codes "sh -c \"calendar-timers due\"" ∷ codes "sh -c 'exec /usr/bin/calendar-timers due'" ∷ codes "\"/usr/bin/calendar-timers\" due"
    ∷ codes "calendar-timers 'due'" ∷ codes "calendar-timers due $NAME" ∷ codes "calendar-timers due %i" ∷ codes "calendar-timers due a\\x20b"
    ∷ codes "calendar-timers due ; /bin/true" ∷ codes "@calendar-timers ; due" ∷ codes "@\"/usr/bin/calendar-timers x\" due" ∷ codes "\"/usr/bin/calendar-timers due" ∷ codes "@calendar-timers timers ${ARGUMENTS}" ∷ [])
    ≡ true
unfolding may_be_guard words trim_start_matches has_text
unclear = refl

none_unclear : list_any (is_guard false (codes "backup"))
    (codes "/usr/bin/env calendar-timers due" ∷ codes "calendar-timers due --in=$ZONE" ∷ codes "calendar-timers due \"backup\"" ∷ codes "calendar-timers due ;" ∷ codes "@calendar-timers ; due" ∷ codes "@\"/usr/bin/calendar-timers x\" due"
    ∷ codes "\"/usr/bin/calendar-timers due" ∷ codes "@calendar-timers \"x due" ∷ [])
    ≡ false
unfolding is_guard words trim_start_matches without_suffix
none_unclear = refl

-- commands that can't be guards
never : list_any may_be_guard
    (codes "/bin/true" ∷ codes "-/usr/bin/env calendar-timers due" ∷ codes "-calendar-timers due $NAME" ∷ codes "calendar-timers list" ∷ codes "@$NAME calendar due" ∷ codes "calendar-timers due --help" ∷ [] ∷ [])
    ≡ false
unfolding may_be_guard words trim_start_matches has_text
never = refl

-- ## Services

abbrev assigned : List (List ℕ × List ℕ) → List Assignment
assigned = map (λ pair. record { number = 1; key = pair.0; value = pair.1 })

abbrev condition : List ℕ → List ℕ × List ℕ
condition command = (codes "ExecCondition", command)

abbrev statuses : List ℕ → List ℕ × List ℕ
statuses value = (codes "SuccessExitStatus", value)

abbrev ours : List ℕ × List ℕ
ours = condition (codes "/usr/bin/calendar-timers due")

abbrev other : List ℕ × List ℕ
other = condition (codes "/bin/true")

abbrev shell : List ℕ × List ℕ
shell = condition (codes "/bin/sh -c 'calendar-timers due'")

abbrev guard_of : List (List ℕ × List ℕ) → Guard
guard_of settings = guard_in false (codes "backup") (assigned settings)

-- one of the conditions after the last empty one has to be a guard; an empty value of another key clears nothing
asking : map guard_of
    ((ours ∷ []) ∷ (ours ∷ other ∷ []) ∷ (other ∷ shell ∷ ours ∷ []) ∷ (condition [] ∷ ours ∷ []) ∷ (ours ∷ (codes "ExecStartPre", []) ∷ []) ∷ [])
    ≡ Asks ∷ Asks ∷ Asks ∷ Asks ∷ Asks ∷ []
unfolding counted_values is_guard may_be_guard words trim_start_matches without_suffix has_text
asking = refl

missing : map guard_of
    ([] ∷ (other ∷ []) ∷ (ours ∷ condition [] ∷ []) ∷ (shell ∷ condition [] ∷ other ∷ []) ∷ ((codes "ExecStartPre", codes "calendar-timers due") ∷ []) ∷ (statuses (codes "1") ∷ []) ∷ [])
    ≡ Missing ∷ Missing ∷ Missing ∷ Missing ∷ Missing ∷ Missing ∷ []
unfolding counted_values is_guard may_be_guard words trim_start_matches without_suffix has_text
missing = refl

unknown : map guard_of ((shell ∷ []) ∷ (shell ∷ other ∷ []) ∷ (statuses (codes "1") ∷ shell ∷ []) ∷ []) ≡ Unknown ∷ Unknown ∷ Unknown ∷ []
unfolding counted_values is_guard may_be_guard words trim_start_matches without_suffix has_text
unknown = refl

-- whether the service's successful statuses include 1, after the last empty assignment
accepted : map guard_of
    ((ours ∷ statuses (codes "1") ∷ []) ∷ (statuses (codes "0 1 2") ∷ ours ∷ []) ∷ (ours ∷ statuses (codes "TERM FAILURE") ∷ []) ∷ (ours ∷ statuses [] ∷ statuses (codes "1") ∷ []) ∷ (statuses (codes "1") ∷ statuses (codes "2") ∷ ours ∷ [])
    ∷ (ours ∷ statuses (codes "0 2 11") ∷ []) ∷ (ours ∷ statuses (codes "1") ∷ statuses [] ∷ []) ∷ (ours ∷ statuses (codes "TEMPFAIL") ∷ []) ∷ [])
    ≡ FailureAccepted ∷ FailureAccepted ∷ FailureAccepted ∷ FailureAccepted ∷ FailureAccepted ∷ Asks ∷ Asks ∷ Asks ∷ []
unfolding counted_values is_guard may_be_guard words trim_start_matches without_suffix has_text
accepted = refl

-- what systemd does after a condition, by its exit status; with the prefix `-`; and with the status in
-- SuccessExitStatus=
reactions : map (reaction false false) (0 ∷ 1 ∷ 254 ∷ 255 ∷ []) ≡ GoesOn ∷ Skips ∷ Skips ∷ Fails ∷ []
reactions = refl

going_on : (reaction true false 1 ∷ reaction true false 255 ∷ reaction false true 1 ∷ []) ≡ GoesOn ∷ GoesOn ∷ GoesOn ∷ []
going_on = refl
