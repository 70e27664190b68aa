-- When the machine started: proc(5), /proc/stat, btime.
use Rattle.std.specs.Prelude.{ℕ, ℤ, ◌==◌, Bool, List, Option, None, Some, Result, Ok, Err, codes, drop, filter, length, nat_eq, slice_get}
use Rattle.std.specs.List.{slice_split, starts_with}
use Rattle.std.specs.Option.{option_and_then, option_map_or}
use Rattle.cal_machine.specs.declared.tree.Unreadable.{Unreadable}
use Rattle.cal_machine.specs.rules.Machine.{Machine}
use Rattle.cal_tasks.specs.declared.due.BootTime.{BootTime}
use Rattle.cal_tasks.specs.declared.due.BootTime.TheVariants.{NotConsidered, Unknown, At}
use Rattle.cal_answers.specs.rules.Seconds.{number_in, second_at}

abbrev pub is_line_feed : ℕ → Bool
is_line_feed byte = byte == 10

abbrev pub key : List ℕ
key = codes "btime "

abbrev pub has_key : List ℕ → Bool
has_key line = starts_with nat_eq line key

-- the number after the key, as a second of Unix time
abbrev pub second_in : List ℕ → Option ℤ
second_in line = option_and_then second_at (number_in (drop (length key) line))

-- the boot time in the first line that has the key
abbrev pub boot_second_among : List (List ℕ) → Option ℤ
boot_second_among lines = option_and_then second_in (slice_get (filter has_key lines) 0)

abbrev pub boot_second_in : List ℕ → Option ℤ
boot_second_in stat = boot_second_among (slice_split is_line_feed stat)

abbrev pub time_of : Option ℤ → BootTime
time_of second = option_map_or At second Unknown

abbrev pub boot_time_by : Result (List ℕ) Unreadable → BootTime
boot_time_by (Ok stat) = time_of (boot_second_in stat)
boot_time_by (Err why) = Unknown

-- the time at which the machine started, or that it isn't known, since the file can't be read or doesn't have it
abbrev pub boot_time_on : Machine → BootTime
boot_time_on machine = boot_time_by (machine.file (codes "/proc/stat"))

-- The boot time that counts for a run of the timer `about`; `now` is the value of `--now`. If it is given, no boot time
-- counts, since this time can be long before the machine started. `about` is None if `due` has no timer.
abbrev pub boot_time_for : Machine → Option ℤ → Option (List ℕ) → BootTime
boot_time_for machine None (Some about) = boot_time_on machine
boot_time_for machine _ _ = NotConsidered
