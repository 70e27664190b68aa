-- The rules for what `due` reads, tried on examples.
use Rattle.std.proofs.Common.{◌≡◌, false, true, None, Some, codes, refl}
use Rattle.std.specs.Prelude.{pos}
use Rattle.cal_unit_index.specs.rules.UnitName.{unit_kind_of}
use Rattle.cal_answers.specs.rules.BootTime.{boot_second_in}
use Rattle.cal_answers.specs.rules.DueFaults.{can_be_file_of}
use Rattle.cal_answers.specs.rules.Seconds.{number_in}
use Rattle.cal_answers.specs.rules.Trigger.{second_of_micros}

-- ## The time of the trigger

last_microsecond_of_a_second : second_of_micros 1608859800999999 ≡ Some (pos 1608859800)
last_microsecond_of_a_second = refl

last_instant : second_of_micros 7258211998999999 ≡ Some (pos 7258211998)
last_instant = refl

after_the_last_instant : second_of_micros 7258211999000000 ≡ None
after_the_last_instant = refl

zeros_in_front : number_in (codes "007") ≡ Some 7
zeros_in_front = refl

no_sign : number_in (codes "+7") ≡ None
no_sign = refl

no_blank : number_in (codes " 7") ≡ None
no_blank = refl

not_empty : number_in (codes "") ≡ None
not_empty = refl

-- ## The boot time

line_of_many : boot_second_in (codes "cpu  1 2 3\nbtime 1608859700\nprocesses 7\n") ≡ Some (pos 1608859700)
line_of_many = refl

first_of_two : boot_second_in (codes "btime 5\nbtime 6") ≡ Some (pos 5)
first_of_two = refl

no_second_in_the_first : boot_second_in (codes "btime x\nbtime 6") ≡ None
no_second_in_the_first = refl

other_keys : boot_second_in (codes " btime 5\nbtimes 6\nbtime\n") ≡ None
other_keys = refl

-- ## Files of the timer

same_stem : can_be_file_of (codes "a") (codes "a") ≡ true
same_stem = refl

its_template : can_be_file_of (codes "a@") (codes "a@b") ≡ true
unfolding unit_kind_of
its_template = refl

other_instance : can_be_file_of (codes "a@c") (codes "a@cd") ≡ false
unfolding unit_kind_of
other_instance = refl

longer_stem : can_be_file_of (codes "a") (codes "ab") ≡ false
unfolding unit_kind_of
longer_stem = refl
