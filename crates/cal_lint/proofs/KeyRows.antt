-- Examples of unknown keys, and of names in the section `Install`, checked by computation.
use Rattle.std.proofs.Common.{◌≡◌, true, false, codes, refl}
use Rattle.cal_unit_index.specs.rules.UnitName.{has_unit_suffix, is_unit_name}
use Rattle.cal_timer.specs.rules.Keys.{keys_of, kind_of}
use Rattle.cal_bytes.specs.rules.Separators.{words}
use Rattle.cal_lint.specs.declared.sections.Section.TheVariants.{Unit, Timer, Install}
use Rattle.cal_lint.specs.rules.InstallNames.{has_bad_name}
use Rattle.cal_lint.specs.rules.UnknownKeys.{is_unit_key, is_unknown_key}

known : is_unknown_key Timer (codes "FixedRandomDelay") ≡ false
unfolding kind_of keys_of
known = refl

exceptions : is_unknown_key Timer (codes "X-ExceptOnCalendar") ≡ false
unfolding kind_of keys_of
exceptions = refl

vendor : is_unknown_key Timer (codes "X-Vendor") ≡ false
unfolding kind_of keys_of
vendor = refl

other_case : is_unknown_key Timer (codes "onCalendar") ≡ true
unfolding kind_of keys_of
other_case = refl

misspelled : is_unknown_key Timer (codes "X-ExcepOnCalendar") ≡ true
unfolding kind_of keys_of
misspelled = refl

unit_key : is_unknown_key Unit (codes "AssertIOPressure") ≡ false
unfolding is_unit_key
unit_key = refl

no_unit_key : is_unknown_key Unit (codes "Descripton") ≡ true
unfolding is_unit_key
no_unit_key = refl

install_key : is_unknown_key Install (codes "WantedBy") ≡ false
install_key = refl

no_install_key : is_unknown_key Install (codes "WantetBy") ≡ true
no_install_key = refl

two_names : has_bad_name (record { number = 1; key = codes "WantedBy"; value = codes "timers.target a@x.target" }) ≡ false
unfolding words is_unit_name has_unit_suffix
two_names = refl

no_suffix : has_bad_name (record { number = 1; key = codes "WantedBy"; value = codes "timers.target no" }) ≡ true
unfolding words is_unit_name has_unit_suffix
no_suffix = refl

comma : has_bad_name (record { number = 1; key = codes "Also"; value = codes "a.timer,b.timer" }) ≡ true
unfolding words is_unit_name has_unit_suffix
comma = refl

service_alias : has_bad_name (record { number = 1; key = codes "Alias"; value = codes "b.service" }) ≡ true
unfolding words is_unit_name has_unit_suffix
service_alias = refl

specifier : has_bad_name (record { number = 1; key = codes "WantedBy"; value = codes "%i" }) ≡ false
specifier = refl

quoted : has_bad_name (record { number = 1; key = codes "WantedBy"; value = codes "\"timers.target\"" }) ≡ false
quoted = refl

instance : has_bad_name (record { number = 1; key = codes "DefaultInstance"; value = codes "home" }) ≡ false
instance = refl
