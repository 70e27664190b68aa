-- What the arguments ask for, with each string as the list of its bytes. The options are `--iterations` and
-- `--base-time` of systemd-analyze(1), and this project's own `--now`, `--zones` and `--local`.
use Rattle.std.specs.Prelude.{ℕ, ℤ, List, [], Option, None, Result, Ok, Err, map}
use Rattle.std.specs.Borrow.{Bor}
use Rattle.std.specs.String.{string_bytes}
use Rattle.std.specs.Option.{option_map}
use Rattle.cal_command.specs.declared.ask.Ask as declared_ask
use Rattle.cal_command.specs.declared.ask.ZoneItem as declared_item
use Rattle.cal_command.specs.declared.command_fault.CommandFault as declared_fault
use Rattle.cal_command.specs.rules.CommandFault.{CommandFault, shown_fault}
use Rattle.cal_request.specs.declared.verb.Verb.{Verb}
use Rattle.cal_zone.specs.rules.ZoneArgument.{ZoneArgument, in_utc, shown_zone_argument}

-- the bytes of each argument
abbrev pub texts_of : List (Bor (List ℕ)) → List (List ℕ)
texts_of = map (λ argument. argument.now)

-- the path of a zone file, and the name for its zone
pub record ZoneItem : Type 0 where
  pub name : List ℕ
  pub path : List ℕ

-- what the arguments ask for; if `now` is None, the present instant is read from the system's clock
pub record Ask : Type 0 where
  pub verb : Verb
  pub texts : List (List ℕ)
  pub iterations : ℕ
  pub base : Option (List ℕ)
  pub now : Option ℤ
  pub local : ZoneArgument
  pub zones : List ZoneItem

-- what a verb and its texts ask for if no option is given: one elapse after the present instant, which is read from the
-- system's clock; the local zone is UTC, and there are no zone files
abbrev pub default_ask : Verb → List (List ℕ) → Ask
default_ask verb texts = record { verb = verb; texts = texts; iterations = 1; base = None; now = None; local = in_utc; zones = [] }

abbrev pub shown_item : declared_item.ZoneItem → ZoneItem
shown_item item = record { name = string_bytes item.name; path = string_bytes item.path }

abbrev pub shown_ask : declared_ask.Ask → Ask
shown_ask ask = record {
  verb = ask.request.verb;
  texts = map string_bytes ask.request.texts.items;
  iterations = ask.request.iterations;
  base = option_map string_bytes ask.request.base;
  now = option_map (λ now. now.secs) ask.now;
  local = shown_zone_argument ask.local;
  zones = map shown_item ask.zones.items;
}

-- the result of parsing the arguments, with each string as the list of its bytes
abbrev pub shown_answer : Result declared_ask.Ask declared_fault.CommandFault → Result Ask CommandFault
shown_answer (Ok ask) = Ok (shown_ask ask)
shown_answer (Err fault) = Err (shown_fault fault)
