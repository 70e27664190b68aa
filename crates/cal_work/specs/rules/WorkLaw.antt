-- Definitions for the laws in work_laws.rt. If the answers of a system never change, and `clap` accepts the arguments,
-- there is only one possible outcome, unless memory runs out. It depends on the system, on what `clap` finds in the
-- arguments, and on the zones that `jiff` reads from the files. `bare_gives` is an example of such a system, and
-- `daily_world` is the world that the program finds in it.
use Rattle.std.specs.Prelude.{◌≡◌, ◌⊎◌, ℕ, ℤ, IsTrue, Bool, true, false, List, [], ◌∷◌, Option, None, Some, Result, Ok, Err, pos, zero}
use Rattle.cal_command.specs.rules.Ask.{Ask, ZoneItem}
use Rattle.cal_command.specs.rules.CommandFault.{CommandFault}
use Rattle.cal_machine.specs.rules.Told.{FileFound, Unopened, Told, ClockShows, FileHolds}
use Rattle.cal_request.specs.rules.RequestKind.{RequestKind, for_file, for_texts, kind_by}
use Rattle.cal_work.specs.rules.FileAnswer.{FileAnswer}
use Rattle.cal_work.specs.rules.Outcome.{World, ZoneFound, outcome}
use Rattle.cal_report.specs.rules.ReportLines.{Report}
use Rattle.cal_work.specs.rules.Stop.{Stop, command_stop, memory_stop}
use Rattle.cal_command.specs.rules.WorkedArguments.{daily_ask}
use Rattle.cal_zone.specs.rules.Zone.{utc}
use Rattle.cal_work.specs.declared.arguments_to_bytes.Ended.{Ended}

-- the answers of the system never change: the file at each path always holds what `held` says, and the clock always
-- shows this time
pub record IsFixed (gives : Told → Bool) (held : List ℕ → FileFound) (clock : Option ℤ) : Type 0 where
  pub files : (path : List ℕ) (found : FileFound) → IsTrue (gives (FileHolds path found)) → found ≡ held path
  pub time : (shown : Option ℤ) → IsTrue (gives (ClockShows shown)) → shown ≡ clock

-- What the program finds in each zone file of such a system if memory doesn't run out. The zones that `jiff` reads from
-- the files are taken from `found`.
unfoldable pub fixed_zones : (List ℕ → FileFound) → List ZoneItem → List ZoneFound → List ZoneFound
fixed_zones held [] found = []
fixed_zones held (item ∷ items) [] = []
fixed_zones held (item ∷ items) (f ∷ found) =
    record { answer = Some (held item.path); zone = f.zone } ∷ fixed_zones held items found

-- what the timer file holds, or None if the request is for texts
abbrev pub fixed_file : (List ℕ → FileFound) → RequestKind → FileAnswer
fixed_file held (for_texts verb texts) = None
fixed_file held (for_file path) = Some (held path)

-- The world of a system whose answers never change. `ask` is what the arguments ask for. The local zone and the zones
-- that `jiff` reads from the files are those of `world`.
unfoldable pub fixed_world : (List ℕ → FileFound) → Option ℤ → Ask → World → World
fixed_world held clock ask world = record {
  parsed = Ok ask;
  zones = fixed_zones held ask.zones world.zones;
  local = world.local;
  clock = clock;
  file = fixed_file held (kind_by ask.verb ask.texts);
}

abbrev pub fixed_outcome : (List ℕ → FileFound) → Option ℤ → Result Ask CommandFault → World → Result Report Stop
fixed_outcome held clock (Ok ask) world = outcome (fixed_world held clock ask world)
fixed_outcome held clock (Err fault) world = Err (command_stop fault)

-- `expected` is the outcome `fixed`, or the stop for running out of memory
abbrev pub IsOrMemoryStop : {T : Type 0} → Result T Stop → Result T Stop → Type 0
IsOrMemoryStop expected fixed = (expected ≡ fixed) ⊎ (expected ≡ Err memory_stop)

-- what is found at each path of a system without files: it can't be opened
abbrev pub bare_files : List ℕ → FileFound
bare_files path = Unopened

-- the answers of a system without files, whose clock shows 0
unfoldable pub bare_gives : Told → Bool
bare_gives (FileHolds path Unopened) = true
bare_gives (ClockShows (Some (pos zero))) = true
bare_gives told = false

-- the world that the program finds in such a system if the arguments are `calendar daily`
abbrev pub daily_world : World
daily_world = record { parsed = Ok daily_ask; zones = []; local = utc; clock = Some (pos 0); file = None }

-- the end of a run that succeeded
abbrev pub fine_end : Ended
fine_end = record { status = 0; written = Ok tt }
