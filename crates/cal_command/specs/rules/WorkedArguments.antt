-- Examples of arguments, and for some of them also what `clap` finds in them or what they ask for: systemd-analyze(1).
use Rattle.std.specs.Prelude.{ℕ, List, [], ◌∷◌, None, Some, codes, pos}
use Rattle.cal_command.specs.rules.Ask.{Ask, default_ask}
use Rattle.cal_command.specs.rules.VerbMatches.{VerbMatches}
use Rattle.cal_request.specs.declared.verb.Verb.TheVariants.{Calendar}
use Rattle.cal_zone.specs.rules.ZoneArgument.{of_name}
use Rattle.clap.specs.declared.builder.value_parser.Reading.TheVariants as reading
use Rattle.clap.specs.declared.parser.matches.ValueSource.TheVariants as source

-- the arguments of `calendar-analyze calendar daily`: a verb and one text, without options
abbrev pub daily_arguments : List (List ℕ)
daily_arguments = codes "calendar" ∷ codes "daily" ∷ []

-- what `clap` finds in `calendar daily`: the verb, the text `daily`, and a single row, which lists the texts
abbrev pub daily_matches : VerbMatches
daily_matches = record { verb = Calendar; texts = codes "daily" ∷ []; rows = record { id = codes "text"; values = codes "daily" ∷ []; count = None; source = Some source.CommandLine; reading = reading.AsWritten } ∷ [] }

-- what `calendar daily` asks for: all options have their default values
abbrev pub daily_ask : Ask
daily_ask = default_ask Calendar (codes "daily" ∷ [])

-- every option of `calendar`, with the text `daily` among them and the text `weekly` after them
abbrev pub options_arguments : List (List ℕ)
options_arguments =
    codes "calendar" ∷ codes "--iterations=3" ∷ codes "--base-time" ∷ codes "now" ∷ codes "daily" ∷ codes "--now" ∷ codes "@5"
    ∷ codes "--zones" ∷ codes "Here=here.tz" ∷ codes "--local" ∷ codes "Here" ∷ codes "weekly" ∷ []

-- what `options_arguments` ask for: both texts, and a value for every option
abbrev pub options_ask : Ask
options_ask = record (default_ask Calendar (codes "daily" ∷ codes "weekly" ∷ [])) {
  iterations = 3;
  base = Some (codes "now");
  now = Some (pos 5);
  local = of_name (codes "Here");
  zones = record { name = codes "Here"; path = codes "here.tz" } ∷ [];
}

-- `--iterations=0`, which isn't a valid number of elapses
abbrev pub none_arguments : List (List ℕ)
none_arguments = codes "calendar" ∷ codes "--iterations=0" ∷ codes "daily" ∷ []

abbrev pub help_arguments : List (List ℕ)
help_arguments = codes "--help" ∷ []

-- `daily` where a verb is expected
abbrev pub stray_arguments : List (List ℕ)
stray_arguments = codes "daily" ∷ []
