-- What `show` and `next` warn of: expressions that systemd may interpret differently or compute wrongly
-- (systemd.time(7), Calendar Events).
use Rattle.std.specs.Prelude.{ℕ, ℤ, List, [], ◌∷◌, ◌++◌, Option, None, Some, codes, if◌then◌else◌}
use Rattle.std.specs.List.{flat_map}
use Rattle.cal_lint.specs.declared.open_steps.OpenStepFlaw.{OpenStepFlaw}
use Rattle.cal_lint.specs.declared.open_steps.OpenStepFlaw.TheVariants.{FailsAtMidnightChanges}
use Rattle.cal_lint.specs.rules.Ambiguities.{looks_like_abbreviation}
use Rattle.cal_lint.specs.rules.Findings.{reported_flaw}
use Rattle.cal_lint.specs.rules.OpenSteps.{flaw_of}
use Rattle.cal_spec.specs.rules.Fields.{Fields}
use Rattle.cal_spec.specs.rules.ZoneSuffix.{name_in}
use Rattle.cal_tasks.specs.rules.Midnight.{stops_at_midnight}
use Rattle.cal_timer.specs.rules.TimerEntries.{TimerLine}
use Rattle.cal_timers_text.specs.rules.FlawWords.{flaw_words}
use Rattle.cal_zone.specs.rules.Setting.{Setting}

-- the warning about the expression `text`, whose zone has the name `name`, which looks like an abbreviation
abbrev pub abbreviation_warning : List ℕ → List ℕ → List ℕ
abbreviation_warning text name =
    ((text ++ codes ": ") ++ name)
    ++ codes " is an abbreviation, which systemd may take for winter time or summer time only; write the name of a zone, such as Europe/Berlin"

-- the warning about the zone of the expression `text`, if there is one
abbrev pub zone_warnings : List ℕ → Option (List ℕ) → List (List ℕ)
zone_warnings text None = []
zone_warnings text (Some name) = if looks_like_abbreviation name then (abbreviation_warning text name ∷ []) else []

-- the warning about the steps of the expression `text`, if there is one
abbrev pub flaw_warnings : List ℕ → Option OpenStepFlaw → List (List ℕ)
flaw_warnings text None = []
flaw_warnings text (Some flaw) = ((text ++ codes ": ") ++ flaw_words flaw) ∷ []

-- the flaw that systemd 252 fails at a midnight that clocks skip, if the expression on this line has it
abbrev pub midnight_flaw : Setting → ℤ → TimerLine Fields → Option OpenStepFlaw
midnight_flaw at now line = if stops_at_midnight at now line then Some FailsAtMidnightChanges else None

abbrev pub warnings_on : Setting → ℤ → TimerLine Fields → List (List ℕ)
warnings_on at now line =
    (zone_warnings line.text (name_in line.expr.zone) ++ flaw_warnings line.text (reported_flaw (flaw_of line.expr)))
    ++ flaw_warnings line.text (midnight_flaw at now line)

-- the warnings about these expressions, in order
abbrev pub warnings_in : Setting → ℤ → List (TimerLine Fields) → List (List ℕ)
warnings_in at now lines = flat_map (warnings_on at now) lines
