-- What the author of a crontab should know about its entries: crontab(5). That these things are worth knowing is this
-- project's own opinion.
use Rattle.std.specs.Prelude.{◌≡◌, ◌*◌, ℕ, zero, suc, ◌||◌, Bool, true, false, codes, if◌then◌else◌, List, [], ◌∷◌, ◌++◌, Option, None, Some, Result, Ok, map}
use Rattle.std.specs.List.{flat_map}
use Rattle.cal_civil.specs.rules.LocalSecond.{seconds_in_all}
use Rattle.cal_cron.specs.declared.cron_fault.CronFault.{CronFault}
use Rattle.cal_cron.specs.rules.CronLine.{IsLine, Schedule}
use Rattle.cal_cron.specs.rules.CronMatch.{CronExprs, cron_matches, exprs_match}
use Rattle.cal_cron.specs.rules.CronMessages.{entry_message}
use Rattle.cal_cron.specs.rules.CrontabLines.{Content, Line, Assigns, Runs, Invalid}
use Rattle.cal_spec.specs.rules.Fields.{Fields}
use Rattle.cal_spec.specs.rules.Match.{matches}
use Rattle.cal_spec.specs.rules.Members.{sets_of}
use Rattle.cal_crontabs.specs.declared.findings.CronFinding.{CronFinding}
use Rattle.cal_crontabs.specs.declared.findings.CronFindingKind.{CronFindingKind}
use Rattle.cal_crontabs.specs.declared.findings.CronFindingKind.TheVariants.{NeverRuns, EitherDay}
use Rattle.cal_crontabs.specs.declared.findings.CronFindingKind.TheVariants as kinds
use Rattle.cal_crontabs.specs.rules.Crontabs.{Crontab}
use Rattle.cal_crontabs.specs.rules.Entries.{lines_of}

-- a finding: the name of the crontab, the number of the line, the column, and what is found
pub record Finding : Type 0 where
  pub name : List ℕ
  pub line : ℕ
  pub column : ℕ
  pub kind : CronFindingKind

abbrev pub finding_seen : CronFinding → Finding
finding_seen finding =
    record { name = finding.name.now; line = finding.line; column = finding.column; kind = finding.kind }

abbrev pub is_error : CronFindingKind → Bool
is_error (kinds.Invalid fault) = true
is_error NeverRuns = false
is_error EitherDay = false

abbrev pub finding_message : CronFindingKind → List ℕ
finding_message (kinds.Invalid fault) = entry_message fault
finding_message NeverRuns = codes "the entry never runs"
finding_message EitherDay =
    codes "the entry runs on days that match the day of the month, and on days that match the weekday"

-- whether one of the numbers below `n` passes
unfoldable pub any_below : (ℕ → Bool) → ℕ → Bool
any_below passes zero = false
any_below passes (suc n) = any_below passes n || passes n

-- whether an expression matches a local second of the years 1970 to 2199
abbrev pub ever_matches : Fields → Bool
ever_matches fields = any_below (matches (sets_of fields)) seconds_in_all

abbrev pub other_ever_matches : Option Fields → Bool
other_ever_matches None = false
other_ever_matches (Some fields) = ever_matches fields

-- whether one of the expressions of an entry matches such a local second
unfoldable pub ever_runs : CronExprs → Bool
ever_runs exprs = any_below (λ local. exprs_match exprs.first exprs.other local) seconds_in_all

abbrev pub never_kinds : CronExprs → List CronFindingKind
never_kinds exprs = if ever_runs exprs then [] else NeverRuns ∷ []

-- An entry has two expressions if neither the day of the month nor the weekday begins with `*`.
abbrev pub either_kinds : Option Fields → List CronFindingKind
either_kinds None = []
either_kinds (Some other) = EitherDay ∷ []

-- the findings about an entry with these expressions; none for `@reboot`
abbrev pub time_kinds : Option CronExprs → List CronFindingKind
time_kinds None = []
time_kinds (Some exprs) = never_kinds exprs ++ either_kinds exprs.other

abbrev pub finding_at : List ℕ → ℕ → ℕ → CronFindingKind → Finding
finding_at name number column kind = record { name = name; line = number; column = column; kind = kind }

-- the findings in a line: its number, the column of its text, and what it says
abbrev pub findings_by : List ℕ → ℕ → ℕ → Content → List Finding
findings_by name number column (Assigns assignment) = []
findings_by name number column (Runs entry) = map (finding_at name number column) (time_kinds entry.time)
findings_by name number column (Invalid fault) = finding_at name number fault.column (kinds.Invalid fault.fault) ∷ []

abbrev pub findings_at : List ℕ → Line → List Finding
findings_at name line = findings_by name line.number line.column line.content

abbrev pub findings_in : List ℕ → List Line → List Finding
findings_in name lines = flat_map (findings_at name) lines

-- `read` reads time fields: an entry is found never to run if and only if cron runs it at no local second
pub record FindsUnused (read : List ℕ → Result CronExprs CronFault) : Type 0 where
  pub never : (text : List ℕ) (exprs : CronExprs) → read text ≡ Ok exprs → ever_runs exprs ≡ false → (schedule : Schedule) → IsLine text schedule → (local : ℕ) → cron_matches schedule local ≡ false
  pub ever : (text : List ℕ) (exprs : CronExprs) → read text ≡ Ok exprs → ever_runs exprs ≡ true → (schedule : Schedule) → IsLine text schedule → (local : ℕ) × (cron_matches schedule local ≡ true)

-- the findings in a crontab, in the order of its lines; `read` reads time fields
unfoldable pub findings_of : (List ℕ → Result CronExprs CronFault) → Crontab → List Finding
findings_of read crontab = findings_in crontab.name (lines_of read crontab.format crontab.text)
