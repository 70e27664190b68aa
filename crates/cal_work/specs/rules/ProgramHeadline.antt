-- Definitions for the clause `headline` of `work`: what the program prints for the verbs `calendar` and `timer`
-- (systemd-analyze(1), calendar; `timer` is this project's own). To understand the clause, read what the arguments ask
-- for (`IsAskOf`), what an accepted expression and its elapses are (Headline.antt of `cal_report`), and how a cut
-- output can be continued (Resume.antt of `cal_report`). You needn't read `outcome`, `report` or the functions that
-- compute elapses, which they call.
use Rattle.std.specs.Prelude.{◌≡◌, ◌<◌, ◌++◌, ℕ, ℤ, IsTrue, Bool, false, List, [], ◌∷◌, length, codes, Option, None, Some, Result, Ok, Err}
use Rattle.std.specs.FinMap.{empty, insert}
use Rattle.std.specs.Io.KnownBytes.{Appends, Keeps}
use Rattle.jiff.specs.Types.{TimeZone}
use Rattle.cal_bytes.specs.declared.whole.WholeFault.{WholeFault}
use Rattle.cal_zone.specs.rules.AddedZones.{is_taken}
use Rattle.cal_zone.specs.rules.Instant.{IsInstant}
use Rattle.cal_zone.specs.rules.ZoneFile.{IsFileZone}
use Rattle.cal_zone.specs.rules.ZoneTable.{ZoneMap}
use Rattle.cal_command.specs.rules.Ask.{Ask, ZoneItem}
use Rattle.cal_request.specs.rules.Request.{Request}
use Rattle.cal_request.specs.rules.RequestKind.{timer_path}
use Rattle.cal_request.specs.declared.verb.Verb.{Verb}
use Rattle.cal_request.specs.declared.verb.Verb.TheVariants.{Calendar, Timer}
use Rattle.cal_report.specs.rules.BaseTime.{IsBase}
use Rattle.cal_report.specs.rules.Headline.{AreAnswered, Expression, IsAcceptedFile, IsReportOf}
use Rattle.cal_report.specs.rules.ReportLines.{Report}
use Rattle.cal_report.specs.rules.Resume.{AreAcceptedAmong, Begins, Resumes, ResumesAmong}
use Rattle.cal_report.specs.rules.RunReport.{whole_report}
use Rattle.cal_work.specs.rules.Stop.{exit_status}
use Rattle.cal_machine.specs.rules.Told.{ClockShows, Contents, FileHolds, Told}
use Rattle.cal_work.specs.rules.Works.{IsLocal}
use Rattle.cal_work.specs.declared.arguments_to_bytes.Ended.{Ended}

-- ## From the arguments to a request

-- `now` is the present instant: the one that the arguments give, or, if they give none, the time that the clock shows
abbrev pub IsPresent : (Told → Bool) → Option ℤ → ℤ → Type 0
IsPresent gives (Some given) now = (now ≡ given) × IsInstant now
IsPresent gives None now = IsTrue (gives (ClockShows (Some now))) × IsInstant now

-- `table` is `before` with the zone of each file added, in order, under the name that the arguments give it: the zone
-- that `jiff` reads from the bytes that the system gave. No name is added twice.
abbrev pub AreZonesOf : (Told → Bool) → ZoneMap → List ZoneItem → ZoneMap → Type 0
AreZonesOf gives before [] table = table ≡ before
AreZonesOf gives before (item ∷ items) table =
    (bytes : List ℕ) × (tz : TimeZone) × IsTrue (gives (FileHolds item.path (Contents (Ok bytes)))) × IsFileZone item.name bytes tz
    × (is_taken before item.name ≡ false) × AreZonesOf gives (insert before item.name tz) items table

-- `asked` is the request that the arguments and the system give together. Its verb, texts, number of elapses, base time
-- and local zone come from the arguments; its present and its zones from the arguments, the clock and the files.
pub record IsRequestOf (gives : Told → Bool) (ask : Ask) (asked : Request) : Type 0 where
  pub verb : asked.verb ≡ ask.verb
  pub texts : asked.texts ≡ ask.texts
  pub iterations : asked.iterations ≡ ask.iterations
  pub base : asked.base ≡ ask.base
  pub now : IsPresent gives ask.now asked.now
  pub zones : AreZonesOf gives empty ask.zones asked.zones
  pub local : IsLocal ask.local asked.zones asked.local

-- ## Which report answers a request

-- Each accepted text has its report, and each rejected text has its error line (`AreAnswered`). If any text is
-- accepted, every prefix of the output can be continued.
pub record AnswersTexts (asked : Request) (base : ℤ) (report : Report) : Type 0 where
  pub each : AreAnswered asked base asked.texts report
  pub expressions : List Expression
  pub among : AreAcceptedAmong asked asked.texts expressions
  pub cut : (front rest : List ℕ) (read : Result (List ℕ) WholeFault) → report.out ≡ front ++ rest
      → 0 < length expressions → ResumesAmong asked base expressions read front

-- What answers a timer file, given the result of reading it. If it was read and is accepted: its report, every prefix
-- of which can be continued. Otherwise: an error line, which begins with the file's path.
abbrev pub IsAnswerToFile : Request → ℤ → Result (List ℕ) WholeFault → Result (List ℕ) (List ℕ) → Type 0
IsAnswerToFile asked base (Ok bytes) (Ok text) =
    (file : IsAcceptedFile asked bytes) × IsReportOf asked base file.schedule text
    × ((front rest : List ℕ) → text ≡ front ++ rest → Resumes asked base file.schedule (Ok bytes) front)
IsAnswerToFile asked base (Ok bytes) (Err line) = (IsAcceptedFile asked bytes → ⊥) × Begins line (timer_path asked.texts ++ codes ":")
IsAnswerToFile asked base (Err fault) (Ok text) = ⊥
IsAnswerToFile asked base (Err fault) (Err line) = Begins line (timer_path asked.texts ++ codes ":")

-- the report is the answer to the timer file that the request names, and `read` is what reading this file to its end
-- gave
pub record AnswersFile (gives : Told → Bool) (asked : Request) (base : ℤ) (report : Report) : Type 0 where
  pub read : Result (List ℕ) WholeFault
  pub given : IsTrue (gives (FileHolds (timer_path asked.texts) (Contents read)))
  pub answer : Result (List ℕ) (List ℕ)
  pub right : IsAnswerToFile asked base read answer
  pub whole : report ≡ whole_report answer

-- the report answers a request with this verb; only `calendar` and `timer` compute elapses
abbrev pub Answers : Verb → (Told → Bool) → Request → ℤ → Report → Type 0
Answers Calendar gives asked base report = AnswersTexts asked base report
Answers Timer gives asked base report = AnswersFile gives asked base report
Answers _ gives asked base report = ⊥

-- ## What is printed

-- It is known what had been written to an output before the work, and what has reached the output after it; `front` is
-- what reached it in between.
abbrev pub HasReached : Option (List ℕ) → Option (List ℕ) → List ℕ → Type 0
HasReached (Some old) (Some reached) front = reached ≡ old ++ front
HasReached (Some old) None front = ⊥
HasReached None reached front = ⊥

-- The program printed the answer to what the arguments ask for, or a prefix of it. Its status is 0 only if everything
-- was written. If everything was written, both outputs have exactly the bytes of the report, and the status is that of
-- the report. In any case, what reached standard output is a prefix of the report.
pub record PrintsAnswer (gives : Told → Bool) (ask : Ask) (ended : Ended) (out reached err err' : Option (List ℕ)) : Type 0 where
  pub asked : Request
  pub request : IsRequestOf gives ask asked
  pub base : ℤ
  pub sought : IsBase asked base
  pub report : Report
  pub answers : Answers ask.verb gives asked base report
  pub success : ended.status ≡ 0 → ended.written ≡ Ok tt
  pub printed : ended.written ≡ Ok tt
      → Appends out reached report.out × Appends err err' report.err × (ended.status ≡ exit_status report.status)
  pub prefix : (front : List ℕ) → HasReached out reached front → Begins report.out front

-- The program printed nothing on standard output, and its status isn't 0.
pub record PrintsNothing (ended : Ended) (out reached : Option (List ℕ)) : Type 0 where
  pub failed : ended.status ≡ 0 → ⊥
  pub printed : ended.written ≡ Ok tt → Keeps out reached
  pub prefix : (front : List ℕ) → HasReached out reached front → front ≡ []
