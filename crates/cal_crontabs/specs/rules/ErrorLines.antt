-- The error lines about invalid entries of crontabs.
use Rattle.std.specs.Prelude.{ℕ, List, [], ◌++◌, Result, codes}
use Rattle.std.specs.Fmt.{decimal}
use Rattle.std.specs.List.{flat_map}
use Rattle.cal_cron.specs.declared.cron_fault.CronFault.{CronFault}
use Rattle.cal_cron.specs.rules.CronMatch.{CronExprs}
use Rattle.cal_cron.specs.rules.CronMessages.{entry_message}
use Rattle.cal_cron.specs.rules.CrontabLines.{Content, Line, LineFault, Assigns, Runs, Invalid}
use Rattle.cal_timers_report.specs.rules.PrintableText.{printable_text}
use Rattle.cal_crontabs.specs.rules.Crontabs.{Crontab}
use Rattle.cal_crontabs.specs.rules.Entries.{lines_of}

-- the name of the crontab, the number of the line, the column and the message
abbrev pub error_line : List ℕ → ℕ → LineFault → List ℕ
error_line name number fault =
    printable_text name
    ++ (codes ":" ++ (decimal number ++ (codes ":" ++ (decimal fault.column ++ (codes ": error: " ++ (entry_message fault.fault ++ codes "\n"))))))

abbrev pub error_lines_by : List ℕ → ℕ → Content → List ℕ
error_lines_by name number (Assigns assignment) = []
error_lines_by name number (Runs entry) = []
error_lines_by name number (Invalid fault) = error_line name number fault

-- the error line about a line of a crontab, if its entry isn't valid
abbrev pub error_lines_at : Crontab → Line → List ℕ
error_lines_at crontab line = error_lines_by crontab.name line.number line.content

abbrev pub error_lines_in : Crontab → List Line → List ℕ
error_lines_in crontab lines = flat_map (error_lines_at crontab) lines

-- the error lines about a crontab, in the order of its lines; `read` reads time fields
unfoldable pub error_lines_of : (List ℕ → Result CronExprs CronFault) → Crontab → List ℕ
error_lines_of read crontab = error_lines_in crontab (lines_of read crontab.format crontab.text)
