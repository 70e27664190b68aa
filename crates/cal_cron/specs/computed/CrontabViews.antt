-- How contracts see the structs that this crate returns for the lines of a crontab: with the bytes of their texts.
use Rattle.std.specs.Prelude.{Option, None, Some}
use Rattle.std.specs.Option.{option_map}
use Rattle.cal_cron.specs.computed.Translation.{shown_exprs}
use Rattle.cal_cron.specs.rules.CronMatch.{CronExprs}
use Rattle.cal_cron.specs.rules.CrontabLines.{Assignment, Content, Entry, Job, Line, LineFault, Assigns, Runs, Invalid}
use Rattle.cal_cron.specs.declared.crontab.Assignment as declared_assignment
use Rattle.cal_cron.specs.declared.crontab.CrontabEntry.{CrontabEntry}
use Rattle.cal_cron.specs.declared.crontab.CrontabLine.{CrontabLine}
use Rattle.cal_cron.specs.declared.crontab.EntryTime.{EntryTime}
use Rattle.cal_cron.specs.declared.crontab.EntryTime.TheVariants as entry_time
use Rattle.cal_cron.specs.declared.crontab.LineContent.{LineContent}
use Rattle.cal_cron.specs.declared.crontab.LineContent.TheVariants as line_content
use Rattle.cal_cron.specs.declared.crontab.LineFault as declared_fault
use Rattle.cal_cron.specs.declared.line_texts.JobTexts.{JobTexts}

abbrev pub time_shown : EntryTime → Option CronExprs
time_shown (entry_time.Times exprs) = Some (shown_exprs exprs)
time_shown entry_time.Reboot = None

abbrev pub assignment_shown : declared_assignment.Assignment → Assignment
assignment_shown a = record { name = a.name.now; value = a.value.now }

abbrev pub job_shown : JobTexts → Job
job_shown j = record {
  user = option_map (λ user. user.now) j.user;
  command = j.command.now;
  input = option_map (λ input. input.now) j.input;
}

abbrev pub entry_shown : CrontabEntry → Entry
entry_shown e = record {
  time = time_shown e.time;
  user = option_map (λ user. user.now) e.user;
  command = e.command.now;
  input = option_map (λ input. input.now) e.input;
}

abbrev pub fault_shown : declared_fault.LineFault → LineFault
fault_shown f = record { column = f.column; fault = f.fault }

abbrev pub content_shown : LineContent → Content
content_shown (line_content.Assignment a) = Assigns (assignment_shown a)
content_shown (line_content.Entry e) = Runs (entry_shown e)
content_shown (line_content.Invalid f) = Invalid (fault_shown f)

abbrev pub line_shown : CrontabLine → Line
line_shown l = record { number = l.number; column = l.column; text = l.text.now; content = content_shown l.content }
