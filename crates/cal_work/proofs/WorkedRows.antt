-- A system without files meets the conditions of the law `fixed_systems_decide`, and the arguments `calendar daily` meet
-- the conditions of the clause `headline` of `work`. A law is the contract of a function that does nothing.
use Rattle.std.proofs.Common.{◌≡◌, ◌⊎◌, inl, inr, refl, sym, ap, subst, ◌∙◌, Bool, true, false, List, [], ◌∷◌, Option, None, Some, Result, Ok, Err, codes, pos, ℕ, ℤ, map}
use Rattle.std.specs.Io.KnownBytes.{Appends}
use Rattle.std.specs.Prelude.{IsTrue, negsuc, suc, zero}
use Rattle.std.proofs.KnownBytes.{Appends-kept}
use Rattle.std.proofs.lemmas.Bool.{false≢true}
use Rattle.std.specs.FinMap.{empty}
use Rattle.jiff.specs.Types.{UTC}
use Rattle.cal_zone.specs.rules.Zone.{utc, zone_of}
use Rattle.cal_civil.specs.rules.Weekday as weekday
use Rattle.cal_civil.specs.rules.ZoneName.{is_zone_name}
use Rattle.cal_spec.specs.rules.Fields.{Fields}
use Rattle.cal_spec.specs.rules.NormalForm.{part_cmp}
use Rattle.cal_spec.specs.rules.Shorthand.{shorthand_named}
use Rattle.cal_spec.specs.rules.WeekdayNames.{day_named, days_of}
use Rattle.cal_spec.specs.computed.Components.{part_due, parts_listed, component_of}
use Rattle.cal_spec.specs.computed.DateAndTime.{date_texts, time_texts, date_fields, time_fields, date_in_word, time_in_word}
use Rattle.cal_spec.specs.computed.Grammar.{fields_in, fields_at}
use Rattle.cal_spec.specs.computed.Parts.{with_step, after_end, after_start, part_of, fault_of}
use Rattle.cal_spec.specs.computed.WeekdayLists.{listed_days, weekdays_of}
use Rattle.cal_spec.specs.computed.Words.{roles_of}
use Rattle.cal_spec.specs.computed.Expr.{expr_in}
use Rattle.cal_spec.specs.computed.NormalParts.{normal_fields, normal_parts, normal_second, reduced}
use Rattle.cal_spec.proofs.ExprRule.{read_is_spelled}
use Rattle.cal_bytes.specs.rules.Separators.{words}
use Rattle.cal_report.specs.rules.Headline.{Expression, IsAccepted, IsFine}
use Rattle.cal_report.specs.rules.ReportLines.{Report}
use Rattle.cal_report.specs.rules.RunReport.{base_in, report}
use Rattle.cal_report.proofs.HeadlineLemmas.{calendar_report_is}
use Rattle.cal_request.specs.rules.Request.{Request}
use Rattle.cal_request.specs.declared.request.RunFault.{RunFault}
use Rattle.cal_request.specs.declared.request.Status.{Status}
use Rattle.cal_request.specs.declared.request.Status.TheVariants.{Fine, Refused}
use Rattle.cal_request.specs.declared.verb.Verb.TheVariants.{Calendar}
use Rattle.cal_command.proofs.WorkedRows.{daily_asked, daily_taken}
use Rattle.cal_command.specs.rules.WorkedArguments.{daily_arguments, daily_ask}
use Rattle.cal_machine.specs.rules.Told.{ClockShows, Contents, FileFound, FileHolds, Unopened}
use Rattle.cal_work.specs.declared.arguments_to_bytes.Ended.{Ended}
use Rattle.cal_work.specs.rules.Outcome.{World, asked_at, ended_status, err_text, instant_in, local_by, out_text, outcome, outcome_of, present_by, run_by, table_by}
use Rattle.cal_work.specs.rules.Stop.{Stop, exit_status, memory_stop}
use Rattle.cal_work.specs.rules.WorkLaw.{IsFixed, IsOrMemoryStop, bare_gives, bare_files, daily_world, fine_end, fixed_outcome, fixed_world, fixed_zones}
use Rattle.cal_work.specs.rules.Works.{FitsArguments, LeavesFileUnread, Works, WritesErr}
use Rattle.cal_work.proofs.LawLemmas.{fixed_decides}

bare_file : (path : List ℕ) (found : FileFound) → IsTrue (bare_gives (FileHolds path found)) → found ≡ Unopened
unfolding bare_gives
bare_file path Unopened h = refl
bare_file path (Contents read) h = absurd (false≢true h)

bare_time : (shown : Option ℤ) → IsTrue (bare_gives (ClockShows shown)) → shown ≡ Some (pos 0)
unfolding bare_gives
bare_time None h = absurd (false≢true h)
bare_time (Some (pos zero)) h = refl
bare_time (Some (pos (suc n))) h = absurd (false≢true h)
bare_time (Some (negsuc n)) h = absurd (false≢true h)

pub bare_fixed : IsFixed bare_gives bare_files (Some (pos 0))
bare_fixed = record { files = bare_file; time = bare_time }

pub bare_fits : FitsArguments bare_gives daily_arguments daily_world
unfolding bare_gives instant_in local_by present_by table_by
bare_fits = record { parsed = daily_asked; fits = record { zones = tt; after = (refl, refl); file = tt } }

daily_unread : (is_unread : List ℕ → Bool) → LeavesFileUnread is_unread daily_ask daily_world
unfolding instant_in local_by present_by table_by
daily_unread is_unread = tt

-- ## A run to which the clause `headline` applies

-- the request that `calendar daily` makes of a system without files
daily_request : Request
daily_request = asked_at daily_ask empty utc (pos 0)

-- the fields of `daily`, which is a shorthand for `*-*-* 00:00:00`
daily_fields : Fields
daily_fields = record {
  weekdays = true ∷ true ∷ true ∷ true ∷ true ∷ true ∷ true ∷ [];
  year = None;
  month = None;
  day = None;
  hour = Some (record { start = 0; end = None; step = None } ∷ []);
  minute = Some (record { start = 0; end = None; step = None } ∷ []);
  second = Some (record { start = 0; end = None; step = None } ∷ []);
  from_end = false;
  zone = None;
}

daily_read : expr_in (codes "daily") ≡ Ok daily_fields
unfolding daily_fields expr_in fields_in fields_at words roles_of shorthand_named day_named days_of listed_days weekdays_of date_texts time_texts date_fields time_fields date_in_word time_in_word part_due parts_listed component_of with_step after_end after_start part_of fault_of is_zone_name weekday.name_of normal_fields normal_second normal_parts reduced part_cmp
daily_read = refl

daily : Expression
daily = record { text = codes "daily"; fields = daily_fields; tz = UTC }

daily_accepted : IsAccepted daily_request daily
unfolding daily daily_fields daily_request zone_of
daily_accepted = record { spelled = read_is_spelled (codes "daily") daily_fields daily_read; zone = refl }

-- the report of `calendar daily` on this system
pub daily_report : Report
daily_report = report daily_request (Ok [])

daily_based : base_in daily_request ≡ Ok (pos 0)
unfolding daily_request base_in
daily_based = refl

daily_texts : daily_request.texts ≡ map (λ (e : Expression). e.text) (daily ∷ [])
unfolding daily_request daily
daily_texts = refl

daily_verb : daily_request.verb ≡ Calendar
unfolding daily_request
daily_verb = refl

daily_fine : IsFine daily_report
unfolding daily_report
daily_fine = (calendar_report_is daily_request (Ok []) (pos 0) (daily ∷ []) daily_verb daily_based daily_texts (daily_accepted, tt)).1

daily_outcome : outcome daily_world ≡ Ok daily_report
unfolding daily_report daily_request outcome outcome_of table_by local_by present_by instant_in run_by report
daily_outcome = refl

-- the only outcome of `calendar daily` on this system, whatever the world is
daily_known : (world : World) → fixed_outcome bare_files (Some (pos 0)) (Ok daily_ask) world ≡ Ok daily_report
unfolding daily_report daily_request outcome outcome_of table_by local_by present_by instant_in run_by report fixed_world fixed_zones
daily_known world = refl

fine_status : (status : Status) → status ≡ Fine → exit_status status ≡ 0
fine_status Fine is = refl
fine_status Refused is = cc

appended : (text : List ℕ) → text ≡ [] → Appends (Some []) (Some []) text
appended text none = sym none

pub daily_works : (is_unread : List ℕ → Bool) → Works bare_gives is_unread daily_arguments (Some []) (Some daily_report.out) (Some []) (Some []) false fine_end
daily_works is_unread = record {
  world = daily_world;
  fits = bare_fits;
  unread = daily_unread is_unread;
  status = sym (ap (ended_status fine_end.written) daily_outcome ∙ fine_status daily_report.status daily_fine.status);
  out_bytes = ap out_text (sym daily_outcome);
  err_bytes = record {
    before = Some [];
    text_bytes = appended (err_text (outcome daily_world)) (ap err_text daily_outcome ∙ daily_fine.err);
    line = refl;
  };
}

-- if everything was written, the status is 0, or memory ran out, and standard error says so
ends_fine_or_full : (err err' : Option (List ℕ)) (failed : Bool) (status : ℕ) (written : Result Unit RunFault) (end : Result Report Stop) → written ≡ Ok tt
    → IsOrMemoryStop end (Ok daily_report) → status ≡ ended_status written end → WritesErr err err' failed written (err_text end)
    → (status ≡ 0) ⊎ Appends err err' memory_stop.err
ends_fine_or_full err err' failed status (Ok done) end all (inl same) at_end e =
    inl (at_end ∙ ap (ended_status (Ok done)) same ∙ fine_status daily_report.status daily_fine.status)
ends_fine_or_full err err' failed status (Ok done) end all (inr full) at_end e =
    inr (subst (Appends err err') (ap err_text full) (Appends-kept err e.before err' _ e.text_bytes e.line))
ends_fine_or_full err err' failed status (Err fault) end all same at_end e = cc

pub daily_is_printed : (is_unread : List ℕ → Bool) (out reached err err' : Option (List ℕ)) (failed : Bool) (ended : Ended) → Works bare_gives is_unread daily_arguments out reached err err' failed ended
    → ended.written ≡ Ok tt → (ended.status ≡ 0) ⊎ Appends err err' memory_stop.err
daily_is_printed is_unread out reached err err' failed ended w all =
    let answered = fixed_decides bare_gives bare_files (Some (pos 0)) bare_fixed daily_arguments (Ok daily_ask) w.world daily_taken daily_asked.1 w.fits in
    ends_fine_or_full err err' failed ended.status ended.written (outcome w.world) all (subst (IsOrMemoryStop (outcome w.world)) (daily_known w.world) answered) w.status w.err_bytes
