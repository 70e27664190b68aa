use Rattle.cal_report.proofs.AgainLemmas.{base_at}
use Rattle.cal_report.proofs.BaseLemmas.{base_found, base_is}
use Rattle.cal_report.proofs.HeadlineAccepted.{fine_file_is_accepted, fine_texts_are_accepted}
use Rattle.cal_report.proofs.HeadlineEach.{each_is_answered, each_is_written}
use Rattle.cal_report.proofs.HeadlineElapses.{elapses_are_instants, fold_has_its_first, gap_has_no_place, goes_on, in_parts, is_alone, is_shown}
use Rattle.cal_report.proofs.HeadlineLemmas.{calendar_is_written, calendar_report_is, one_elapses, one_meaning, one_report, one_text, timer_is_written, timer_report_is}
use Rattle.cal_report.specs.rules.Headline.{started_at}
use Rattle.cal_report.proofs.laws.headline.Goals as goal

pub returns-clause-calendar : goal.returns-clause-calendar
returns-clause-calendar c = λ asked read base es verb is_base. calendar_report_is asked read base es verb (base_is asked base is_base)

pub returns-clause-each : goal.returns-clause-each
returns-clause-each c = λ asked read base verb is_base.
    each_is_answered asked read base verb (base_is asked base is_base)

pub returns-clause-timer : goal.returns-clause-timer
returns-clause-timer c = λ asked bytes base s verb is_base. timer_report_is asked bytes base s verb (base_is asked base is_base)

pub returns-clause-written : goal.returns-clause-written
returns-clause-written c = λ asked base es old new failed status out_old out_new err_old err_new verb is_base.
    calendar_is_written asked base es old new failed status out_old out_new err_old err_new verb (base_is asked base is_base)

pub returns-clause-written_each : goal.returns-clause-written_each
returns-clause-written_each c = λ asked base old new failed status out_old out_new err_old err_new verb is_base.
    each_is_written asked base old new failed status out_old out_new err_old err_new verb (base_is asked base is_base)

pub returns-clause-written_file : goal.returns-clause-written_file
returns-clause-written_file c = λ asked base bytes s old new failed status out_old out_new err_old err_new verb is_base.
    timer_is_written asked base bytes s old new failed status out_old out_new err_old err_new verb (base_is asked base is_base)

pub returns-clause-accepted : goal.returns-clause-accepted
returns-clause-accepted c = λ asked read base verb is_base. fine_texts_are_accepted asked read base verb (base_is asked base is_base)

pub returns-clause-accepted_file : goal.returns-clause-accepted_file
returns-clause-accepted_file c = λ asked bytes base verb is_base.
    fine_file_is_accepted asked bytes base verb (base_is asked base is_base)

pub returns-clause-one_meaning : goal.returns-clause-one_meaning
returns-clause-one_meaning c = one_meaning

pub returns-clause-one_output : goal.returns-clause-one_output
returns-clause-one_output c = one_text

pub returns-clause-one_report : goal.returns-clause-one_report
returns-clause-one_report c = one_report

pub returns-clause-one_list_of_elapses : goal.returns-clause-one_list_of_elapses
returns-clause-one_list_of_elapses c = one_elapses

pub returns-clause-instants : goal.returns-clause-instants
returns-clause-instants c = λ asked base s xs now is_base. elapses_are_instants asked base s xs now (base_is asked base is_base)

pub returns-clause-based : goal.returns-clause-based
returns-clause-based c = λ asked secs is. base_found (started_at asked secs) secs (base_at asked secs is)

pub returns-clause-again : goal.returns-clause-again
returns-clause-again c = goes_on

pub returns-clause-in_parts : goal.returns-clause-in_parts
returns-clause-in_parts c = in_parts

pub returns-clause-shown : goal.returns-clause-shown
returns-clause-shown c = is_shown

pub returns-clause-shown_once : goal.returns-clause-shown_once
returns-clause-shown_once c = is_alone

pub returns-clause-gap : goal.returns-clause-gap
returns-clause-gap c = gap_has_no_place

pub returns-clause-fold : goal.returns-clause-fold
returns-clause-fold c = fold_has_its_first
