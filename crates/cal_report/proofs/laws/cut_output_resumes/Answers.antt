use Rattle.cal_report.proofs.AgainLemmas.{shows_others_again}
use Rattle.cal_report.proofs.AmongLemmas.{none_among, one_among, some_among}
use Rattle.cal_report.proofs.BaseLemmas.{base_is}
use Rattle.cal_report.proofs.ManyLemmas.{one_place, texts_cut, texts_resume}
use Rattle.cal_report.proofs.ResumeLemmas.{file_cut, file_resumes, text_cut, text_resumes}
use Rattle.cal_report.proofs.laws.cut_output_resumes.Goals as goal

pub returns-clause-calendar : goal.returns-clause-calendar
returns-clause-calendar c = λ asked read base e front rest verb is_base.
    text_resumes asked read base e front rest verb (base_is asked base is_base)

pub returns-clause-timer : goal.returns-clause-timer
returns-clause-timer c = λ asked bytes base s front rest verb is_base.
    file_resumes asked bytes base s front rest verb (base_is asked base is_base)

pub returns-clause-written : goal.returns-clause-written
returns-clause-written c = λ asked base e result old new failed out_old out_new err_old err_new verb is_base.
    text_cut asked base e result old new failed out_old out_new err_old err_new verb (base_is asked base is_base)

pub returns-clause-written_file : goal.returns-clause-written_file
returns-clause-written_file c = λ asked bytes base s result old new failed out_old out_new err_old err_new verb is_base.
    file_cut asked bytes base s result old new failed out_old out_new err_old err_new verb (base_is asked base is_base)

pub returns-clause-again : goal.returns-clause-again
returns-clause-again c = λ asked read base s front now is_base. shows_others_again asked base s read front now (base_is asked base is_base)

pub returns-clause-several : goal.returns-clause-several
returns-clause-several c = λ asked read base es front rest verb is_base among any cut.
    texts_resume asked read base verb (base_is asked base is_base) es front rest among any cut

pub returns-clause-one_place : goal.returns-clause-one_place
returns-clause-one_place c = one_place

pub returns-clause-accepted : goal.returns-clause-accepted
returns-clause-accepted c = some_among

pub returns-clause-one_list_of_expressions : goal.returns-clause-one_list_of_expressions
returns-clause-one_list_of_expressions c = one_among

pub returns-clause-nothing : goal.returns-clause-nothing
returns-clause-nothing c = λ asked read base verb is_base. none_among asked read base verb (base_is asked base is_base)

pub returns-clause-written_several : goal.returns-clause-written_several
returns-clause-written_several c = λ asked base es result old new failed out_old out_new err_old err_new verb is_base.
    texts_cut asked base es result old new failed out_old out_new err_old err_new verb (base_is asked base is_base)
