use Rattle.cal_work.proofs.EndLemmas.{works}
use Rattle.cal_work.proofs.ProgramLemmas.{answers_are_printed}
use Rattle.cal_work.proofs.arguments_to_bytes.work.Goals as goal

pub returns-clause-works : goal.returns-clause-works
returns-clause-works g c =
    works _ _ _ c.answer_arguments-answered.result _ _ _ _ _ _ _ _ _ c.report_end-reported.result.written c.flush_output-written.result c.report_end-reported.result.status _
    c.answer_arguments-answered.ensures.answered c.report_end-reported.ensures.reported c.flush_output-written.ensures.bytes c.flush_output-written.ensures.same c.report_fault.ensures.line c.status_by.ensures

pub returns-clause-headline : goal.returns-clause-headline
returns-clause-headline g c = λ ask asks seeks. answers_are_printed _ _ _ ask _ _ _ _ _ _ (returns-clause-works g c) asks seeks
