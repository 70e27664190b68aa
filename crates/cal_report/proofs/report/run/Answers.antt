use Rattle.std.proofs.Common.{ap, refl, sym, ◌∙◌}
use Rattle.std.proofs.lemmas.Bool.{false≢true}
use Rattle.cal_request.specs.rules.Verb.{is_timer, seeks_elapses}
use Rattle.cal_report.proofs.BaseLemmas.{no_base}
use Rattle.cal_report.proofs.ReportLemmas.{file_reported, is_cut, sought_by, texts_reported, timer_by}
use Rattle.cal_report.proofs.report.run.Goals as goal

pub returns-in-Texts : goal.returns-in-Texts
returns-in-Texts g c =
    let kind = rw c.in-Texts.is at c.kind.ensures in
    record {
      reported = texts_reported _ _ _ _ _ _ _ _ _ _ kind c.requires.input c.run_texts.ensures.status c.run_texts.ensures.out c.run_texts.ensures.err;
      out_failed = c.run_texts.ensures.out_failed;
      err_failed = c.run_texts.ensures.err_failed;
      memory = λ plain refused.
          let calendar = rw (c.run_texts.ensures.memory refused) at kind in
          absurd (false≢true (sym plain ∙ sought_by _ _ _ calendar));
      cut = λ refused.
          let cut = c.run_texts.ensures.cut refused in
          is_cut _ cut.0 _ _ _ _ _ cut.1 kind cut.2;
      input = λ _. refl;
      unread = λ _. refl;
      sure = λ _. c.requires.input;
    }

pub returns-in-Timer : goal.returns-in-Timer
returns-in-Timer g c =
    let kind = rw c.in-Timer.is at c.kind.ensures in
    let ran = c.run_timer.ensures.reported in
    record {
      reported = file_reported _ _ ran.0 _ _ _ _ _ _ _ _ kind ran.1 ran.2 ran.3;
      out_failed = c.run_timer.ensures.out_failed;
      err_failed = c.run_timer.ensures.err_failed;
      memory = λ plain refused. absurd (false≢true (sym plain ∙ ap seeks_elapses (timer_by _ _ _ kind)));
      cut = λ refused.
          let cut = c.run_timer.ensures.cut refused in
          is_cut _ cut.0 _ _ _ _ _ cut.1 kind (cut.2, cut.3);
      input = λ plain. absurd (false≢true (sym plain ∙ ap is_timer (timer_by _ _ _ kind)));
      unread = no_base _ _ c.run_timer.ensures.unread;
      sure = c.run_timer.ensures.sure;
    }
