use Rattle.std.proofs.Common.{codes, refl}
use Rattle.std.proofs.lemmas.Result.{on_ok_weaker}
use Rattle.cal_crontabs.specs.rules.Document.{entry_members}
use Rattle.cal_crontabs.specs.rules.Entries.{entry_seen}
use Rattle.cal_timers_report.proofs.JsonLemmas.{object_put}
use Rattle.cal_crontabs.proofs.DocumentLemmas.{texts_put}
use Rattle.cal_crontabs.proofs.document.put_entry.Goals as goal

pub returns : goal.returns
returns c =
    let puts = object_put (entry_members (entry_seen c.args.entry.now)) _ _ _ _ c.in_ok-token.ensures.ok
    (_, c.in_ok-put_optional.ensures, (_, c.in_ok-put_number.ensures, (_, c.in_ok-put_text.ensures, (_, c.in_ok-put_optional-2.ensures, (_, c.in_ok-put_text-2.ensures, (_, c.in_ok-put_optional-3.ensures, (_, texts_put c.put_optional-3.new.out (codes "settings") _ _ _ c.as_slice.ensures.value c.in_ok-put_texts.ensures, (_, texts_put c.put_texts.new.out (codes "notes") _ _ _ c.as_slice-2.ensures.value c.in_ok-put_texts-2.ensures, refl)))))))) in
    on_ok_weaker c.token-2.result puts c.token-2.ensures.ok
