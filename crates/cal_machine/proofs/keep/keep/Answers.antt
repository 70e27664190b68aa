use Rattle.std.proofs.Common.{◌≡◌, None, nat_cmp, string_bytes, subst, sym}
use Rattle.std.proofs.lemmas.Map.Lookups.{exact_bytes}
use Rattle.std.specs.BTreeMap.{get_by_text}
use Rattle.std.specs.Cmp.Lexicographic.{slice_cmp}
use Rattle.cal_machine.specs.rules.Recorded.{Adds}
use Rattle.cal_machine.proofs.KeepLemmas.{adds, changes, extends}
use Rattle.cal_machine.proofs.keep.keep.Goals as goal

pub returns-clause-extends : goal.returns-clause-extends
returns-clause-extends g c =
    extends (get_by_text c.args.recorded.now) (get_by_text c.insert.new.self) (string_bytes c.in_ok-from_str.field-0) c.args.answer
    (changes string_bytes (slice_cmp nat_cmp) exact_bytes c.args.recorded.now c.insert.new.self _ _ c.in_ok-insert.ensures.updates)
    (subst (λ question. get_by_text c.args.recorded.now question ≡ None) (sym c.in_ok-from_str.ensures.ok) c.requires)

pub returns-clause-adds : goal.returns-clause-adds
returns-clause-adds g c =
    subst (λ question. Adds (get_by_text c.args.recorded.now) (get_by_text c.insert.new.self) question c.args.answer) c.in_ok-from_str.ensures.ok
    (adds (get_by_text c.args.recorded.now) (get_by_text c.insert.new.self) (string_bytes c.in_ok-from_str.field-0) c.args.answer
    (changes string_bytes (slice_cmp nat_cmp) exact_bytes c.args.recorded.now c.insert.new.self _ _ c.in_ok-insert.ensures.updates))
