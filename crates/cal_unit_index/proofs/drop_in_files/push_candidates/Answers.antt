use Rattle.std.proofs.Common.{◌∙◌, sym, ap, append-nil, map, string_bytes, ◌++◌}
use Rattle.std.proofs.lemmas.List.{map-append}
use Rattle.cal_unit_index.specs.rules.DropIns.{candidates, shown_drop_in}
use Rattle.cal_unit_index.proofs.DropInLemmas.{candidate_more, candidates_none}
use Rattle.cal_unit_index.proofs.drop_in_files.push_candidates.Goals as goal

pub loop-name-init : goal.loop-name-init
loop-name-init c = sym (append-nil (map shown_drop_in c.args.found.now.items)) ∙ ap (λ last. map shown_drop_in c.args.found.now.items ++ last) (sym (candidates_none c.args.folder.now))

pub loop-name-preserved : goal.loop-name-preserved
loop-name-preserved c =
    candidate_more (map shown_drop_in c.args.found.now.items) (map shown_drop_in c.loop-name.found.items) (map shown_drop_in c.push_candidate.new.found.items) c.args.folder.now
    (map string_bytes c.loop-name.yielded) (string_bytes c.in-Some.name) c.loop-name.invariant c.in_ok-push_candidate.ensures
    ∙ ap (λ names. map shown_drop_in c.args.found.now.items ++ candidates c.args.folder.now names) (sym (map-append string_bytes c.loop-name.yielded _))
