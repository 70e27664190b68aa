use Rattle.std.proofs.Common.{sym, append-nil, map}
use Rattle.cal_unit_index.proofs.FolderLemmas.{prefixes_none, prefixes_step}
use Rattle.cal_unit_index.proofs.folders.push_prefixes.Goals as goal

pub loop-index-init : goal.loop-index-init
loop-index-init c = rw prefixes_none (sym (append-nil (map (λ stem. stem.now) c.args.stems.now.items)))

pub loop-index-preserved : goal.loop-index-preserved
loop-index-preserved c =
    prefixes_step (map (λ stem. stem.now) c.args.stems.now.items) (map (λ stem. stem.now) c.loop-index.stems.items) (map (λ stem. stem.now) c.push_prefix.new.stems.items)
    c.args.base.now c.loop-index.index c.loop-index.invariant c.in_ok-push_prefix.ensures
