use Rattle.std.proofs.Common.{[], arith, map, string_bytes}
use Rattle.cal_unit_index.proofs.IndexLemmas.{next_stem}
use Rattle.cal_unit_index.proofs.read_folder.read_stems.Goals as goal

pub loop-stem-preserved : goal.loop-stem-preserved
loop-stem-preserved g c = (
  λ machine shows.
      next_stem machine (map string_bytes c.args.search_path.now) c.args.folder.now (λ stem. stem.now) c.args.stems.now c.loop-stem.stem-index (record { ref_ptr = (0, 0); now = [] })
      c.args.index.now c.loop-stem.index c.read_stem.new.index (omega arith) (c.loop-stem.invariant.0 machine (c.read_stem.ensures.grows machine shows)) (c.in_ok-read_stem.ensures.known machine shows),
  λ machine shows. c.loop-stem.invariant.1 machine (c.read_stem.ensures.grows machine shows),
)
