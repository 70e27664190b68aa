use Rattle.std.proofs.Common.{◌≡◌, ◌∙◌, ap, of_z, subst, to_z, unsigned_abs, w64, ℕ}
use Rattle.cal_civil.proofs.LocalLemmas.{local_arith}
use Rattle.std.proofs.Common.{arith}
use Rattle.cal_bytes.proofs.General.{max_from_zero}
use Rattle.cal_zone.specs.rules.Instant.{IsInstant}
use Rattle.cal_elapse.specs.rules.ExaminedMonths.{IsSearch}
use Rattle.cal_elapse.specs.computed.Masks.{sets_in}
use Rattle.cal_elapse.specs.computed.Window.{start_of, timed_by}
use Rattle.cal_elapse.proofs.MostMonthsLemmas.{search_examined}
use Rattle.cal_elapse.proofs.ReadyLemmas.{begun_ready, timed_by-timed}
use Rattle.cal_elapse.proofs.window.Window.new.Goals.{in-First, in-Batch}
use Rattle.cal_elapse.proofs.window.Window.new.Goals as goal

pub returns-clause-ready : goal.returns-clause-ready
returns-clause-ready c =
    let base : c.args.base.secs ≡ to_z w64 (of_z w64 c.secs-base.result) = grind (arith, local_arith) in
    let begin : unsigned_abs (to_z w64 (of_z w64 c.start_of.result)) ≡ start_of (to_z w64 (of_z w64 c.secs-base.result)) = grind (arith, local_arith) in
    elim c.match-search.branch [
      | in-First w ↦
          rw w.ahead-is
          (begun_ready c.of-searcher.result c.search.new.self c.new-2.result _ c.in_ok-pending.pending w.in-First.found (subst IsInstant base c.args.base.in_range) c.of-searcher.ensures.none
          c.of-searcher.ensures.examined w.in-First.ensures.masks w.in-First.ensures.counted w.in-First.ensures.most
          (subst (λ (from : ℕ). IsSearch (sets_in c.of-searcher.result.masks) from w.in-First.found) begin w.in-First.ensures.found) c.in_ok-pending.ensures)
      | in-Batch w ↦ absurd w.in-Batch.ensures.found
    ]

pub returns-clause-timed : goal.returns-clause-timed
returns-clause-timed c =
    ap (timed_by c.search.new.self.masks) c.new-2.ensures
    ∙ timed_by-timed c.search.new.self.masks c.args.zone c.args.expr.now (ap sets_in c.search.ensures.masks ∙ c.of-searcher.ensures.masks)

pub returns-clause-examined : goal.returns-clause-examined
returns-clause-examined c =
    let begin : unsigned_abs (to_z w64 (of_z w64 c.start_of.result)) ≡ start_of c.args.base.secs = grind (arith, local_arith) in
    elim c.match-search.branch [
      | in-First w ↦
          let most = max_from_zero c.of-searcher.result.most_months w.in-First.found.months _ c.of-searcher.ensures.examined w.in-First.ensures.most in
          rw (most, ← c.of-searcher.ensures.masks, ← begin) (search_examined (sets_in c.of-searcher.result.masks) _ w.in-First.found w.in-First.ensures.found)
      | in-Batch w ↦ absurd w.in-Batch.ensures.found
    ]
