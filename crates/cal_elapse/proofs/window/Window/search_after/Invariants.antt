use Rattle.std.proofs.Common.{◌≡◌, ◌-◌, ◌≤ℤ◌, unsigned_abs}
use Rattle.cal_civil.specs.rules.LocalSecond.{seconds_in_all}
use Rattle.cal_elapse.specs.computed.Window.{IsPlacedTo, timed_of}
use Rattle.cal_elapse.proofs.window.Window.search_after.Given as goal

abbrev pub invariant-loop-found : goal.invariant-loop-found
invariant-loop-found l = record {
  placed : IsPlacedTo l.self l.converted;
  on : l.fn.local ≤ℤ l.converted;
  masks : l.self.searcher.masks ≡ l.fn.self.searcher.masks;
  base : l.self.base ≡ l.fn.self.base;
  timed : timed_of l.self ≡ timed_of l.fn.self;
  last : l.self.last ≡ l.fn.self.last;
}

abbrev pub decreases-loop-found : goal.decreases-loop-found
decreases-loop-found l = seconds_in_all - unsigned_abs l.converted
