use Rattle.std.proofs.Common.{◌≡◌, ◌-◌}
use Rattle.cal_civil.specs.rules.LocalSecond.{seconds_in_all}
use Rattle.cal_elapse.specs.computed.Window.{IsReady, bound_of, timed_of}
use Rattle.cal_elapse.proofs.window.Window.fill.Given as goal

abbrev pub invariant-loop-ahead : goal.invariant-loop-ahead
invariant-loop-ahead l = record {
  ready : IsReady (record l.self { ahead = l.ahead });
  masks : l.self.searcher.masks ≡ l.fn.self.searcher.masks;
  base : l.self.base ≡ l.fn.self.base;
  timed : timed_of l.self ≡ timed_of l.fn.self;
  last : l.self.last ≡ l.fn.self.last;
}

abbrev pub decreases-loop-ahead : goal.decreases-loop-ahead
decreases-loop-ahead l = seconds_in_all - bound_of l.ahead
