use Rattle.std.proofs.Common.{◌∙◌, ◌∷◌, ◌++◌, [], ap}
use Rattle.cal_load.proofs.expressions.only_fault.Goals as goal

pub returns : goal.returns
returns c =
    let pushed = c.in_ok-push_fault.ensures.pushed in
    record {
      timers = c.new-loaded.ensures.timers;
      masked = c.new-loaded.ensures.masked;
      fault = pushed.0;
      only = pushed.1 ∙ ap (λ all. all ++ pushed.0 ∷ []) c.new-loaded.ensures.faults;
      named = pushed.2;
      is_error = pushed.3;
    }
