use Rattle.std.proofs.Common.{not, rules}
use Rattle.std.proofs.lemmas.Fn.{filter_same}
use Rattle.cal_load.specs.rules.Loaded.{is_loaded}
use Rattle.cal_load.proofs.zones.retain_unloaded.Goals as goal

pub returns : goal.returns
returns c = filter_same _ (λ line. not (is_loaded c.args.zones.now line)) _ (λ x b f' k. search rules) _ _ c.retain.ensures.filtered
