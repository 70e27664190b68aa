use Rattle.std.proofs.Common.{◌≡◌, ◌%◌, arith, unsigned_abs}
use Rattle.cal_civil.proofs.LocalLemmas.{local_arith}
use Rattle.cal_elapse.proofs.MinuteLemmas.{seconds_after}
use Rattle.cal_elapse.proofs.search.searcher.rest_of_minute.Goals as goal

pub returns : goal.returns
returns c =
    let second : c.second_of_minute.result ≡ unsigned_abs c.args.local % 60 = grind (arith, local_arith) in
    rw second (search (seconds_after c.args.masks.now (unsigned_abs c.args.local) c.requires.is_match))
