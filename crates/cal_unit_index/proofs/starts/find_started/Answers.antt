use Rattle.std.proofs.Common.{◌≡◌, ◌∙◌, ap, map}
use Rattle.std.proofs.lemmas.Result.{IfOk-weaker}
use Rattle.cal_unit_index.specs.rules.Index.{searched, shown_folder}
use Rattle.cal_unit_index.proofs.SearchFolderLemmas.{listings_are, paths_are}
use Rattle.cal_unit_index.proofs.starts.find_started.Goals as goal

pub returns-clause-known : goal.returns-clause-known
returns-clause-known g c = IfOk-weaker c.find_below.result _ _ (λ started known machine search_path shows is.
    let same : map shown_folder c.folders.result.now ≡ map (searched machine) search_path = ap (map shown_folder) c.folders.ensures ∙ is.folders in
    rw (paths_are machine search_path c.folders.result.now same) at (known machine shows (listings_are machine search_path c.folders.result.now same))) c.find_below.ensures.known

pub returns-clause-unreadable : goal.returns-clause-unreadable
returns-clause-unreadable g c = IfOk-weaker c.find_below.result _ _ (λ started known machine search_path shows is.
    let same : map shown_folder c.folders.result.now ≡ map (searched machine) search_path = ap (map shown_folder) c.folders.ensures ∙ is.folders in
    rw (paths_are machine search_path c.folders.result.now same) at (known machine shows (listings_are machine search_path c.folders.result.now same))) c.find_below.ensures.unreadable
