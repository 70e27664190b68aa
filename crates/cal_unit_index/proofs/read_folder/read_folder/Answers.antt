use Rattle.std.proofs.Common.{◌≡◌, ◌∙◌, ap, map, string_bytes, subst}
use Rattle.cal_unit_index.specs.declared.index.SearchFolder.{SearchFolder}
use Rattle.cal_unit_index.specs.declared.index.UnitIndex.{UnitIndex}
use Rattle.cal_unit_index.specs.rules.Destinations.{listed, stems_of}
use Rattle.cal_unit_index.specs.rules.Index.{HasStems, shown_folder, searched}
use Rattle.cal_unit_index.proofs.IndexLemmas.{folder_more}
use Rattle.cal_unit_index.proofs.read_folder.read_folder.Goals as goal

pub returns-clause-known : goal.returns-clause-known
returns-clause-known g c machine done shows had =
    let search_path = map string_bytes c.args.search_path.now in
    let folder = c.args.folder.now in
    let listing = c.in_ok-names.ensures.known machine (c.read_names.ensures.grows machine shows) in
    let item : SearchFolder = record { path = c.in_ok-from_str.field-0; names = c.in_ok-names.names } in
    let is : shown_folder item ≡ searched machine folder =
    ap (λ path. record { path = path; names = map string_bytes c.in_ok-names.names.keys }) c.in_ok-from_str.ensures.ok ∙ ap (λ names. record { path = folder; names = names }) listing.0 in
    let mid : UnitIndex = record c.args.index.now { unreadable = c.list_folder.new.unreadable } in
    let added : HasStems machine search_path folder (stems_of (listed machine folder)) mid c.read_names.new.index =
    subst (λ names. HasStems machine search_path folder (stems_of names) mid c.read_names.new.index) listing.0 (c.in_ok-read_names.ensures.known machine shows) in
    folder_more machine search_path folder done c.args.index.now c.read_names.new.index c.list_folder.new.unreadable c.push.new.self item listing.1 is added c.in_ok-push.ensures.items had
