use Rattle.std.proofs.Common.{◌∙◌, ◌++◌, [], ap, map, refl, string_bytes}
use Rattle.std.specs.List.{flat_map}
use Rattle.cal_unit_index.specs.rules.Index.{shown_fault}
use Rattle.cal_load.specs.declared.files.Reading.{Reading}
use Rattle.cal_load.specs.rules.AllFiles.{unit_paths}
use Rattle.cal_load.specs.rules.AllUnits.{units_on}
use Rattle.cal_load.specs.rules.FileFaults.{lost_listed, lost_path}
use Rattle.cal_load.proofs.FileLemmas.{all_read, read_besides, tried_stored}
use Rattle.cal_load.proofs.files.all_files.Goals as goal

pub returns-clause-whole : goal.returns-clause-whole
returns-clause-whole g c machine search_path shows is =
    let before = c.take_units.ensures.grows machine shows in
    let keys = map string_bytes c.in_ok-stems.field-0.stems.keys in
    let units = c.in_ok-stems.ensures.stems machine search_path before is in
    let besides = map lost_path (map shown_fault c.in_ok-stems.field-0.unreadable.items) in
    let read = c.take_units.new.self in
    let after : Reading = record { seen = read.seen; loaded = record { files = read.loaded.files; faults = c.push_lost.new.faults } } in
    all_read machine _ _ _ _ c.new-reading.result after
    (ap (flat_map (unit_paths machine search_path)) units)
    (ap (λ stems. flat_map (lost_listed machine search_path) stems ++ besides) units
    ∙ ap (λ faults. flat_map (lost_listed machine search_path) (units_on machine search_path c.args.is_all) ++ map lost_path faults) (c.in_ok-stems.ensures.unreadable machine search_path before is))
    (c.new-reading.ensures.tried machine) c.new-reading.ensures.no_faults
    (read_besides machine (flat_map (unit_paths machine search_path) keys) (flat_map (lost_listed machine search_path) keys) besides c.new-reading.result read after refl refl
    (c.in_ok-take_units.ensures.read machine search_path shows is) c.in_ok-push_lost.ensures.lost)

pub returns-clause-known : goal.returns-clause-known
returns-clause-known g c machine shows =
    tried_stored machine c.take_units.new.self (c.in_ok-take_units.ensures.tried machine shows ([], c.new-reading.ensures.tried machine))
