use Rattle.std.proofs.Common.{◌≡◌, ◌∙◌, Some, ap, cond, false, rules, string_bytes}
use Rattle.std.specs.Prelude.{is_some}
use Rattle.std.specs.BTreeMap.{get_by_text}
use Rattle.std.specs.Str.{bytes_eq}
use Rattle.std.proofs.lemmas.Map.Text.{btree_map_updates_text}
use Rattle.cal_unit_index.specs.rules.Destinations.{shown_destination}
use Rattle.cal_unit_index.proofs.IndexLemmas.{entered_new}
use Rattle.cal_unit_index.proofs.read_folder.enter.Goals as goal

pub returns-in_ok-insert : goal.returns-in_ok-insert
returns-in_ok-insert c other =
    let old = get_by_text c.args.destinations.now in
    let new = get_by_text c.insert.new.self in
    let absent : is_some (old c.args.stem.now) ≡ false = search rules in
    let now : new other ≡ cond (bytes_eq (string_bytes c.in_ok-from_str.field-0) other) (Some c.args.destination) (old other) =
    btree_map_updates_text (string_bytes c.in_ok-from_str.field-0) c.args.destinations.now c.insert.new.self (Some c.args.destination) c.in_ok-insert.ensures.updates other in
    entered_new shown_destination old new c.args.stem.now other c.args.destination absent
    (now ∙ ap (λ stem. cond (bytes_eq stem other) (Some c.args.destination) (old other)) c.in_ok-from_str.ensures.ok)
