use Rattle.std.proofs.Common.{◌≡◌, ◌∙◌, ℕ, Err, List, ap, inr, map, refl, rules, string_bytes, subst}
use Rattle.cal_answers.specs.declared.fault.ReadFault.TheVariants.{NoMemory}
use Rattle.std.specs.Prelude.{option_map}
use Rattle.cal_machine.specs.rules.Machine.{Machine}
use Rattle.cal_unit_index.specs.rules.Index.{IsIndexOf}
use Rattle.cal_answers.specs.rules.BootTime.{boot_time_for}
use Rattle.cal_answers.specs.rules.Found.{AreAll, AreLoadedOn, IsIndexFor, asks_all, needs_units}
use Rattle.cal_answers.specs.rules.Trigger.{due_on}
use Rattle.cal_answers.proofs.FoundLemmas.{known_on, loaded_at, only_memory}
use Rattle.cal_answers.proofs.reading.read_known.Goals as goal

pub returns-clause-known : goal.returns-clause-known
returns-clause-known g c = λ machine shows.
    let command = c.args.command.now in
    let loaded = c.in_ok-unguarded.ensures.grows machine shows in
    let indexed = c.in_ok-loaded.ensures.grows machine loaded in
    let ranged = c.in_ok-index.ensures.grows machine indexed in
    let started = c.in_ok-range.ensures.grows machine ranged in
    let timed = c.in_ok-boot.ensures.grows machine started in
    let searched = c.in_ok-timer.ensures.grows machine timed in
    let found = c.in_ok-search_path.ensures.grows machine searched in
    let about : option_map (λ name. name.now) c.as_deref-about.result ≡ due_on machine command.question = search rules in
    let Knows : Machine → List (List ℕ) → Type 0 = λ other search_path. g.T.Tree.shows c.load_by_verb.new.tree other × IsIndexOf other search_path c.in_ok-index.index in
    let located = c.in_ok-shown.ensures.grows machine found in
    let rooted = c.in_ok-local.ensures.grows machine located in
    known_on machine command c.args.clock _ (map string_bytes c.in_ok-search_path.search_path.items) (needs_units command.question (due_on machine command.question))
    (c.in_ok-now.ensures.present machine (c.in_ok-check_root.ensures.grows machine rooted))
    (c.in_ok-timer.ensures.known machine timed)
    (subst (λ about. c.in_ok-boot.boot ≡ boot_time_for machine command.options.now about) about (c.in_ok-boot.ensures.known machine started))
    refl
    (c.in_ok-local.ensures.zone machine located)
    (c.in_ok-shown.ensures.zone machine found)
    (c.in_ok-range.ensures.zones machine ranged)
    (c.in_ok-search_path.ensures.known machine searched)
    (subst (λ search_path. IsIndexFor machine (map string_bytes search_path) c.in_ok-index.index) c.as_slice.ensures.value (c.in_ok-index.ensures.known machine indexed))
    (λ needed. subst (λ search_path. IsIndexOf machine (map string_bytes search_path) c.in_ok-index.index) c.as_slice.ensures.value
    (c.in_ok-index.ensures.whole (ap (needs_units command.question) about ∙ needed) machine indexed))
    c.in_ok-loaded.ensures.question
    (λ folders is. subst (λ about. AreLoadedOn machine folders about c.in_ok-loaded.loaded) about (c.in_ok-loaded.ensures.known machine folders loaded is))
    (λ folders is. loaded_at Knows machine folders (asks_all command.question) (due_on machine command.question) c.in_ok-loaded.loaded (loaded, is)
    (subst (λ about. AreAll Knows (asks_all command.question) about c.in_ok-loaded.loaded) about c.in_ok-loaded.ensures.whole))
    (λ folders is. c.in_ok-unguarded.ensures.known machine folders shows is)

pub returns-in_err-search_path-clause-fault : goal.returns-in_err-search_path-clause-fault
returns-in_err-search_path-clause-fault g c =
    let same : c.from_residual-in_err-search_path.result ≡ Err c.in_err-search_path.field-0.0 = search rules in
    rw same (λ other machine shows. inr (inr (inr (c.in_err-search_path.ensures.fault other machine shows))))

pub returns-in_err-range-clause-fault : goal.returns-in_err-range-clause-fault
returns-in_err-range-clause-fault g c =
    let same : c.from_residual-in_err-range.result ≡ Err NoMemory = search rules in
    rw same (λ other. absurd (other refl))

pub returns-in_err-unguarded-clause-fault : goal.returns-in_err-unguarded-clause-fault
returns-in_err-unguarded-clause-fault g c =
    let same = only_memory c.from_residual-in_err-unguarded.result c.from_residual-in_err-unguarded.ensures.1 in
    rw same (λ other. absurd (other refl))

pub returns-in_err-boot-clause-fault : goal.returns-in_err-boot-clause-fault
returns-in_err-boot-clause-fault g c =
    let same = only_memory c.from_residual-in_err-boot.result c.from_residual-in_err-boot.ensures.1 in
    rw same (λ other. absurd (other refl))
