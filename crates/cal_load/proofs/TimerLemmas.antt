-- Lemmas on loaded timers: each is a unit or a file of the machine (`IsTimerOn`).
use Rattle.std.proofs.Common.{◌≡◌, ◌∙◌, ℕ, List, [], ◌∷◌, ◌++◌, All, Ok, Err, Result, ap, append-nil, inl, inr, map, string_bytes, subst}
use Rattle.std.proofs.lemmas.List.Elements.{All-push}
use Rattle.std.specs.Prelude.{IfOk}
use Rattle.cal_machine.specs.rules.Machine.{Machine}
use Rattle.cal_unit_index.specs.declared.files.UnitText as texts
use Rattle.cal_unit_index.specs.rules.Files.{UnitText, shown_unit_text, text_at}
use Rattle.cal_unit_index.specs.rules.Units.{Unit, unit_on}
use Rattle.cal_unit_index.specs.rules.Units.Unit.{FoundAt}
use Rattle.cal_load.specs.rules.LoadedTarget.{IsFoundTarget, IsLoadedFile, IsLoadedTarget, IsLoadedUnit, IsMasked, timers_in}
use Rattle.cal_load.specs.rules.Loaded.{IsTimerOn, IsTimerReadFrom, name_of_unit, texts_of_unit}
use Rattle.cal_load.specs.declared.fault.TargetLoadFault.{TargetLoadFault}
use Rattle.cal_load.specs.declared.loaded.LoadedTarget as targets
use Rattle.cal_load.specs.declared.loaded.LoadedTimer.{LoadedTimer}

-- Suppose that `after` is `before`, followed by the timer that was found, if any. If all timers in `before` are on the
-- machine, and so is the timer that was found, then all timers in `after` are on the machine.
pub timers_more : (machine : Machine) (search_path : List (List ℕ)) (found : Result targets.LoadedTarget TargetLoadFault) (before after : List LoadedTimer)
    → IfOk found (IsLoadedTarget machine search_path) → after ≡ before ++ timers_in found
    → All (IsTimerOn machine search_path) before → All (IsTimerOn machine search_path) after
timers_more machine search_path (Ok (targets.TheVariants.Timer timer)) before after h e held =
    rw e (All-push (IsTimerOn machine search_path) before timer held h)
timers_more machine search_path (Ok targets.TheVariants.Masked) before after h e held = rw (e, append-nil before) held
timers_more machine search_path (Err fault) before after h e held = rw (e, append-nil before) held

-- if what was loaded is a unit of the machine (`IsLoadedUnit`), then `IsLoadedTarget` holds
pub unit_found : (machine : Machine) (search_path : List (List ℕ)) (asked : List ℕ) (found : targets.LoadedTarget) → IsLoadedUnit machine search_path asked found → IsLoadedTarget machine search_path found
unit_found machine search_path asked (targets.TheVariants.Timer timer) h = inl (asked, h)
unit_found machine search_path asked targets.TheVariants.Masked h = tt

-- if what was loaded is a file of the machine (`IsLoadedFile`), then `IsLoadedTarget` holds
pub file_found : (machine : Machine) (search_path : List (List ℕ)) (found : targets.LoadedTarget) → IsLoadedFile machine found → IsLoadedTarget machine search_path found
file_found machine search_path (targets.TheVariants.Timer timer) h = inr (inl h)
file_found machine search_path targets.TheVariants.Masked h = tt

-- if what was loaded is a unit of a folder, then `IsLoadedTarget` holds
pub folder_unit_found : (machine : Machine) (search_path : List (List ℕ)) (folder asked : List ℕ) (found : targets.LoadedTarget)
    → IsLoadedUnit machine (folder ∷ []) asked found → IsLoadedTarget machine search_path found
folder_unit_found machine search_path folder asked (targets.TheVariants.Timer timer) h = inr (inr (folder, asked, h))
folder_unit_found machine search_path folder asked targets.TheVariants.Masked h = tt

-- if a timer was loaded from the file of a unit (`IsFoundTarget`), then `IsLoadedUnit` holds for this unit
pub found_is_unit : (machine : Machine) (search_path : List (List ℕ)) (asked file own_file own : List ℕ) (found : targets.LoadedTarget)
    → FoundAt file own_file own ≡ unit_on machine search_path asked → IsFoundTarget machine search_path file own_file own asked found
    → IsLoadedUnit machine search_path asked found
found_is_unit machine search_path asked file own_file own (targets.TheVariants.Timer timer) is h =
    let P : Unit → Type 0 = λ unit. (string_bytes timer.name ≡ name_of_unit unit) × IsTimerReadFrom machine (texts_of_unit machine search_path asked unit) timer in
    subst P is h
found_is_unit machine search_path asked file own_file own targets.TheVariants.Masked is h = subst (IsMasked machine) is h

-- if `all` has a unit's own file, and then its drop-ins, it has the files of the unit in order
pub own_before_drop_ins : (machine : Machine) (file : List ℕ) (own : texts.UnitText) (more all : List texts.UnitText) (dropped : List UnitText)
    → shown_unit_text own ∷ [] ≡ text_at machine file → map shown_unit_text more ≡ dropped → all ≡ own ∷ more
    → map shown_unit_text all ≡ text_at machine file ++ dropped
own_before_drop_ins machine file own more all dropped is same from =
    ap (map shown_unit_text) from ∙ ap (λ rest. shown_unit_text own ∷ rest) same ∙ ap (λ first. first ++ dropped) is
