-- Lemmas on the errors that say why the files of a timer can't be loaded.
use Rattle.std.proofs.Common.{◌≡◌, ◌+◌, ◌≤◌, ◌^◌, ℕ, List, [], ◌∷◌, ◌++◌, Some, arith, take, drop, length, refl, subst, sym}
use Rattle.std.proofs.lemmas.List.{take-append-drop}
use Rattle.std.proofs.lemmas.List.Elements.{Contains-append_right}
use Rattle.std.specs.List.{Contains}
use Rattle.std.specs.Option.{option_to_list}
use Rattle.std.specs.Prelude.{option_map}
use Rattle.cal_machine.specs.rules.Machine.{Machine}
use Rattle.cal_unit_index.specs.declared.fault.Reason as reasons
use Rattle.cal_unit_index.specs.rules.Files.{FileRead, UnitText, drop_in_bytes}
use Rattle.cal_unit_index.specs.rules.Files.FileRead.{Mask, Unusable, Text}
use Rattle.cal_zone_files.specs.declared.fault.ZonesFault.{ZonesFault}
use Rattle.cal_zone_files.specs.declared.fault.ZonesFault.TheVariants as zone_faults
use Rattle.cal_zone_files.specs.rules.ZoneFiles.{IsFirstError, IsLoadError, IsReasonOn}
use Rattle.cal_load.specs.declared.readable.BrokenLine.{BrokenLine}
use Rattle.cal_load.specs.declared.fault.TargetLoadFault.{TargetLoadFault}
use Rattle.cal_load.specs.declared.fault.TargetLoadFault as faults
use Rattle.cal_load.specs.declared.target_fault.TargetReason.{TargetReason}
use Rattle.cal_load.specs.declared.target_fault.TargetReason.TheVariants.{NotFound, Template, TooManyAliases, Path, Broken, NothingToDo, Expression, CrontabEntry, ExpressionZone}
use Rattle.cal_load.specs.rules.AllUnits.{IsBrokenFault, IsPathFault}
use Rattle.cal_load.specs.rules.Loaded.{broken_own}
use Rattle.cal_load.specs.rules.Position.{total_lines}
use Rattle.cal_load.specs.rules.TextFaults.{IsReadFault, IsReadReason, IsTextFault, IsZonesError}

-- ## Texts

-- if systemd stops reading the unit's own file at a line, the error about this line says why the files can't be read
-- (`IsReadFault`)
pub broken_read : (own : UnitText) (drop_ins : List UnitText) (line : BrokenLine) (fault : TargetLoadFault) → broken_own (own ∷ drop_ins) ≡ Some line
    → IsBrokenFault own.path line fault → IsReadFault (own ∷ drop_ins) fault
broken_read own drop_ins line (faults.TheVariants.Target reason) is h =
    subst (IsReadReason (own ∷ drop_ins)) (sym h.2) (sym h.1, is)
broken_read own drop_ins line faults.TheVariants.NoMemory is h = tt

pub too_large_read : (file : UnitText) (fault : TargetLoadFault) → IsPathFault file.path reasons.TheVariants.TooLarge fault
    → (before after : List UnitText) → 2 ^ 32 ≤ total_lines before + 1 + length file.bytes → IsReadFault (before ++ file ∷ after) fault
too_large_read file (faults.TheVariants.Target reason) h before after large =
    subst (IsReadReason (before ++ file ∷ after)) (sym h.2)
    (record { before = before; file = file; after = after; divided = refl; has_path = sym h.1; is_large = large }, refl)
too_large_read file faults.TheVariants.NoMemory h before after large = tt

read_reason : (machine : Machine) (name : List ℕ) (files : List UnitText) (reason : TargetReason) → IsReadReason files reason → IsTextFault machine name files (faults.TheVariants.Target reason)
read_reason machine name files NotFound h = h
read_reason machine name files Template h = h
read_reason machine name files TooManyAliases h = h
read_reason machine name files (Path place why) h = h
read_reason machine name files (Broken place line) h = h
read_reason machine name files (NothingToDo own read) h = absurd h
read_reason machine name files (Expression fault) h = h
read_reason machine name files (CrontabEntry fault) h = h
read_reason machine name files (ExpressionZone zone reason) h = absurd h

-- an error that says why files can't be read also says why they don't make a timer
pub read_text : (machine : Machine) (name : List ℕ) (files : List UnitText) (fault : TargetLoadFault) → IsReadFault files fault → IsTextFault machine name files fault
read_text machine name files (faults.TheVariants.Target reason) h = read_reason machine name files reason h
read_text machine name files faults.TheVariants.NoMemory h = tt

-- ## Zones

next_contained : (names : List (List ℕ)) (i : ℕ) (name : List ℕ) (after : List (List ℕ)) → drop i names ≡ name ∷ after → Contains names name
next_contained names i name after e =
    subst (λ all. Contains all name) (take-append-drop i names)
    (Contains-append_right (take i names) (drop i names) name (rw e (0, omega arith, refl)))

error_named : (machine : Machine) (names : List (List ℕ)) (name : List ℕ) (found : ZonesFault) → Contains names name → IsLoadError machine name found
    → IsZonesError machine names found
error_named machine names name (zone_faults.Unclear origin) has h = h
error_named machine names name (zone_faults.Unread origin) has h = h
error_named machine names name (zone_faults.OfZone zone reason) has h =
    (subst (Contains names) (sym h.0) has, subst (λ name. IsReasonOn machine name reason) (sym h.0) h.1)
error_named machine names name zone_faults.NoMemory has h = tt

-- the first error in loading zones with these names is an error about one of the names
pub first_named : (machine : Machine) (names : List (List ℕ)) (found : ZonesFault) → IsFirstError machine names found → IsZonesError machine names found
first_named machine names found h =
    error_named machine names h.name found (next_contained names h.index h.name h.after h.is_at) h.is_error

-- ## A unit's own file

-- if a file has been read from a path, then there is a text at this path
pub is_text : (file : UnitText) (path : List ℕ) (read : FileRead)
    → file ∷ [] ≡ option_to_list (option_map (λ bytes. record { path = path; bytes = bytes }) (drop_in_bytes read))
    → (bytes : List ℕ) × (read ≡ Text bytes)
is_text file path Mask e = absurd (cc)
is_text file path (Unusable reason) e = absurd (cc)
is_text file path (Text bytes) e = (bytes, refl)
