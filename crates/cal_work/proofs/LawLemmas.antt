-- Lemmas for the law `fixed_systems_decide`: if the answers of a system never change, the program finds exactly these
-- answers, unless memory runs out. A law is the contract of a function that does nothing.
use Rattle.std.proofs.Common.{◌≡◌, ◌⊎◌, inl, inr, ℕ, ℤ, Bool, true, List, [], ◌∷◌, Option, None, Some, Result, Ok, Err, IfOk, IfNone, refl, sym, ap, ◌∙◌}
use Rattle.std.specs.Prelude.{IsTrue}
use Rattle.std.specs.FinMap.{empty}
use Rattle.cal_zone.specs.rules.ZoneTable.{ZoneMap}
use Rattle.cal_command.specs.rules.Ask.{Ask, ZoneItem}
use Rattle.cal_command.specs.rules.CommandFault.{CommandFault}
use Rattle.cal_command.specs.rules.CommandLine.{ask_in, takes_arguments}
use Rattle.cal_work.specs.rules.Outcome.{World, ZoneFound, and_then, loaded, or_load_stop, table_by, local_by, present_by, run_by, run_on, asked_at, outcome, outcome_of}
use Rattle.cal_request.specs.rules.RequestKind.{RequestKind, for_file, for_texts, kind_by}
use Rattle.cal_request.specs.rules.Request.{Request}
use Rattle.cal_work.specs.rules.Stop.{Stop}
use Rattle.cal_machine.specs.rules.Told.{ClockShows, FileFound, Told}
use Rattle.cal_work.specs.rules.FileAnswer.{FileAnswer, Gave}
use Rattle.cal_work.specs.rules.WorkLaw.{IsFixed, IsOrMemoryStop, fixed_file, fixed_outcome, fixed_world, fixed_zones}
use Rattle.cal_work.specs.rules.Works.{SeesZones, SeesFor, Fits, FitsArguments}
use Rattle.cal_zone.specs.declared.zone_files.LoadFault.{LoadFault}
use Rattle.cal_command.proofs.CommandLineLemmas.{taken_arguments}

-- ## The answer about one file

answer_fixed : (gives : Told → Bool) (held : List ℕ → FileFound) (clock : Option ℤ) (path : List ℕ) (answer : FileAnswer) → IsFixed gives held clock → Gave gives path answer
    → (answer ≡ Some (held path)) ⊎ (answer ≡ None)
answer_fixed gives held clock path None all given = inr refl
answer_fixed gives held clock path (Some found) all given = inl (ap (λ f. Some f) (all.files path found given))

-- `IsOrMemoryStop` says that the first result is equal to the second, or is the stop for running out of memory. It
-- holds for two sequences of steps if it holds for their first steps and for the steps after them.
and_then_or : {A B : Type 0} (next other : A → Result B Stop) (r s : Result A Stop) → IsOrMemoryStop r s → ((x : A) → r ≡ Ok x → IsOrMemoryStop (next x) (other x)) → IsOrMemoryStop (and_then next r) (and_then other s)
and_then_or next other (Ok x) s (inl e) h = rw (sym e) (h x refl)
and_then_or next other (Err stop) s (inl e) h = rw (sym e) (inl refl)
and_then_or next other r s (inr e) h = rw e (inr refl)

-- ## Loading the zone files

module _ (gives : Told → Bool) (held : List ℕ → FileFound) (clock : Option ℤ) (all : IsFixed gives held clock) where
  after_load : (items : List ZoneItem) (found : List ZoneFound) (name : List ℕ)
      → ((more : ZoneMap) → SeesZones gives more items found → IsOrMemoryStop (table_by more items found) (table_by more items (fixed_zones held items found)))
      → (r : Result ZoneMap LoadFault) → IfOk r (λ more. SeesZones gives more items found)
      → IsOrMemoryStop (and_then (λ more. table_by more items found) (or_load_stop name r)) (and_then (λ more. table_by more items (fixed_zones held items found)) (or_load_stop name r))
  after_load items found name later (Ok more) h = later more h
  after_load items found name later (Err fault) h = inl refl

  -- if memory ran out while a zone file was read, the outcome is the stop for running out of memory
  zone_unread : {A : Type 0} (next : ZoneMap → Result A Stop) (other : Result A Stop) (table : ZoneMap) (item : ZoneItem) (f : ZoneFound) → f.answer ≡ None
      → IsOrMemoryStop (and_then next (or_load_stop item.name (loaded table item f))) other
  unfolding loaded
  zone_unread next other table item f e = rw e (inr refl)

  zones_fixed : (table : ZoneMap) (items : List ZoneItem) (found : List ZoneFound) → SeesZones gives table items found → IsOrMemoryStop (table_by table items found) (table_by table items (fixed_zones held items found))
  unfolding table_by fixed_zones
  zones_fixed table [] found h = inl refl
  zones_fixed table (item ∷ items) [] h = absurd h
  zones_fixed table (item ∷ items) (f ∷ found) h =
      elim (answer_fixed gives held clock item.path f.answer all h.0.given) [
        | inl e ↦ rw (sym e) (after_load items found item.name (λ more rest. zones_fixed more items found rest) (loaded table item f) h.1)
        | inr e ↦ zone_unread (λ more. table_by more items found) _ table item f e
      ]

  -- ## Reading the clock and the timer file

  present_fixed : (given shown : Option ℤ) → IfNone given (IsTrue (gives (ClockShows shown))) → present_by given shown ≡ present_by given clock
  unfolding present_by
  present_fixed (Some now) shown h = refl
  present_fixed None shown h = rw (all.time shown h) refl

  run_fixed : (asked : Request) (answer : FileAnswer) (kind : RequestKind) → SeesFor kind gives answer → IsOrMemoryStop (run_on asked answer kind) (run_on asked (fixed_file held kind) kind)
  run_fixed asked answer (for_texts verb texts) h = inl refl
  run_fixed asked answer (for_file path) h =
      elim (answer_fixed gives held clock path answer all h) [
        | inl e ↦ rw e (inl refl)
        | inr e ↦ rw e (inr refl)
      ]

  -- ## All steps together

  ask_fixed : (ask : Ask) (world : World) → Fits gives ask world → IsOrMemoryStop (outcome_of ask world) (outcome (fixed_world held clock ask world))
  unfolding outcome outcome_of fixed_world run_by
  ask_fixed ask world fits =
      and_then_or _ _ _ _ (zones_fixed empty ask.zones world.zones fits.zones) (λ table is_table.
      let after = rw is_table at fits.after in
      and_then_or _ _ (local_by ask.local table world.local) (local_by ask.local table world.local) (inl refl) (λ local is_local.
      let later = rw is_local at after in
      and_then_or _ _ (present_by ask.now world.clock) (present_by ask.now clock) (inl (present_fixed ask.now world.clock later.1)) (λ now is_now.
      run_fixed (asked_at ask table local now) world.file (kind_by ask.verb ask.texts) (rw (is_table, is_local, is_now) at fits.file))))

  parsed_fixed : (world : World) (parsed : Result Ask CommandFault) → world.parsed ≡ parsed → IfOk parsed (λ ask. Fits gives ask world) → IsOrMemoryStop (outcome world) (fixed_outcome held clock parsed world)
  unfolding outcome outcome_of fixed_world
  parsed_fixed world (Ok ask) is fits = rw is (ask_fixed ask world fits)
  parsed_fixed world (Err fault) is fits = rw is (inl refl)

  pub fixed_decides : (arguments : List (List ℕ)) (asked : Result Ask CommandFault) (world : World) → takes_arguments arguments ≡ true → ask_in arguments ≡ Some asked
      → FitsArguments gives arguments world → IsOrMemoryStop (outcome world) (fixed_outcome held clock asked world)
  unfolding outcome
  fixed_decides arguments asked world takes asks fits =
      elim (taken_arguments arguments world.parsed fits.parsed takes) [
        | inl e ↦ rw e (inr refl)
        | inr e ↦
            let both : Some asked ≡ Some world.parsed = sym asks ∙ e in
            let same : asked ≡ world.parsed = cc in
            rw same (parsed_fixed world world.parsed refl fits.fits)
      ]
