-- Lemmas on the errors about the files that targets stand for. An error is added for everything that is lost, that is,
-- can't be read.
use Rattle.std.proofs.Common.{◌≡◌, ◌∙◌, ◌++◌, ◌∷◌, ◌⊎◌, ℕ, Contains, List, None, Option, Some, String, [], ap, arith, false, inl, inr, map, string_bytes, subst, sym, true}
use Rattle.std.proofs.lemmas.Bool.{false≢true}
use Rattle.std.proofs.lemmas.List.{map-append}
use Rattle.std.proofs.lemmas.List.Elements.{All-append, All-cons, All-contains_itself, All-nil, All-weaker, Contains-append_left, Contains-append_right, Contains-push, Contains-push_cases}
use Rattle.std.specs.declared.alloc.Global.{Global}
use Rattle.cal_unit_index.specs.declared.fault.Reason.{Reason}
use Rattle.cal_unit_index.specs.declared.fault.UnitFault.{UnitFault}
use Rattle.cal_unit_index.specs.rules.Index.{shown_fault}
use Rattle.cal_load.specs.declared.target_fault.TargetFault.{TargetFault}
use Rattle.cal_load.specs.declared.target_fault.TargetReason.{TargetReason}
use Rattle.cal_load.specs.declared.target_fault.TargetReason.TheVariants.{Path}
use Rattle.cal_load.specs.rules.AllUnits.{Keeps, is_absent_reason}
use Rattle.cal_load.specs.rules.FileFaults.{AreFaultsOf, AreLostAlso, Cause, IsAbout, IsCause, IsCauseIf, IsFaultOf, IsFaultOfOne, IsLostIn, Lost, lost_as, lost_path, unless_absent}
use Rattle.cal_load.specs.rules.FileFaults.Cause.{Absent, IsTemplate, ManyAliases, UnusableAt}
use Rattle.cal_load.proofs.UnitLemmas.{keeps_appended, keeps_both, keeps_same}

-- ## One error

about_named : (name : List ℕ) (cause : Cause) (fault : TargetFault) → string_bytes fault.target ≡ name → IsAbout name cause fault
about_named name Absent fault e = e
about_named name IsTemplate fault e = e
about_named name ManyAliases fault e = e
about_named name (UnusableAt path why) fault e = tt

one_left : (first second : List Lost) (fault : TargetFault) → IsFaultOfOne first fault → IsFaultOfOne (first ++ second) fault
one_left first second fault h = (h.0, Contains-append_left first second h.0 h.1, h.2)

one_right : (first second : List Lost) (fault : TargetFault) → IsFaultOfOne second fault → IsFaultOfOne (first ++ second) fault
one_right first second fault h = (h.0, Contains-append_right first second h.0 h.1, h.2)

lost_kept : (old new : List TargetFault) (lost : Lost) → Keeps old new → IsLostIn old lost → IsLostIn new lost
lost_kept old new lost keeps h = record { fault = h.fault; is_in = keeps h.fault h.is_in; says = h.says; about = h.about }

-- if an error already says that something is lost, no error needs to be added for it
pub lost_known : (lost : Lost) (faults : List TargetFault) → IsLostIn faults lost → AreLostAlso (lost ∷ []) faults faults
lost_known lost faults h = record {
  kept = keeps_same faults;
  true_of = λ fault has. inl has;
  whole = All-cons (IsLostIn faults) lost [] h (All-nil (IsLostIn faults));
}

-- if an error that says that something is lost is appended to the errors, `AreLostAlso` holds for what is lost
pub lost_pushed : (lost : Lost) (fault : TargetFault) (old new : List TargetFault) → new ≡ old ++ fault ∷ [] → IsFaultOf lost fault
    → AreLostAlso (lost ∷ []) old new
lost_pushed lost fault old new e is = record {
  kept = keeps_appended old new (fault ∷ []) e;
  true_of = λ other has.
      elim (Contains-push_cases old fault other (subst (λ all. Contains all other) e has)) [
        | inl before ↦ inl before
        | inr same ↦ inr (lost, Contains-push [] lost, subst (IsFaultOf lost) same is)
      ];
  whole = All-cons (IsLostIn new) lost []
      (record {
        fault = fault;
        is_in = rw e (Contains-push old fault);
        says = is.says;
        about = about_named lost.name lost.cause fault is.named;
      })
      (All-nil (IsLostIn new));
}

same_path_for : (known fault : TargetFault) (place path : String Global) (reason why : Reason) (name : List ℕ) (cause : Cause) → known.reason ≡ Path place reason
    → string_bytes place ≡ string_bytes path → reason ≡ why → IsCause cause (Path path why)
    → IsCause cause known.reason × IsAbout name cause known
same_path_for known fault place path reason why name Absent e same because is = absurd (cc)
same_path_for known fault place path reason why name IsTemplate e same because is = absurd (cc)
same_path_for known fault place path reason why name ManyAliases e same because is = absurd (cc)
same_path_for known fault place path reason why name (UnusableAt at given) e same because is =
    let f : Path path why ≡ Path is.0 given = is.2 in
    let is_path : path ≡ is.0 = cc in
    let is_why : why ≡ given = cc in
    ((place, same ∙ ap string_bytes is_path ∙ is.1, e ∙ ap (Path place) (because ∙ is_why)), tt)

-- if `fault` says that something is lost because of a path, then `known`, an error with the same path and reason, says
-- so, too
pub same_path : (known fault : TargetFault) (place path : String Global) (reason why : Reason) (lost : Lost) → known.reason ≡ Path place reason → fault.reason ≡ Path path why
    → string_bytes place ≡ string_bytes path → reason ≡ why → IsFaultOf lost fault
    → IsCause lost.cause known.reason × IsAbout lost.name lost.cause known
same_path known fault place path reason why lost e f same because is =
    same_path_for known fault place path reason why lost.name lost.cause e same because (subst (IsCause lost.cause) f is.says)

-- ## Several errors

pub lost_none : (faults : List TargetFault) → AreLostAlso [] faults faults
lost_none faults = record {
  kept = keeps_same faults;
  true_of = λ fault has. inl has;
  whole = All-nil (IsLostIn faults);
}

-- if errors were added for what is in `first`, and then for what is in `second`, they were added for both
pub lost_both : (first second : List Lost) (old mid new : List TargetFault) → AreLostAlso first old mid → AreLostAlso second mid new
    → AreLostAlso (first ++ second) old new
lost_both first second old mid new h k = record {
  kept = keeps_both old mid new h.kept k.kept;
  true_of = λ fault has.
      elim (k.true_of fault has) [
        | inl before ↦ elim (h.true_of fault before) [
          | inl older ↦ inl older
          | inr one ↦ inr (one_left first second fault one)
        ]
        | inr one ↦ inr (one_right first second fault one)
      ];
  whole = All-append (IsLostIn new) first second
      (All-weaker (IsLostIn mid) (IsLostIn new) (λ lost. lost_kept mid new lost k.kept) first h.whole) k.whole;
}

-- if the errors about the paths in `before` were added, and then the error about one more path, the errors about all
-- these paths were added
pub lost_more : (before : List UnitFault) (more : UnitFault) (old mid new : List TargetFault)
    → AreLostAlso (map lost_path (map shown_fault before)) old mid → AreLostAlso (lost_path (shown_fault more) ∷ []) mid new
    → AreLostAlso (map lost_path (map shown_fault (before ++ more ∷ []))) old new
lost_more before more old mid new h k =
    subst (λ lost. AreLostAlso lost old new)
    (sym (ap (map lost_path) (map-append shown_fault before (more ∷ [])) ∙ map-append lost_path (map shown_fault before) (shown_fault more ∷ [])))
    (lost_both (map lost_path (map shown_fault before)) (lost_path (shown_fault more) ∷ []) old mid new h k)

none_before : (lost : List Lost) (fault : TargetFault) → Contains {X = TargetFault} [] fault ⊎ IsFaultOfOne lost fault → IsFaultOfOne lost fault
none_before lost fault (inl before) = let lt = before.1 in absurd (omega arith)
none_before lost fault (inr one) = one

-- if there were no errors before, the errors that were added for `lost` are all errors (`AreFaultsOf`)
pub all_faults : (lost : List Lost) (old new : List TargetFault) → old ≡ [] → AreLostAlso lost old new → AreFaultsOf lost new
all_faults lost old new e h = record {
  true_of = All-weaker (Contains new) (IsFaultOfOne lost)
      (λ fault has. none_before lost fault (subst (λ before. Contains before fault ⊎ IsFaultOfOne lost fault) e (h.true_of fault has)))
      new (All-contains_itself new);
  whole = h.whole;
}

-- ## Causes

-- a unit of the search path that isn't lost needs no error
pub none_listed : (name : List ℕ) (cause : Option Cause) (faults : List TargetFault) → IsCauseIf cause None
    → AreLostAlso (lost_as name (unless_absent cause)) faults faults
none_listed name None faults h = lost_none faults
none_listed name (Some cause) faults h = absurd h

-- if a unit is lost, `reason` states the cause, and an error was added for whatever cause `reason` states, then the
-- unit's error was added
pub one_named : (name : List ℕ) (cause : Option Cause) (reason : TargetReason) (old new : List TargetFault)
    → ((cause : Cause) → IsCause cause reason → AreLostAlso (lost_as name (Some cause)) old new)
    → IsCauseIf cause (Some reason) → AreLostAlso (lost_as name cause) old new
one_named name None reason old new f h = absurd h
one_named name (Some cause) reason old new f h = f cause h

-- a unit of the search path that has no file needs no error
pub absent_listed : (name : List ℕ) (cause : Option Cause) (reason : TargetReason) (faults : List TargetFault) → is_absent_reason reason ≡ true
    → IsCauseIf cause (Some reason) → AreLostAlso (lost_as name (unless_absent cause)) faults faults
absent_listed name None reason faults is h = absurd h
absent_listed name (Some Absent) reason faults is h = lost_none faults
absent_listed name (Some IsTemplate) reason faults is h = absurd (false≢true (sym (ap is_absent_reason h) ∙ is))
absent_listed name (Some ManyAliases) reason faults is h = absurd (false≢true (sym (ap is_absent_reason h) ∙ is))
absent_listed name (Some (UnusableAt path why)) reason faults is h = absurd (false≢true (sym (ap is_absent_reason h.2) ∙ is))

-- if a unit of the search path is lost, and not because it has no file, its error was added
pub one_listed : (name : List ℕ) (cause : Option Cause) (fault : TargetFault) (old new : List TargetFault) → is_absent_reason fault.reason ≡ false
    → string_bytes fault.target ≡ name → ((lost : Lost) → IsFaultOf lost fault → AreLostAlso (lost ∷ []) old new)
    → IsCauseIf cause (Some fault.reason) → AreLostAlso (lost_as name (unless_absent cause)) old new
one_listed name None fault old new is named f h = absurd h
one_listed name (Some Absent) fault old new is named f h = absurd (false≢true (sym is ∙ ap is_absent_reason h))
one_listed name (Some IsTemplate) fault old new is named f h = f (record { name = name; cause = IsTemplate }) (record { named = named; says = h })
one_listed name (Some ManyAliases) fault old new is named f h = f (record { name = name; cause = ManyAliases }) (record { named = named; says = h })
one_listed name (Some (UnusableAt path why)) fault old new is named f h =
    f (record { name = name; cause = UnusableAt path why }) (record { named = named; says = h })
