-- Lemmas about which errors may be reported.
use Rattle.std.proofs.Common.{◌≡◌, ◌≢◌, ◌⊎◌, Bool, true, false, List, [], ◌∷◌, arith, ap, inl, inr, refl}
use Rattle.std.specs.Prelude.{not}
use Rattle.std.specs.List.{list_any}
use Rattle.clap.specs.Words.{App, IsAmong, Kinds, Text, fault_of, takes}
use Rattle.clap.specs.declared.error.kind.ErrorKind.{ErrorKind}
use Rattle.clap.specs.declared.error.kind.ErrorKind.TheVariants.{OutOfMemory}
use Rattle.cal_options.specs.rules.ArgumentFault.{Fault, HasRefused, IsRefusalOf, IsReportedOf, help, is_of_help, no_memory, usage}

among : (p : ErrorKind → Bool) (kind : ErrorKind) (kinds : Kinds) → IsAmong kind kinds → p kind ≡ true → list_any p kinds ≡ true
among p kind [] at holds = absurd at
among p kind (k ∷ ks) (inl is) holds = grind (arith, ap p is)
among p kind (k ∷ ks) (inr later) holds = grind (arith, among p kind ks later holds)

not_taken : (taken : Bool) (kind : ErrorKind) → (taken ≡ true → kind ≡ OutOfMemory) → kind ≢ OutOfMemory → taken ≡ false
not_taken true kind passes other = absurd (other (passes refl))
not_taken false kind passes other = refl

refused : (app : App) (arguments : List Text) (p : ErrorKind → Bool) (kind : ErrorKind) → (takes app arguments ≡ true → kind ≡ OutOfMemory)
    → (kind ≡ OutOfMemory) ⊎ IsAmong kind (fault_of app arguments) → kind ≢ OutOfMemory → p kind ≡ true → HasRefused app arguments p
refused app arguments p kind passes (inl full) other holds = absurd (other full)
refused app arguments p kind passes (inr at) other holds =
    (not_taken (takes app arguments) kind passes other, among p kind (fault_of app arguments) at holds)

-- Suppose that `clap` returned an error of the kind `kind`. If the kind isn't `OutOfMemory`, suppose also that `clap`
-- rejects the arguments, and that `kind` is one of the kinds that `clap` may report for them. Then every `fault` that
-- may be reported for this kind (`IsReportedOf`) satisfies `IsRefusalOf`.
pub reported_fault : (app : App) (arguments : List Text) (kind : ErrorKind) (fault : Fault) → (takes app arguments ≡ true → kind ≡ OutOfMemory)
    → (kind ≡ OutOfMemory) ⊎ IsAmong kind (fault_of app arguments) → IsReportedOf kind fault → IsRefusalOf app arguments fault
reported_fault app arguments kind (usage text) passes kinds reported =
    (refused app arguments (λ k. not (is_of_help k)) kind passes kinds reported.1.0 (ap not reported.0), reported.1.1)
reported_fault app arguments kind (help text) passes kinds reported =
    (refused app arguments is_of_help kind passes kinds reported.1.0 reported.0, reported.1.1)
reported_fault app arguments kind no_memory passes kinds reported = tt
