-- The keys of a timer that systemd 252 ignores because it doesn't know them: systemd.unit(5), [Unit] and [Install]
-- Section Options, and systemd.timer(5), Options. This project adds the key `X-ExceptOnCalendar=` for exceptions.
use Rattle.std.specs.Prelude.{ℕ, ◌-◌, Bool, false, not, ◌&&◌, ◌||◌, List, [], ◌∷◌, codes, drop, is_some, length, min, nat_eq, take}
use Rattle.std.specs.List.{list_any, starts_with}
use Rattle.std.specs.Str.{bytes_eq, str_eq_ignore_ascii_case}
use Rattle.cal_timer.specs.rules.Keys.{kind_of}
use Rattle.cal_lint.specs.declared.sections.Section.{Section}
use Rattle.cal_lint.specs.declared.sections.Section.TheVariants.{Unit, Timer, Install}

-- whether systemd 252 knows the key in the section `Unit`; the keys are in the order in which
-- `systemd --dump-configuration-items` prints them
unfoldable pub is_unit_key : List ℕ → Bool
is_unit_key key =
    list_any (bytes_eq key) (codes "Description" ∷ codes "Documentation" ∷ codes "SourcePath" ∷ codes "Requires" ∷ codes "Requisite"
    ∷ codes "Wants" ∷ codes "BindsTo" ∷ codes "BindTo" ∷ codes "Upholds" ∷ codes "Conflicts" ∷ codes "Before"
    ∷ codes "After" ∷ codes "OnSuccess" ∷ codes "OnFailure" ∷ codes "PropagatesReloadTo" ∷ codes "PropagateReloadTo"
    ∷ codes "ReloadPropagatedFrom" ∷ codes "PropagateReloadFrom" ∷ codes "PropagatesStopTo"
    ∷ codes "StopPropagatedFrom" ∷ codes "PartOf" ∷ codes "JoinsNamespaceOf" ∷ codes "RequiresOverridable"
    ∷ codes "RequisiteOverridable" ∷ codes "RequiresMountsFor" ∷ codes "StopWhenUnneeded" ∷ codes "RefuseManualStart"
    ∷ codes "RefuseManualStop" ∷ codes "AllowIsolate" ∷ codes "DefaultDependencies" ∷ codes "OnSuccessJobMode"
    ∷ codes "OnFailureJobMode" ∷ codes "OnFailureIsolate" ∷ codes "IgnoreOnIsolate" ∷ codes "JobTimeoutSec"
    ∷ codes "JobRunningTimeoutSec" ∷ codes "JobTimeoutAction" ∷ codes "JobTimeoutRebootArgument"
    ∷ codes "StartLimitIntervalSec" ∷ codes "StartLimitInterval" ∷ codes "StartLimitBurst" ∷ codes "StartLimitAction"
    ∷ codes "FailureAction" ∷ codes "SuccessAction" ∷ codes "FailureActionExitStatus"
    ∷ codes "SuccessActionExitStatus" ∷ codes "RebootArgument" ∷ codes "ConditionPathExists"
    ∷ codes "ConditionPathExistsGlob" ∷ codes "ConditionPathIsDirectory" ∷ codes "ConditionPathIsSymbolicLink"
    ∷ codes "ConditionPathIsMountPoint" ∷ codes "ConditionPathIsReadWrite" ∷ codes "ConditionPathIsEncrypted"
    ∷ codes "ConditionDirectoryNotEmpty" ∷ codes "ConditionFileNotEmpty" ∷ codes "ConditionFileIsExecutable"
    ∷ codes "ConditionNeedsUpdate" ∷ codes "ConditionFirstBoot" ∷ codes "ConditionArchitecture"
    ∷ codes "ConditionFirmware" ∷ codes "ConditionVirtualization" ∷ codes "ConditionHost"
    ∷ codes "ConditionKernelCommandLine" ∷ codes "ConditionKernelVersion" ∷ codes "ConditionCredential"
    ∷ codes "ConditionSecurity" ∷ codes "ConditionCapability" ∷ codes "ConditionACPower" ∷ codes "ConditionMemory"
    ∷ codes "ConditionCPUFeature" ∷ codes "ConditionCPUs" ∷ codes "ConditionEnvironment" ∷ codes "ConditionUser"
    ∷ codes "ConditionGroup" ∷ codes "ConditionControlGroupController" ∷ codes "ConditionOSRelease"
    ∷ codes "ConditionMemoryPressure" ∷ codes "ConditionCPUPressure" ∷ codes "ConditionIOPressure"
    ∷ codes "AssertPathExists" ∷ codes "AssertPathExistsGlob" ∷ codes "AssertPathIsDirectory"
    ∷ codes "AssertPathIsSymbolicLink" ∷ codes "AssertPathIsMountPoint" ∷ codes "AssertPathIsReadWrite"
    ∷ codes "AssertPathIsEncrypted" ∷ codes "AssertDirectoryNotEmpty" ∷ codes "AssertFileNotEmpty"
    ∷ codes "AssertFileIsExecutable" ∷ codes "AssertNeedsUpdate" ∷ codes "AssertFirstBoot"
    ∷ codes "AssertArchitecture" ∷ codes "AssertVirtualization" ∷ codes "AssertHost" ∷ codes "AssertKernelCommandLine"
    ∷ codes "AssertKernelVersion" ∷ codes "AssertCredential" ∷ codes "AssertSecurity" ∷ codes "AssertCapability"
    ∷ codes "AssertACPower" ∷ codes "AssertMemory" ∷ codes "AssertCPUFeature" ∷ codes "AssertCPUs"
    ∷ codes "AssertEnvironment" ∷ codes "AssertUser" ∷ codes "AssertGroup" ∷ codes "AssertControlGroupController"
    ∷ codes "AssertOSRelease" ∷ codes "AssertMemoryPressure" ∷ codes "AssertCPUPressure" ∷ codes "AssertIOPressure"
    ∷ codes "CollectMode" ∷ [])

-- whether the key is known in the section `Install`
abbrev pub is_install_key : List ℕ → Bool
is_install_key key =
    list_any (bytes_eq key) (codes "Alias" ∷ codes "WantedBy" ∷ codes "RequiredBy" ∷ codes "Also" ∷ codes "DefaultInstance" ∷ [])

-- whether the key is known in the section `Timer`: whether it has a kind
abbrev pub is_timer_key : List ℕ → Bool
is_timer_key key = is_some (kind_of key)

-- whether systemd 252 or this project knows the key in this section
abbrev pub is_known_key : Section → List ℕ → Bool
is_known_key Unit key = is_unit_key key
is_known_key Timer key = is_timer_key key
is_known_key Install key = is_install_key key

-- whether a key begins with `X-Except` or ends with `OnCalendar`, ignoring case
abbrev pub is_like_exception_key : List ℕ → Bool
is_like_exception_key key =
    str_eq_ignore_ascii_case (take (min (length key) 8) key) (codes "X-Except")
    || str_eq_ignore_ascii_case (drop (length key - 10) key) (codes "OnCalendar")

-- whether a key in this section may be a misspelled key for exceptions
abbrev pub may_be_exception_key : Section → List ℕ → Bool
may_be_exception_key Unit key = false
may_be_exception_key Timer key = is_like_exception_key key
may_be_exception_key Install key = false

-- Whether neither systemd 252 nor this project knows a key in this section. systemd ignores keys that begin with `X-`
-- without a warning. They count as unknown only if they look like a misspelled key for exceptions.
abbrev pub is_unknown_key : Section → List ℕ → Bool
is_unknown_key section key =
    not (is_known_key section key) && (not (starts_with nat_eq key (codes "X-")) || may_be_exception_key section key)
