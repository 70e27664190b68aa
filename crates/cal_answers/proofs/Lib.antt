mod CronLemmas
mod CrontabTimerLemmas
mod DueRows
mod ErrorLemmas
pub mod FoundLemmas
pub mod GuardLawLemmas
mod LintFileLemmas
mod LintLawLemmas
mod LintLemmas
mod LintOutputLemmas
mod LintPlaceLemmas
mod LocalClockLemmas
mod RangeZoneLemmas
pub mod MachinePathLemmas
mod RunLemmas
mod TriggerLemmas
mod UnguardedLemmas
