-- What the manuals and this project's own rules say. The contracts of this crate cite these definitions.
pub mod ClosedSteps
pub mod Columns
pub mod Crontab
pub mod Ambiguities
pub mod Findings
pub mod Hints
pub mod IgnoredValues
pub mod InstallNames
pub mod Instances
pub mod OpenSteps
pub mod Sections
pub mod Systemd252
pub mod UnknownKeys
