-- What crontab(5) says. The laws and the contracts of this crate cite these definitions.
pub mod CronGrammar
pub mod CronLine
pub mod CronMatch
pub mod CronMessages
pub mod CrontabLines
