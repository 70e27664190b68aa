mod DocumentLemmas
mod EntryLemmas
mod FindingLemmas
