pub mod EntrySteps
pub mod RecordReads
