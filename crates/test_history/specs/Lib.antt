pub mod Causes
pub mod Histories
pub mod HistoryTexts
pub mod Rules
pub mod Faults
pub mod Entries
