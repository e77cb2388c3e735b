pub mod AnchorsFile
pub mod AnchorFaults
pub mod EventsFile
pub mod HistoryMessages
pub mod Messages
pub mod Receipts
