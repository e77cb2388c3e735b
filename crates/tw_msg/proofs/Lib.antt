pub mod LineLaws
pub mod Reading
pub mod EventsLawful
pub mod ThreadBytes
pub mod MessageCodec
pub mod ReceiptCodec
pub mod OwnMessages
