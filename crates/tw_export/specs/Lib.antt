pub mod Faults
pub mod NodeNumbers
pub mod Files
pub mod Exporting
pub mod Copied
pub mod Received
pub mod Told
