pub mod Faults
pub mod Feeding
pub mod Verifying
pub mod Joining
pub mod Parts
pub mod Showing
