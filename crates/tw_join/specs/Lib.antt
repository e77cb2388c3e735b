pub mod Joining
pub mod TakenParts
pub mod OwnParts
