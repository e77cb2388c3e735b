pub mod KeyNames
pub mod Risen
pub mod Bounded
pub mod MapCodec
pub mod MapSizes
pub mod MapChecks
pub mod MapBinds
pub mod OwnMaps
