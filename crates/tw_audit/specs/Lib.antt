pub mod Auditing
pub mod Answers
pub mod Shapes
pub mod PieceTexts
pub mod HopHeld
pub mod Stops
pub mod Tables
pub mod KeyLists
