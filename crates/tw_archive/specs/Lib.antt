pub mod Judging
pub mod Numbering
pub mod Archives
