pub mod Steps
pub mod Binding
pub mod EventTexts
pub mod NodeTexts
