pub mod FormLaws
pub mod FrontLaws
pub mod TableLaws
