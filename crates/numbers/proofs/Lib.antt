pub mod FlagLaws
pub mod TermLaws
