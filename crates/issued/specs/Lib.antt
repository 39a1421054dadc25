pub mod Issued
pub mod Inner
