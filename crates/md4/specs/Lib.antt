pub mod Md4
pub mod Inner
