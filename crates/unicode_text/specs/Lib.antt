pub mod Scalars
pub mod Utf8
pub mod Utf16
pub mod Password
pub mod Inner
