pub mod Line
pub mod Record
pub mod File
pub mod Write
pub mod Summary
pub mod Inner
