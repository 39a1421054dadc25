pub mod Parts
pub mod Numbers
pub mod Digits
pub mod Split
