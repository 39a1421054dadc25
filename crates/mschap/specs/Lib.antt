pub mod Passwords
pub mod Lists
pub mod Opening
pub mod Sizes
pub mod Inner
pub mod Answers
