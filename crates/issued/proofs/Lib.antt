pub mod Listing
pub mod Counting
pub mod Marking
pub mod Spending
