pub mod Checked
pub mod Accepted
pub mod FirstFault
pub mod FirstFaultOne
pub mod Reasons
pub mod Counting
pub mod Carried
pub mod Choices
