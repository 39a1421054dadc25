pub mod Codes
pub mod Sizes
pub mod Frame
pub mod Response
pub mod Change
pub mod ChangeOne
pub mod Reply
pub mod Name
