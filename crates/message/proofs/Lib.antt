pub mod Loops
pub mod Formed
pub mod Words
pub mod FirstFields
pub mod Laws
