pub mod Padded
pub mod Plain
pub mod Laws
mod Worked
pub mod KeyOctets
pub mod UnderChallenge
