pub mod Exchange
pub mod Turns
pub mod Laws
pub mod Worked
