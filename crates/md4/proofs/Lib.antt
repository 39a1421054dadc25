pub mod Auxiliary
pub mod Table
pub mod Laws
