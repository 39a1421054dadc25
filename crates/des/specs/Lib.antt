pub mod Tables
pub mod Des
pub mod Inner
pub mod Stored
