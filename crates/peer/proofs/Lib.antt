pub mod Found
pub mod Left
pub mod Again
pub mod Written
