pub mod ListCalls
pub mod OpenCalls
pub mod OpenFitting
pub mod PasswordFitting
