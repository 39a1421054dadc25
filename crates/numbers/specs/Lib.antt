pub mod Terms
pub mod Flags
pub mod Results
