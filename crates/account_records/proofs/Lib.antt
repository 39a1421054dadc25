pub mod Laying
pub mod KeyBounds
pub mod Decoding
pub mod Fitting
