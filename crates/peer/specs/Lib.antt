pub mod Turn
pub mod Write
pub mod Peer
