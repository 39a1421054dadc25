pub mod Challenges
