pub mod Runs
pub mod Numerals
pub mod Cuts
pub mod Readings
pub mod Causes
pub mod Places
pub mod OneAnswer
pub mod Longest
pub mod Divisions
mod Examples
