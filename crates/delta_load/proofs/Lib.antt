-- Lemmas: of the load, of a program that runs on it and what is counted of that, and of the load's own program.
pub mod Places
pub mod Words
pub mod Examples
pub mod Counts
pub mod Lines
pub mod Turns
pub mod OnTheLoad
pub mod Runs
pub mod Fronts
pub mod Spoken
pub mod Tokens
pub mod Trees
pub mod Belonging
pub mod Elaborating
pub mod Accepting
pub mod Loads
pub mod Stopping
