-- Lemmas, each file named for what it is about.
pub mod Growing
pub mod Statuses
pub mod Notes
mod Examples
