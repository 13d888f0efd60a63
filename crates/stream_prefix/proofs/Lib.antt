-- The lemmas.
pub mod Derivations
pub mod Increments
pub mod Joins
pub mod MaximalPrefixes
pub mod Parts
pub mod PrefixLaws
pub mod Rows
mod Examples
pub mod Follow
