-- The lemmas.
pub mod Bounds
mod Examples
