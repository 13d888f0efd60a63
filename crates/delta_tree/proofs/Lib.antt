-- The lemmas.
mod Examples
pub mod Rows
