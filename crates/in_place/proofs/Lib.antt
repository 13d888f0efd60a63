-- Lemmas.
pub mod Moves
