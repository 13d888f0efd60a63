-- The lemmas.
pub mod Shifting
pub mod EnvironmentNumbers
pub mod LaidParts
pub mod ReckonedParts
