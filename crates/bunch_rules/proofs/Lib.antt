-- The lemmas.
pub mod Replacing
pub mod Steps
pub mod Serving
pub mod Parts
pub mod Derivations
pub mod Programs
pub mod Lines
mod Examples
