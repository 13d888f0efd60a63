-- The lemmas.
pub mod Growing
pub mod FoundBeside
pub mod Rows
pub mod SameForms
