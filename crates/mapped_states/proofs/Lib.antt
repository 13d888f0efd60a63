-- The lemmas.
pub mod MappedForms
pub mod SimplerMapped
pub mod MappedTwice
mod Examples
