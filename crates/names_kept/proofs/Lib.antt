-- The lemmas.
pub mod NameCounts
pub mod NoWorseStates
pub mod NoWorseArguments
pub mod SimplerNames
mod Examples
