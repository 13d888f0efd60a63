-- The lemmas.
mod NamesInLists
pub mod Making
mod Putting
mod PassedOnce
mod UsedArguments
pub mod Joining
mod Settling
mod Repeating
