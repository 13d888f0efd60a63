-- The lemmas.
pub mod NameLists
pub mod Tables
pub mod Growth
pub mod Tests
pub mod TableReads
pub mod Bunches
mod Examples
