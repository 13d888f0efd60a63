-- Definitions that the contracts cite.
pub mod Fault
pub mod ProgramText
pub mod Laws
