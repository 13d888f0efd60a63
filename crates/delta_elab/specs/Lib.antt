-- What the contracts cite.
pub mod FirstFault
pub mod Bounds
pub mod Aliases
pub mod Wanted
pub mod Sources
pub mod Numbering
pub mod Subjects
pub mod ProgramFaults
pub mod Accepted
pub mod Laws
