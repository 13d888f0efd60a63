-- The lemmas.
pub mod Fitting
pub mod KnownNames
pub mod StreamNames
pub mod Keeping
pub mod Params
pub mod Bodies
pub mod WholePrograms
pub mod BoundOnce
pub mod Counts
pub mod Limits
pub mod KeptTypes
pub mod FreeStreams
pub mod Scopes
mod SameLists
pub mod Splittings
pub mod Evaluations
pub mod Declarations
pub mod MainRuns
pub mod Runs
mod Examples
