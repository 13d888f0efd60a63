-- The lemmas.
pub mod SameRuns
pub mod TermRuns
pub mod Calls
pub mod SameRests
pub mod TermRests
pub mod StateRuns
pub mod StateRests
pub mod DeepStates
pub mod FormsFrom
pub mod TermsFrom
pub mod StatesFrom
pub mod DepthsLeft
pub mod Shifts
mod Examples
