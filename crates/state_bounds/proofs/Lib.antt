-- The lemmas.
pub mod BoundOrder
pub mod MoreFacts
pub mod TermsWithMoreFacts
pub mod StatesWithMoreFacts
pub mod LeftNames
pub mod StarItems
pub mod StateStreams
pub mod LeftParameters
pub mod RestsOfTerms
pub mod RestsOfStates
pub mod WordSizes
pub mod NameSums
pub mod HeldEvents
pub mod ProgramBounds
pub mod ProgramNumbers
mod Examples
