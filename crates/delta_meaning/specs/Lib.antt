-- What the contracts cite.
pub mod TypeNames
pub mod KnownTypes
pub mod SourceBody
pub mod SourceMeaning
pub mod NewNames
pub mod Elaboration
pub mod NodePlaces
pub mod Faults
pub mod Elaborated
pub mod Laws
pub mod Evaluated
pub mod Scope
pub mod Functions
pub mod CallRuns
pub mod Weights
pub mod Splitting
