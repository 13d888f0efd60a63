-- The laws of derivations that are written down, proved.
pub mod Options
pub mod ExactSteps
pub mod Adding
pub mod Paths
pub mod OneLeaf
pub mod Calls
pub mod Written
pub mod Faultless
pub mod Texts
pub mod HandedOn
pub mod KnownNames
pub mod Cutting
pub mod Fronts
pub mod InFront
pub mod Refusing
pub mod Ending
pub mod PastTests
pub mod Sharing
pub mod Passed
pub mod Spaces
pub mod Turns
pub mod Going
mod Examples
