-- The lemmas.
pub mod PrefixNumbers
pub mod ValueNumbers
pub mod NameNumbers
pub mod RunNumbers
pub mod TermRuns
pub mod Calls
pub mod HeldNumbers
pub mod StateRuns
pub mod TermRests
pub mod StateRests
pub mod OtherNumbers
pub mod MovedNumbers
pub mod TwiceNumbers
pub mod EventNumbers
mod Examples
