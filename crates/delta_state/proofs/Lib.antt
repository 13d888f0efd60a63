pub mod Counts
pub mod Examples
pub mod FinishedStates
pub mod GrowingStates
pub mod HeldNames
pub mod Rows
pub mod SettledStates
pub mod WholeStates
