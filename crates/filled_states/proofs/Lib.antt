-- The lemmas.
pub mod Found
pub mod FilledStates
pub mod ShiftedDepths
mod Examples
