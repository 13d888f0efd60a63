pub mod NamesInTurn
pub mod GoodStates
pub mod Examples
