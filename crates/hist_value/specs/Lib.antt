-- What the contracts cite.
pub mod HistType
pub mod HistValue
pub mod Wholes
pub mod HistExpr
pub mod Environment
pub mod Evaluate
pub mod Scope
pub mod Typing
pub mod Refusal
pub mod Judge
pub mod Renaming
pub mod FreeNames
pub mod Laws
