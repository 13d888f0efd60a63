-- What the contracts cite.
pub mod InTurn
pub mod StateRules
pub mod FirstUntyped
pub mod Laws
