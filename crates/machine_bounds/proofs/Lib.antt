-- The lemmas.
pub mod BelowBounds
mod Examples
