-- The lemmas.
pub mod CappedBounds
pub mod LowerParts
pub mod NamesPutIn
pub mod ArgumentBounds
pub mod SimplerBounds
mod Examples
