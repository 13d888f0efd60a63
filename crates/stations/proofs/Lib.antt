-- The lemmas.
mod Examples
pub mod LiesOn
pub mod StandsThere
