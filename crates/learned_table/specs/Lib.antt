-- What the contracts cite.
pub mod StepTree
pub mod Suits
pub mod Reckoned
pub mod FoundNumbers
