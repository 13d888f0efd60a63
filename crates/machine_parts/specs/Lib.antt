-- What the contracts cite.
pub mod Entry
pub mod Scope
pub mod Parts
pub mod Parameters
pub mod Weights
pub mod Heft
pub mod Levels
pub mod AwaitedTree
pub mod KeepsAll
