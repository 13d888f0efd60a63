-- What the contracts cite.
pub mod Gives
pub mod Makes
pub mod Marked
pub mod Reached
pub mod Steps
pub mod TreeView
