-- Lemmas, each file named for what it is about.
pub mod Logs
pub mod Lefts
pub mod Limits
pub mod Outputs
pub mod Findings
pub mod Early
pub mod Counts
pub mod Feeding
pub mod Serving
pub mod Opening
pub mod StoppedFirst
pub mod Unstopped
pub mod Returning
pub mod Completeness
mod Examples
