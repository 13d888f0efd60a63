pub mod Codes
pub mod FrameLaws
pub mod Spelling
pub mod Numbers
pub mod WholeLaws
pub mod Fronts
pub mod Writing
pub mod MoreBytes
pub mod Readers
mod Examples
