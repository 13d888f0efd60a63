-- What the contracts cite.
pub mod Meaning
pub mod Stopping
pub mod Output
pub mod Finding
pub mod Prompt
pub mod History
pub mod Return
pub mod Loop
pub mod Answer
