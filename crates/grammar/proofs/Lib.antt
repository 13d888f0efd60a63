pub mod Tests
pub mod Checked
pub mod FirstTokens
pub mod Prefixes
pub mod Levels
pub mod Complete
pub mod Exact
