pub mod Cuts
pub mod Examples
pub mod FirstHolds
pub mod Passing
