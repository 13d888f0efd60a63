mod Examples
pub mod Feeding
pub mod Serving
pub mod Refusals
pub mod Lined
