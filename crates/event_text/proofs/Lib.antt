pub mod Splitting
pub mod Numbers
pub mod Digits
pub mod LineLaws
pub mod Spelled
mod Examples
