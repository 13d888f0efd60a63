-- What the contracts cite.
pub mod Readers
pub mod Templates
pub mod Makes
pub mod Passing
pub mod Rows
