-- What the contracts cite.
pub mod KeptAwaiting
pub mod Makes
pub mod SinceView
pub mod Keeping
