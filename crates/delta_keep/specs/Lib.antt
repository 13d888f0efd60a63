-- What the contracts cite.
pub mod KeptView
pub mod Written
pub mod Walking
pub mod Reads
pub mod Placing
pub mod Putting
pub mod Saving
pub mod Reading
