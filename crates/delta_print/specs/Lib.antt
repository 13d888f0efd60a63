-- What the contracts cite.
pub mod Chunks
pub mod Layout
pub mod Brackets
pub mod Rows
pub mod Canonical
pub mod Printable
pub mod ReadingBack
pub mod Needed
pub mod Laws
