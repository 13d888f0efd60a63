-- What the contracts cite.
pub mod Terminals
pub mod Parts
pub mod Actions
pub mod Rules
pub mod Tables
pub mod Readers
pub mod Reads
pub mod Plain
pub mod Marks
pub mod Bindings
pub mod Programs
pub mod Places
pub mod Causes
pub mod Laws
