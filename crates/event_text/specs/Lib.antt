pub mod Lines
pub mod Reading
pub mod Words
pub mod Spells
pub mod Laws
