-- What the contracts cite.
pub mod Depths
pub mod Suits
pub mod Laws
