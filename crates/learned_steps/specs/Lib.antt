-- What the contracts cite.
pub mod Learned
pub mod Shapes
pub mod Laws
