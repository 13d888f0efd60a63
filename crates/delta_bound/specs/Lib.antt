-- What the contracts cite.
pub mod BoundIn
pub mod Unsized
pub mod Measured
pub mod Refusals
pub mod Counted
pub mod Laws
