-- What the contracts cite.
pub mod Mapped
pub mod Laws
