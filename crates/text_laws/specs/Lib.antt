-- What the contracts cite.
pub mod TreeNames
pub mod Laws
