-- What the contracts cite.
pub mod StreamType
pub mod Laws
