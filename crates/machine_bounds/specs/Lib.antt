-- What the contracts cite.
pub mod StaysBelow
pub mod Laws
