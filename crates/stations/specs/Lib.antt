-- What the contracts cite.
pub mod Lies
pub mod StationTree
pub mod Stands
