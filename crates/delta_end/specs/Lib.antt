-- What the contracts cite.
pub mod End
pub mod Status
pub mod Note
