-- What the contracts cite.
pub mod Asking
pub mod Walks
