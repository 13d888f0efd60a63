-- What the contracts cite.
pub mod StreamPrefix
pub mod Tree
pub mod Increment
pub mod Forms
pub mod Laws
pub mod Fit
