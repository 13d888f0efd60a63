-- What the contracts cite.
pub mod Rearranging
pub mod Derivation
pub mod Written
pub mod Laws
