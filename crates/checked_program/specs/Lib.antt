-- Definitions that the contracts cite.
pub mod Acceptance
pub mod Naming
pub mod Laws
