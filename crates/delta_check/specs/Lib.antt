-- What the contracts cite.
pub mod Counting
pub mod Passing
pub mod Refused
pub mod Faults
pub mod Forms
pub mod Scopes
pub mod Checking
