-- What the contracts cite.
pub mod Registers
pub mod Filled
pub mod Shape
pub mod Shifts
pub mod Laws
