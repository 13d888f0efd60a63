-- What the contracts cite.
pub mod Bounds
pub mod TermBounds
pub mod StateBounds
pub mod ProgramBound
pub mod Laws
