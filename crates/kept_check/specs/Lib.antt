-- What the contracts cite.
pub mod Arguments
pub mod Forms
pub mod Free
pub mod Given
pub mod Holding
pub mod HeldRules
pub mod Judging
pub mod Laters
pub mod Loading
pub mod Sizes
pub mod Walk
