-- What the contracts cite.
pub mod Around
pub mod Begun
pub mod Eased
pub mod GivenBack
pub mod Gives
pub mod GoesOn
pub mod Told
pub mod Steps
pub mod CodedView
pub mod Way
pub mod Beside
