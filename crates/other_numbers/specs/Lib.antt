-- What the contracts cite.
pub mod Numbers
pub mod EventNumbers
pub mod StateNumbers
pub mod Asked
pub mod StateAsked
pub mod Commutes
pub mod Laws
