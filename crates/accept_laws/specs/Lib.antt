-- What the contracts cite.
pub mod ReadAgain
pub mod Laws
