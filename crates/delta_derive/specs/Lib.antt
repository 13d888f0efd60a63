-- What the contracts cite.
pub mod Rearranged
pub mod LineText
pub mod Claims
pub mod OpenTerms
pub mod FirstFault
pub mod Laws
