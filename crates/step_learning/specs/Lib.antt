-- What the contracts cite.
pub mod IsLearned
pub mod Laws
pub mod Learns
pub mod AreApart
pub mod AsksOf
pub mod Tries
