-- What the contracts cite.
pub mod Beside
pub mod Makes
pub mod RegisterLists
pub mod From
pub mod Goes
