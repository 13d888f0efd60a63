-- What the contracts cite.
pub mod RefusalName
