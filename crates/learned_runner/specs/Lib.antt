-- What the contracts cite.
pub mod Answering
pub mod Book
pub mod Finding
pub mod Noting
pub mod Standing
