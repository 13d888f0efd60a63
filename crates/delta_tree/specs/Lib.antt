-- What the contracts cite.
pub mod SyntaxTree
pub mod Tree
pub mod Places
pub mod Unplaced
