pub mod Characters
pub mod Numbers
pub mod Pieces
pub mod Measures
pub mod Tokens
pub mod Shapes
pub mod Division
pub mod Laws
