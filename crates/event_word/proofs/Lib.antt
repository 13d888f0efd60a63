pub mod Standing
pub mod Walks
pub mod Words
pub mod Coming
pub mod Spelling
pub mod Reaches
pub mod Canons
pub mod Examples
