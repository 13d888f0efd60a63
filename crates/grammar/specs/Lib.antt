pub mod Rules
pub mod Grammar
pub mod Reading
pub mod Sentences
