-- The lemmas.
pub mod Enough
pub mod Judging
pub mod TokenKinds
pub mod NameRuns
pub mod HeaderRuns
pub mod DeclarationRuns
pub mod PartNumbers
pub mod Splits
pub mod NamesOfParts
pub mod NamesOfTrees
mod TreeExamples
