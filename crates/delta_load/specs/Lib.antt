-- Definitions that the contracts cite.
pub mod Load
pub mod LoadLaws
pub mod Counting
pub mod Summary
pub mod Stopping
pub mod Standing
pub mod LoadCore
pub mod LoadOutput
pub mod LoadText
pub mod ProgramLaws
