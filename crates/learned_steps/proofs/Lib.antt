-- The lemmas.
pub mod AwaitedNumbers
pub mod LearnedRuns
pub mod LearnedGoes
pub mod DeepEnough
pub mod ShapesGo
mod Examples
