-- The lemmas.
pub mod LearnedStepGoes
pub mod StepsFinished
pub mod SpreadDepths
pub mod AsksKept
pub mod StepLearned
mod Examples
