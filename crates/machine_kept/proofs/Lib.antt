-- The lemmas.
pub mod Marks
pub mod PaddedLists
pub mod KeptAwaited
pub mod SimplerSince
pub mod SinceSteps
pub mod TidySteps
