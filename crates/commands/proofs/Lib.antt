-- Lemmas, each file named for what it is about.
mod Gathered
mod Evaluated
pub mod Ran
pub mod Takings
pub mod Behind
pub mod Leaving
pub mod SaveTexts
pub mod Places
pub mod Ends
pub mod Faults
pub mod DerivedEnds
pub mod ReadOff
pub mod BoundTexts
pub mod SentLines
pub mod OneBound
mod BoundExamples
pub mod OnTheWord
mod WordExamples
pub mod ReadTables
pub mod WholeTables
pub mod WordSizes
pub mod Causes
pub mod RunWords
pub mod Programs
pub mod OneFeed
mod FeedExamples
