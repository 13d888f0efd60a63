-- Lemmas, each file named for what it is about.
pub mod OneAnswer
