-- The lemmas.
pub mod AskedInTurn
pub mod AskedForms
pub mod AskedCalls
pub mod AskedFrames
