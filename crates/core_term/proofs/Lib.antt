-- The lemmas.
pub mod NameLists
pub mod Rows
pub mod FreeRows
pub mod Sides
pub mod Agreements
pub mod Splits
pub mod Taking
pub mod Gathering
pub mod Marks
pub mod Placing
pub mod Causes
pub mod Unbroken
pub mod OnceEach
pub mod Without
pub mod FreeRuns
pub mod TypedTerms
pub mod Parameters
pub mod ParamTypes
pub mod StarForms
pub mod RunsInTurn
pub mod ValueEntries
pub mod GrowingRuns
pub mod Monotone
pub mod TypedRuns
pub mod WholeRuns
pub mod InertFunctions
pub mod InertRuns
pub mod Levels
pub mod Renamings
pub mod BoundOnce
pub mod Retyping
pub mod RenamedPrograms
mod LawExamples
mod Examples
mod ProgramExamples
