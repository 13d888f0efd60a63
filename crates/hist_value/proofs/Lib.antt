-- The lemmas.
mod Examples
pub mod ExprForms
pub mod FreeJudgments
pub mod FreeValues
pub mod ItemsBefore
pub mod Judgments
pub mod ListForms
pub mod Lists
pub mod PartsJudged
pub mod Renamings
pub mod Rows
pub mod TypedForms
pub mod TypedValues
pub mod ValueForms
pub mod WholeLaws
