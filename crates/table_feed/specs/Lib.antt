-- Definitions that the contracts cite.
pub mod RowType
pub mod Tables
pub mod Fields
pub mod Rows
pub mod Mixing
pub mod Room
pub mod Written
pub mod Laws
