-- What the contracts cite.
pub mod Names
pub mod BunchTree
pub mod Facts
pub mod Table
pub mod NameOrder
pub mod Orders
pub mod Laws
