-- What the contracts cite.
pub mod StateTree
pub mod StateMeaning
pub mod Apart
pub mod StateTyping
pub mod Settled
pub mod PlainState
pub mod PlaceTree
pub mod Stands
pub mod Rest
pub mod MachineView
pub mod Laws
