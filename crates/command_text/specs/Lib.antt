pub mod LineState
pub mod Reading
pub mod Reads
pub mod Fault
pub mod Conversion
pub mod Loop
pub mod Sending
pub mod Lines
