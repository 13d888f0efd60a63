pub mod Frames
pub mod Reading
pub mod Front
pub mod FrameReader
pub mod Reads
pub mod Inside
pub mod Laws
