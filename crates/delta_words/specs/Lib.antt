pub mod Numbers
pub mod Commands
pub mod CommandLine
pub mod Line
pub mod Gives
pub mod CommandTask
pub mod ClapCommand
