pub mod Asked
pub mod Commands
pub mod Printed
pub mod Runs
pub mod Watches
