pub mod Files
pub mod Kernel
pub mod Symbols
pub mod Traceable
pub mod Variables
