pub mod Shown
pub mod PatchLine
