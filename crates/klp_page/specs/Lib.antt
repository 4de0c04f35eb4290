pub mod Faithful
pub mod Over
pub mod Pages
pub mod Rows
pub mod Text
pub mod Views
