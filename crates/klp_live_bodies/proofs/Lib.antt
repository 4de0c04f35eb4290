pub mod Beginnings
pub mod Runs
pub mod ReceiptValue
