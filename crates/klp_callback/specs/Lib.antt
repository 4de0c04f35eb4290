pub mod LentCallback
