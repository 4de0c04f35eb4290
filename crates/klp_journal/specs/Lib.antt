pub mod Words
pub mod Decoded
pub mod Stored
pub mod Small
pub mod Journal
pub mod AcceptedEvents
