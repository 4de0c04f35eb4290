pub mod FaultLaws
pub mod KeptLaws
pub mod SoundLaws
