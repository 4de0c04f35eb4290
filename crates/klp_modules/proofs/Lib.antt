pub mod NameLaws
pub mod TableLaws
pub mod SiteLaws
