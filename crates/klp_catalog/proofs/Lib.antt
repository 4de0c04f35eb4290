pub mod AssembleLemmas
pub mod CatalogLemmas
pub mod CountLemmas
pub mod NumberLemmas
pub mod PlaceLemmas
pub mod RunLemmas
pub mod SiteLemmas
pub mod PatchLemmas
