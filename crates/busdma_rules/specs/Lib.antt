pub mod Iommu
pub mod Lending
pub mod Memory
pub mod Rings
pub mod Segments
pub mod Syncs
pub mod Tags
