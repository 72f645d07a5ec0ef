pub mod Iommu
pub mod Lending
pub mod Memory
pub mod Segments
pub mod Tags
