-- A reader has to believe `MeshSearch` and `Alike`.
pub mod MeshSearch
pub mod Alike
