pub mod Compiles
pub mod CompiledSystems
pub mod CompiledTexts
pub mod CompiledComponents
pub mod LaidComponents
pub mod CompiledPrograms
