pub mod UnitsCompiled
pub mod SystemsCompiled
pub mod TextsCompiled
pub mod ComponentsCompiled
pub mod LaidOut
pub mod ProgramsCompiled
