pub mod LinesReported
pub mod Numbers
pub mod ProcessesReported
pub mod MonitorsReported
pub mod Initial
pub mod ChainsReported
pub mod StatesReported
