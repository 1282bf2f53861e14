pub mod LetteredCases
pub mod SerialCases
pub mod PingCases
pub mod PaddingCases
