pub mod LetteredCasesLaws
pub mod SerialCasesLaws
pub mod PingCasesLaws
pub mod PaddingCasesLaws
