pub mod Weights
pub mod MeasuredCalls
