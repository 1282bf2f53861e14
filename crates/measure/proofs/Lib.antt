pub mod MeasuredCallsLaws
