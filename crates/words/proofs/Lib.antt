pub mod SpanSteps
pub mod DigitSteps
pub mod LineLaws
pub mod NumberBack
pub mod NameSteps
