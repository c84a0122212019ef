pub mod RegisterSteps
pub mod PrintSteps
pub mod ReadBack
pub mod WriteBack
