pub mod BoardSteps
