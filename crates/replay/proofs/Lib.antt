pub mod TranscriptSteps
