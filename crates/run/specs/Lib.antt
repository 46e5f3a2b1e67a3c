pub mod Admission
pub mod Stages
pub mod Serving
pub mod Transcripts
