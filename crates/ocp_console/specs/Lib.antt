pub mod Texts
pub mod Answering
pub mod Crew
pub mod Script
pub mod Mirror
