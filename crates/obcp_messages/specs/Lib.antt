pub mod Fields
pub mod Request
pub mod Reading
pub mod Mirror
pub mod Rows
pub mod Report
