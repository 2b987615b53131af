pub mod Words
pub mod Grammar
pub mod Reading
pub mod Lines
