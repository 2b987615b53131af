pub mod Number
pub mod Tokens
pub mod Fields
pub mod Grammar
pub mod Lines
pub mod Judged
pub mod Listings
pub mod Mirror
