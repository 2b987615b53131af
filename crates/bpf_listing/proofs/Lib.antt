pub mod Listings
pub mod Written
mod Total
