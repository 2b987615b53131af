pub mod Seats
pub mod Going
pub mod Taking
pub mod Closing
pub mod History
pub mod Mirror
