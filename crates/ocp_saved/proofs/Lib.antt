pub mod Items
pub mod Repeated
pub mod Lengths
pub mod InOrder
pub mod Machines
pub mod ReadBack
pub mod Tables
pub mod Canonical
