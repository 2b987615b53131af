pub mod Octets
pub mod Hexadecimals
pub mod NumberLists
pub mod Numbers
pub mod WordLemmas
pub mod Cutting
pub mod Taking
