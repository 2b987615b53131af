pub mod Mnemonics
pub mod Canonical
pub mod Octets
pub mod Mirror
