mod RowLemmas
mod Spelled
mod Complete
mod Bytes
mod Known
mod Decode
pub mod Only
mod FirstFault
pub mod Decoded
mod Sound
mod Total
mod TwoSlots
mod Images
