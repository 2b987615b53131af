pub mod Inputs
pub mod OneOutput
pub mod OneImage
