pub mod Dispositions
pub mod Fields
pub mod Headers
pub mod Carrying
pub mod Messages
pub mod Translating
