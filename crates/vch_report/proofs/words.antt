pub mod Belows
pub mod Lower
pub mod LineWords
pub mod ChainWords
pub mod CodeLines
pub mod Chains
pub mod Begun
