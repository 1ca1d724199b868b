pub mod FromStart
pub mod NewParts
