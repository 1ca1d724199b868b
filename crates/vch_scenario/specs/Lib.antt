pub mod Reading
pub mod Calls
pub mod Whole
pub mod Faults
pub mod WorkedTexts
pub mod FaultTexts
