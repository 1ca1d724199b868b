pub mod Canons
pub mod Texts
pub mod OneAnswer
pub mod Writables
pub mod TextAnswers
