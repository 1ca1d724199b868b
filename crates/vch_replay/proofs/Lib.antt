pub mod Joined
pub mod Ends
pub mod Grammars
pub mod Certified
pub mod Loading
pub mod Played
pub mod TwoTexts
