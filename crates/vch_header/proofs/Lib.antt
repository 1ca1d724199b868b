pub mod Numbers
pub mod Decoding
pub mod MessageWords
pub mod HeaderDigits
pub mod Translations
pub mod Lines
pub mod CallerLemmas
