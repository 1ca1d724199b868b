pub mod refusals
pub mod giving
pub mod questions
