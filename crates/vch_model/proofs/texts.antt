pub mod TextsTwo
pub mod TextsMore
