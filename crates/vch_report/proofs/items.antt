pub mod MadeLines
pub mod ReplyTold
pub mod ReplyLines
pub mod ItemTold
pub mod ItemLines
pub mod Later
pub mod ItemsRead
