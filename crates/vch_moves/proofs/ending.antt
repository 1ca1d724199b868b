pub mod Ends
pub mod Refused
pub mod Replies
pub mod Created
pub mod Received
pub mod Sent
