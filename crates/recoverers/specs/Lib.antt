pub mod Replies
pub mod Rounds
pub mod Beginnings
