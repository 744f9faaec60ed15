pub mod Replays
pub mod Chronicles
