-- Words of the commands that meet the network.
pub mod Following
pub mod Held
pub mod Lines
pub mod Listening
pub mod Loading
pub mod Online
pub mod Outcomes
pub mod Packets
pub mod Rounds
pub mod Serving
pub mod Statuses
pub mod Submission
pub mod Submitting
pub mod Telling
