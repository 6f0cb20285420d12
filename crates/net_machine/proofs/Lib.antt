-- lemmas on the network that code steps
pub mod Lists
pub mod Numbered
pub mod Seats
pub mod Moved
pub mod Acts
pub mod Sends
pub mod Arrivals
pub mod Joins
pub mod Crashes
pub mod Runs
pub mod Stops
pub mod Happenings
pub mod Reported
pub mod Started
