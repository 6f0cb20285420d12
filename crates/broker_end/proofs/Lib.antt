pub mod Packets
pub mod LastSessions
pub mod Shown
pub mod Turnings
