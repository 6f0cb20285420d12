-- A broker.
pub mod Broker
pub mod Inside
pub mod Turning
