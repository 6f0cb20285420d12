-- A subscriber.
pub mod Subscriber
