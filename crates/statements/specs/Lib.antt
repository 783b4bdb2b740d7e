pub mod Learns
