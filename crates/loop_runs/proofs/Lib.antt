pub mod Worlds
pub mod FedPorts
pub mod Forgetting
pub mod Sampling
pub mod Steps
pub mod Runs
mod Alone
mod PlantLemmas
