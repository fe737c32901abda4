pub mod FedWays
pub mod HandWays
pub mod WordWays
