pub mod ByteWays
pub mod RunWays
pub mod FeedWays
