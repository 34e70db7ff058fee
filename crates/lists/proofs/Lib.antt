-- The laws of lists, for the crates above.
pub mod Sums
pub mod Members
pub mod Places
pub mod Runs
pub mod Orders
pub mod Tests
pub mod Owners
pub mod Parts
pub mod Products
pub mod Struck
pub mod Searches
pub mod Strikes
pub mod Linked
pub mod Tables
