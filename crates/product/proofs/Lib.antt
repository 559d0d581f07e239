pub mod Products
pub mod Sized
pub mod Pairs
pub mod PairWorth
pub mod JointRow
