pub mod JointParts
pub mod Joints
pub mod Orders
pub mod Parts
pub mod Seen
pub mod Tables
