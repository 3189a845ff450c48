pub mod Breaking
pub mod Courses
pub mod Exits
pub mod Keeping
pub mod Leading
pub mod Relayed
pub mod Served
pub mod Working
