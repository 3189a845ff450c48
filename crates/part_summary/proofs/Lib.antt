pub mod Touches
pub mod Tallies
pub mod Placing
pub mod Reasons
pub mod Reaches
