pub mod Blamed
pub mod Printed
