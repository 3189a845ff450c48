-- What a plan asks of its program, what is selected where in it, what it measures and where it continues.
pub mod Blocks
pub mod Fitting
pub mod Marks
pub mod PassedOver
pub mod PlanLaws
pub mod Splitting
