pub mod FieldCuts
pub mod Growing
pub mod Lengths
pub mod LineLaws
pub mod SetupRuns
pub mod SpacingLaws
pub mod MachineTexts
