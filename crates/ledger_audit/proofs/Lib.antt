pub mod Names
pub mod RunLaws
pub mod ShiftLaws
pub mod SearchLaws
pub mod ChoiceLaws
pub mod Greedy
pub mod OneVerdict
pub mod WorkedRows
