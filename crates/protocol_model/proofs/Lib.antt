-- The proof of the headline, in the order in which it is read.
pub mod Names
pub mod HeardTables
pub mod each_event
pub mod invariant
pub mod plan
pub mod quiet_run
pub mod table
pub mod undisturbed_run
pub mod whole_run
pub mod worked_rows
pub mod written_lines
-- The programs of the examples are what their texts mean.
pub mod ScriptTexts
