-- The names of the crates below, and of the definitions of this one, that its proofs use.
pub use Rattle.deviations.specs.Rows.{feature_places, IsRow, missing_places, open_places, Place, places_from, places_of, Row}
pub use Rattle.dmis_program.specs.Programs.{IsFeature, IsTouch}
pub use Rattle.std.proofs.Common.{[], ◌%◌, ◌++◌, ◌+◌, ◌∷◌, ◌≡◌, ◌≤◌, decimal, length, List, ℕ}
pub use Rattle.std.specs.List.{AllByRecursion, AllZip}
