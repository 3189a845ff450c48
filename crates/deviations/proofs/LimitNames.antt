-- The names of the crates below, and of the definitions of this one, that its proofs use.
pub use Rattle.deviations.specs.Limits.{common_range, limits_from, limits_of, own_range}
pub use Rattle.std.proofs.Common.{◌+◌, ◌≡◌, ◌≤◌, length, sym}
pub use Rattle.std.specs.Str.Lines.{lines}
pub use Rattle.tool_rack.proofs.Lengths.{length_of-is}
