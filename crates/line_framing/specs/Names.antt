-- The names of other files that contracts of this crate cite.
pub use Rattle.std.specs.Int.{trailing_zeros, w64}
pub use Rattle.line_framing.specs.Buffer.{HasFront, HasVerdict}
pub use Rattle.line_framing.specs.Calls.{Call, IsAccounted, NoLineLeft, after_calls, bytes_fed, handed_out}
pub use Rattle.line_framing.specs.Content.{AreLines, IsLine, line_bytes}
pub use Rattle.line_framing.specs.Framing.{IsFeedRefused, IsLineDue, IsLineRefused, IsRefusedLeft, IsSound, after_next, fed, no_bytes}
pub use Rattle.line_framing.specs.Next.{Front, IsFound, Next, content_len, next_of}
pub use Rattle.line_framing.specs.Stream.{AreSame, IsRead, IsStream, TakesFirst, fault_in}
pub use Rattle.line_framing.specs.declared.faults.FramingFault.{FramingFault}
