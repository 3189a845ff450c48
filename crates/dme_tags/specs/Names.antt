-- The names of other files that contracts of this crate cite.
pub use Rattle.std.specs.List.{list_any}
pub use Rattle.dme_line.specs.Kinds.{IsTagOf, is_event_kind}
pub use Rattle.dme_line.specs.Tags.{IsNumbered, is_event_tag}
pub use Rattle.dme_line.specs.declared.tags.Tag.TheVariants.{Event, Std}
pub use Rattle.protocol_model.specs.Client.{Client, first_free, heard_on, held_now, next_number}
pub use Rattle.protocol_model.specs.Ends.{held_kind}
pub use Rattle.protocol_model.specs.Language.{AreAtFront, IsRepliesFront, marks_of}
pub use Rattle.protocol_model.specs.Open.{Effect, asks_data, asks_homed, count_open, fits, heard_in, is_asking, is_failed, is_held, judged, settled}
pub use Rattle.protocol_model.specs.Replies.{Mark, tag_is}
pub use Rattle.protocol_model.specs.declared.states.Cause.{Cause}
pub use Rattle.dme_tags.specs.Answers.{Draws, IsRefused, Refuses, cause_of, effect_heard, effect_of, failure_of, is_counted}
pub use Rattle.dme_tags.specs.Calls.{Call, taken_under}
pub use Rattle.dme_tags.specs.Data.{AreFit, has_its_data, may_be_given}
pub use Rattle.dme_tags.specs.Endings.{IsEnding}
pub use Rattle.dme_tags.specs.Limits.{last_number}
pub use Rattle.dme_tags.specs.Opened.{ArePassedOver, IsNext, IsSpentFor, OpenValue, heard, held_beside, kind_under, next_tag, none_open, number_of, tagged, with_drawn}
pub use Rattle.dme_tags.specs.Places.{IsFound, ahead_of, all_failed}
pub use Rattle.dme_tags.specs.Sorts.{AreSpent, is_event_sort, numbered}
pub use Rattle.dme_tags.specs.Standing.{AwaitsData, HasData, IsUnread}
pub use Rattle.dme_tags.specs.Tables.{IsTableOf, table_behind}
