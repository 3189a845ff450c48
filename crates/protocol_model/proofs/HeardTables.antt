-- Definitions that only proofs use.
use Rattle.protocol_model.proofs.Names.{◌-◌, Cause, heard_on, if◌then◌else◌, List, Ok, Result, Table, Tag, tag_is, Wanted}
use Rattle.dme_line.specs.declared.tags.Tag.TheVariants.{Event}
use Rattle.protocol_model.specs.Replies.{Mark}

-- the table after a reply, or why it can be none; what comes on the event tag number 0 changes nothing
abbrev pub heard : List Wanted → Table → Tag → Mark → Result Table Cause
heard ws b t m = if tag_is t (Event 0) then Ok b else heard_on ws b t m
