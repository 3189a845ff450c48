-- A run over the file of its record, and what is left of that once the program is killed (this profile).
use Rattle.std.specs.Prelude.{◌≡◌, ℕ, true, List, ◌++◌, length, Option}
use Rattle.client_core.specs.Clients.{may_connect}
use Rattle.dmis_program.specs.Meaning.{Meaning}
use Rattle.protocol_model.specs.Ends.{new_client_end, end_connected}
use Rattle.record_text.specs.Beginnings.{BeginsWith}
use Rattle.record_text.specs.Growths.{begun}
use Rattle.record_text.specs.declared.opening.Beginning.{Beginning}
use Rattle.record_text.specs.Recordings.{Pair}
use Rattle.run_session.specs.Records.{Outside}

-- a run of a program on a part begins, over a file that had these bytes: what was found in it is what `begin_record` gives; the client is
-- new, holds the features that were found, and has come to the connection of that number; and the record has the text that was found
pub record IsBegun (p : Meaning) (part : Option (List ℕ)) (bytes : List ℕ) (b : Beginning) (window : ℕ) (first : Pair) : Type 0 where
  pub begins : BeginsWith part p.features bytes b
  pub can : may_connect b.connection (new_client_end p b.features window).client ≡ true
  pub start : first ≡ record {
    end = end_connected b.connection (new_client_end p b.features window);
    recording = begun b.connection 0 (length b.features) b.text.items;
  }

-- what is left of a file once the program is killed: all that is on the device, and some of the rest
pub record IsLeft (o : Outside) (left : List ℕ) : Type 0 where
  pub more : List ℕ
  pub safe : o.safe ++ more ≡ left
  pub rest : List ℕ
  pub file : left ++ rest ≡ o.file
