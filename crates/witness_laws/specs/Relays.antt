-- The order in which a relay reads lines, against that in which the two ends send them (this profile).
use Rattle.std.specs.Prelude.{◌≡◌, ℕ, true, false, List, [], ◌∷◌, ◌++◌, Option, Some, slice_get}
use Rattle.dme_line.specs.declared.tags.Tag.{Tag}
use Rattle.witness.specs.Asking.{Line as Heard, Answers, Signal, client_line, server_line}
use Rattle.witness.specs.Dialogues.{silence}
use Rattle.witness.specs.Rules.{reported_of}
use Rattle.witness.specs.declared.lines.Reported.{Reported}
use Rattle.witness_laws.specs.Claims.{in_turn, ClaimsNoMore}
use Rattle.fixed_um.specs.declared.frames.Frame.{Frame}
use Rattle.witness_laws.specs.Contacts.{HadFrame, HadTool, contact_frame, contact_tool}
use Rattle.witness_laws.specs.Orders.{IsCausal, Line, Up, Down, said_all}
use Rattle.witness_laws.specs.Machines.{Entry, Message, lines, IsPast}

-- replies are read later than they were sent, after more lines of the client; those of each end stay in their order
pub data IsReadLater (sent : List Line) : List Line → Type 0 where
  as_sent : IsReadLater sent sent
  later : (before after : List Line) (up down : List ℕ) → IsReadLater sent (before ++ Down down ∷ Up up ∷ after)
      → IsReadLater sent (before ++ Up up ∷ Down down ∷ after)

-- so are those of a server that answers only lines that it has read, and no tag is used while in use, in either order
pub record IsRelayed (sent read : List Line) : Type 0 where
  pub order : IsReadLater sent read
  pub causal : IsCausal (silence true) sent
  pub sent_once : (said_all (silence true) sent).crossed ≡ false
  pub read_once : (said_all (silence true) read).crossed ≡ false

-- lines as they read, put before older ones, the newest first
abbrev pub onto : List Line → List Heard → List Heard
onto [] older = older
onto (Up line ∷ sent) older = onto sent (client_line line ∷ older)
onto (Down line ∷ sent) older = onto sent (server_line line ∷ older)

-- a line of the server in a history brings a report, and this is so of it
pub record IsBroughtBy (Had : Option (Tag × Signal) → List Entry → Type 0) (h : List Entry) (r : Reported) : Type 0 where
  pub line : List ℕ
  pub what : Option (Tag × Signal)
  pub before : List Entry
  pub past : IsPast h (Message (Answers line what) ∷ before)
  pub at : ℕ
  pub brought : slice_get (reported_of true line what (lines before)) at ≡ Some r
  pub had : Had what before

-- the report in the same place of a witness that reads each line as it is sent, which claims no less, is so
pub record IsSoOf (Had : Option (Tag × Signal) → List Entry → Type 0) (sent : List Line) (h : List Entry) (i : ℕ) (r : Reported) : Type 0 where
  pub report : Reported
  pub same_place : slice_get (in_turn (said_all (silence true) sent).reported) i ≡ Some report
  pub claims : ClaimsNoMore r report
  pub by : IsBroughtBy Had h report

-- where it names the tool or the frame of a contact, that is so
pub record KnowsSo (sent : List Line) (h : List Entry) (i : ℕ) (r : Reported) : Type 0 where
  pub tool : (tool : List ℕ) → contact_tool r ≡ Some tool → IsSoOf (λ what before. HadTool what before tool) sent h i r
  pub frame : (frame : Frame) → contact_frame r ≡ Some frame → IsSoOf (λ what before. HadFrame what before frame) sent h i r
