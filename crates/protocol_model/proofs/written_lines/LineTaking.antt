-- A line that is at the start of bytes is the first of the lines that they carry, and reads as what was written.
use Rattle.protocol_model.proofs.Names.{[], ◌&&◌, ◌++◌, ◌∙◌, ◌∷◌, ◌≡◌, ap, Bool, Cause, Client, client_hears, client_read, command_bytes}
use Rattle.protocol_model.proofs.Names.{command_text, command_texts, cond, Datum, Err, false, faulted, fits, FramingFault, given, given_for}
use Rattle.protocol_model.proofs.Names.{given_homed, given_point, given_under, Heard, heard_event, heard_in, heard_on, heard_standard, held_kind}
use Rattle.protocol_model.proofs.Names.{held_under, is_failed, judged, judged_given, Kind, Line, line_read, List, mark_of, next_of, no_fault, None}
use Rattle.protocol_model.proofs.Names.{not, Ok, OpenCommand, Option, put_before, refl, Refused, Reply, reply_bytes, reply_text, reply_texts}
use Rattle.protocol_model.proofs.Names.{response_of, response_read, settled, Some, Stage, State, Std, sym, Tag, tag_is, tag_of, takes_first}
use Rattle.protocol_model.proofs.Names.{TakesFirst, true, Wanted, written_datum, ℕ}
use Rattle.dme_line.specs.declared.tags.Tag.TheVariants.{Event}
use Rattle.protocol_model.specs.Replies.{Mark}
use Rattle.protocol_model.proofs.table.Basics.{if_cases, if_true, if_false, and_false}
use Rattle.protocol_model.proofs.written_lines.Writable.{AreWritable, command_lines, IsWritableReply, AreReplies, reply_lines, response_for}
use Rattle.protocol_model.proofs.written_lines.Writable.{IsWritableDatum, reply_read, point_read, homed_read}

-- ---- lines at the front

abbrev head_or : List (List ℕ) → List ℕ → List ℕ
head_or [] d = d
head_or (x ∷ xs) d = x

abbrev tail_of : List (List ℕ) → List (List ℕ)
tail_of [] = []
tail_of (x ∷ xs) = xs

-- a line is that of the first command, and the bytes left, with those to come, are those of the others
pub record NextCommand (ls : List Line) (line rest more : List ℕ) : Type 0 where
  pub first : Line
  pub others : List Line
  pub lines_are : ls ≡ first ∷ others
  pub text : line ≡ command_text first
  pub behind : rest ++ more ≡ command_bytes others

command_by : (ls : List Line) (line rest more : List ℕ) → TakesFirst (command_texts ls) line rest more → NextCommand ls line rest more
command_by [] line rest more t = let none : [] ≡ line ∷ t.others = t.first in absurd (cc)
command_by (l ∷ ls) line rest more t = record {
  first = l;
  others = ls;
  lines_are = refl;
  text = sym (ap (λ (x : List (List ℕ)). head_or x line) t.first);
  behind = t.behind ∙ ap (λ (x : List (List ℕ)). Rattle.line_framing.specs.Content.line_bytes x) (sym (ap tail_of t.first));
}

-- such is each line that is found in a prefix of the bytes of commands that can be written
pub next_command : (ls : List Line) (read more line rest : List ℕ) → AreWritable ls → read ++ more ≡ command_bytes ls
    → next_of read ≡ Ok (Some (line, rest)) → NextCommand ls line rest more
next_command ls read more line rest w e next = command_by ls line rest more
    (takes_first read more (command_texts ls) line rest (command_lines ls w) e next)

-- a line is that of the first reply, and the bytes left, with those to come, are those of the others
pub record NextReply (rs : List Reply) (line rest more : List ℕ) : Type 0 where
  pub first : Reply
  pub others : List Reply
  pub replies_are : rs ≡ first ∷ others
  pub text : line ≡ reply_text first
  pub behind : rest ++ more ≡ reply_bytes others

reply_by : (rs : List Reply) (line rest more : List ℕ) → TakesFirst (reply_texts rs) line rest more → NextReply rs line rest more
reply_by [] line rest more t = let none : [] ≡ line ∷ t.others = t.first in absurd (cc)
reply_by (r ∷ rs) line rest more t = record {
  first = r;
  others = rs;
  replies_are = refl;
  text = sym (ap (λ (x : List (List ℕ)). head_or x line) t.first);
  behind = t.behind ∙ ap (λ (x : List (List ℕ)). Rattle.line_framing.specs.Content.line_bytes x) (sym (ap tail_of t.first));
}

-- such is each line that is found in a prefix of the bytes of replies that can be written
pub next_reply : (rs : List Reply) (read more line rest : List ℕ) → AreReplies rs → read ++ more ≡ reply_bytes rs
    → next_of read ≡ Ok (Some (line, rest)) → NextReply rs line rest more
next_reply rs read more line rest w e next = reply_by rs line rest more
    (takes_first read more (reply_texts rs) line rest (reply_lines rs w) e next)

-- in a prefix of the bytes of replies that can be written no framing fault is found
pub no_reply_fault : (rs : List Reply) (read more : List ℕ) (why : FramingFault) → AreReplies rs → read ++ more ≡ reply_bytes rs
    → next_of read ≡ Err why → ⊥
no_reply_fault rs read more why w e next = no_fault read more (reply_texts rs) why (reply_lines rs w) e next

-- ---- a data line

-- under a tag that is not held, any mark is refused
unknown_in : (front : Bool) (hs : List OpenCommand) (t : Tag) (m : Mark) → held_kind t hs ≡ None
    → heard_in front hs t m ≡ Err Cause.UnknownTag
unknown_in front [] t m e = refl
unknown_in front (h ∷ hs) t m e = if_cases {A = Option Kind} (tag_is h.tag t) (Some h.kind) (held_kind t hs) None
    (heard_in front (h ∷ hs) t m ≡ Err Cause.UnknownTag) e
    (λ same found. absurd (cc))
    (λ other rest. if_false {A = Heard} (tag_is h.tag t) (settled h hs (judged front h.kind h.stage m))
    (put_before h (heard_in (front && is_failed h.stage) hs t m)) other
    ∙ ap (put_before h) (unknown_in (front && is_failed h.stage) hs t m rest))

-- data that the command under their tag does not ask for are out of order
data_out : (b : Bool) (k : Kind) (s : Stage) (d : Datum) → fits k d ≡ false → judged_given (b && fits k d) s d ≡ Refused Cause.OutOfOrder
data_out b k s d e = ap (λ (x : Bool). judged_given (b && x) s d) e ∙ ap (λ (x : Bool). judged_given x s d) (and_false b)

out_of_order_in : (front : Bool) (hs : List OpenCommand) (t : Tag) (k : Kind) (d : Datum) → held_kind t hs ≡ Some k → fits k d ≡ false
    → heard_in front hs t (Mark.Given d) ≡ Err Cause.OutOfOrder
out_of_order_in front [] t k d e misfit = absurd (cc)
out_of_order_in front (h ∷ hs) t k d e misfit = if_cases {A = Option Kind} (tag_is h.tag t) (Some h.kind) (held_kind t hs) (Some k)
    (heard_in front (h ∷ hs) t (Mark.Given d) ≡ Err Cause.OutOfOrder) e
    (λ same found.
    let kind_is : h.kind ≡ k = cc in
    if_true {A = Heard} (tag_is h.tag t) (settled h hs (judged front h.kind h.stage (Mark.Given d)))
    (put_before h (heard_in (front && is_failed h.stage) hs t (Mark.Given d))) same
    ∙ ap (settled h hs) (data_out front h.kind h.stage d (ap (λ (x : Kind). fits x d) kind_is ∙ misfit)))
    (λ other rest. if_false {A = Heard} (tag_is h.tag t) (settled h hs (judged front h.kind h.stage (Mark.Given d)))
    (put_before h (heard_in (front && is_failed h.stage) hs t (Mark.Given d))) other
    ∙ ap (put_before h) (out_of_order_in (front && is_failed h.stage) hs t k d rest misfit))

unknown_on : (ws : List Wanted) (c : Client) (t : Tag) (m : Mark) → held_under t c ≡ None → heard_on ws c.table t m ≡ Err Cause.UnknownTag
unknown_on ws c (Std n) m e = ap (heard_standard ws c.table) (unknown_in (not c.table.tally.failed) c.table.standard (Std n) m e)
unknown_on ws c (Event n) m e = ap (heard_event c.table) (unknown_in true c.table.event (Event n) m e)

out_of_order_on : (ws : List Wanted) (c : Client) (t : Tag) (k : Kind) (d : Datum) → held_under t c ≡ Some k → fits k d ≡ false
    → heard_on ws c.table t (Mark.Given d) ≡ Err Cause.OutOfOrder
out_of_order_on ws c (Std n) k d e misfit = ap (heard_standard ws c.table)
    (out_of_order_in (not c.table.tally.failed) c.table.standard (Std n) k d e misfit)
out_of_order_on ws c (Event n) k d e misfit = ap (heard_event c.table) (out_of_order_in true c.table.event (Event n) k d e misfit)

-- a client that reads this mark is not Faulted by it
abbrev pub HasPlace : Client → Tag → Mark → Type 0
HasPlace c t m = (client_read c t m).state ≡ State.Faulted → ⊥

-- expected data are heard as they were said, whatever is held under their tag
pub given_is : (c : Client) (t : Tag) (d : Datum) → IsWritableDatum d
    → HasPlace c t (Mark.Given d) → given c t (written_datum d) ≡ client_read c t (Mark.Given d)
given_is c t d w place = go (tag_is t (Event 0)) refl (held_under t c) refl
  where
    refused : (e : Datum) (k : Kind) → tag_is t (Event 0) ≡ false → held_under t c ≡ Some k → fits k e ≡ false
        → client_read c t (Mark.Given e) ≡ faulted Cause.OutOfOrder c
    refused e k is held misfit = if_false {A = Client} (tag_is t (Event 0)) c
        (client_hears c t (Mark.Given e) (heard_on c.program.features c.table t (Mark.Given e))) is
        ∙ ap (client_hears c t (Mark.Given e)) (out_of_order_on c.program.features c t k e held misfit)

    out : (e : Datum) (k : Kind) → tag_is t (Event 0) ≡ false → held_under t c ≡ Some k → fits k e ≡ false → HasPlace c t (Mark.Given e) → ⊥
    out e k is held misfit here = here (ap (λ (x : Client). x.state) (refused e k is held misfit))

    asked : (e : Datum) → IsWritableDatum e → HasPlace c t (Mark.Given e) → (k : Kind) → tag_is t (Event 0) ≡ false
        → held_under t c ≡ Some k → given_for c t (written_datum e) k ≡ client_read c t (Mark.Given e)
    asked (Datum.Point p) wire here Kind.PtMeas is held = ap (given_point c t) (point_read p wire)
    asked (Datum.Homed homed) wire here Kind.PtMeas is held = absurd (out (Datum.Homed homed) Kind.PtMeas is held refl here)
    asked (Datum.Point p) wire here Kind.IsHomed is held = absurd (out (Datum.Point p) Kind.IsHomed is held refl here)
    asked (Datum.Homed homed) wire here Kind.IsHomed is held = ap (given_homed c t) (homed_read homed)
    asked e wire here Kind.StartSession is held = sym (refused e Kind.StartSession is held refl)
    asked e wire here Kind.EndSession is held = sym (refused e Kind.EndSession is held refl)
    asked e wire here Kind.ClearAllErrors is held = sym (refused e Kind.ClearAllErrors is held refl)
    asked e wire here Kind.Home is held = sym (refused e Kind.Home is held refl)
    asked e wire here Kind.OnPtMeasReport is held = sym (refused e Kind.OnPtMeasReport is held refl)
    asked e wire here Kind.GoTo is held = sym (refused e Kind.GoTo is held refl)
    asked e wire here Kind.ChangeTool is held = sym (refused e Kind.ChangeTool is held refl)
    asked e wire here Kind.SetCsyTransformation is held = sym (refused e Kind.SetCsyTransformation is held refl)
    asked e wire here Kind.SetCoordSystem is held = sym (refused e Kind.SetCoordSystem is held refl)
    asked e wire here Kind.AbortE is held = sym (refused e Kind.AbortE is held refl)

    go : (zero_tag : Bool) → tag_is t (Event 0) ≡ zero_tag → (held : Option Kind) → held_under t c ≡ held
        → cond (tag_is t (Event 0)) c (given_under c t (written_datum d) (held_under t c)) ≡ client_read c t (Mark.Given d)
    go true is k held = if_true {A = Client} _ _ _ is ∙ sym (if_true {A = Client} _ _ _ is)
    go false is None held = if_false {A = Client} _ _ _ is ∙ (ap (given_under c t (written_datum d)) held
        ∙ (ap (client_hears c t (Mark.Given d)) (sym (unknown_on c.program.features c t (Mark.Given d) held))
        ∙ sym (if_false {A = Client} _ _ _ is)))
    go false is (Some k) held = if_false {A = Client} _ _ _ is ∙ (ap (given_under c t (written_datum d)) held
        ∙ asked d w place k is held)

-- an expected reply that can be written is heard as it was said
pub reply_heard : (c : Client) (r : Reply) → IsWritableReply r
    → HasPlace c (tag_of r) (mark_of r) → line_read c (response_of (reply_text r)) ≡ client_read c (tag_of r) (mark_of r)
reply_heard c r w place = ap (line_read c) (reply_read r w) ∙ go r w place
  where
    go : (x : Reply) → IsWritableReply x → HasPlace c (tag_of x) (mark_of x)
        → response_read c (response_for x).tag (response_for x).mark ≡ client_read c (tag_of x) (mark_of x)
    go (Reply.Ack t) h here = refl
    go (Reply.Given t d) h here = given_is c t d h.1 here
    go (Reply.Done t) h here = refl
    go (Reply.Error t code name) h here = refl
