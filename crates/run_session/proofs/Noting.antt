-- The commands that are written, by their lines.
use Rattle.run_session.proofs.Names.{[], ◌&&◌, ◌++◌, ◌+◌, ◌-◌, ◌<◌, ◌∙◌, ◌∷◌, ◌≡◌, ◌≤◌, ◌⊎◌, ap, append_assoc, arith, Bool, ClientEnd, cond, drop, drop-append_seam, false}
use Rattle.run_session.proofs.Names.{false≢true, get_or, is_some, length, List, None, not, OnOk, possible, Option, refl, Result, Some, subst, suc, sym, true, zero, ℕ, Abort, inl, inr, Send}
use Rattle.client_core.specs.Clients.{is_faulted}
use Rattle.client_core.specs.Refusals.{IsSendRefused}
use Rattle.client_core.specs.declared.faults.ClientFault.{ClientFault}
use Rattle.client_core.specs.Tables.{planned_command}
use Rattle.dme_line.specs.Kinds.{kind_name, kind_of}
use Rattle.dme_line.specs.Responses.{IsResponseLine}
use Rattle.dme_line.specs.Tags.{IsTag, written_tag}
use Rattle.dme_line.specs.Written.{written_arguments, written_command}
use Rattle.dme_line.specs.declared.commands.Command.{Command}
use Rattle.dme_line.specs.declared.commands.Command.TheVariants.{AbortE}
use Rattle.dme_line.specs.declared.commands.Kind.{Kind}
use Rattle.dme_line.specs.declared.commands.Kind.TheVariants as kind
use Rattle.dme_line.specs.declared.responses.Mark.TheVariants as mark
use Rattle.dme_line.specs.declared.responses.Response.{Response}
use Rattle.dme_line.specs.declared.tags.Tag.{Tag}
use Rattle.dme_line.specs.declared.tags.Tag.TheVariants.{Event, Std}
use Rattle.protocol_model.specs.Open.{count_open, is_asking, is_held}
use Rattle.protocol_model.specs.Client.{Client, due, first_due, first_free, is_running, may_abort, may_go, next_number, or_else}
use Rattle.protocol_model.specs.Client.{client_aborted, client_sent, sends_abort, sends_next}
use Rattle.protocol_model.specs.Ends.{end_aborted, end_sent}
use Rattle.protocol_model.specs.Lines.{command_bytes}
use Rattle.protocol_model.specs.declared.held.OpenCommand.{OpenCommand}
use Rattle.protocol_model.specs.declared.lines.Line.{Line}
use Rattle.protocol_model.specs.declared.plans.Planned.{Planned}
use Rattle.protocol_model.specs.declared.states.State.{State}
use Rattle.run_session.specs.Errors.{Talk, noted_by, with_written}
use Rattle.session_telling.specs.Sessions.{with_command}

-- ---- the tag of a line

abbrev five : List ℕ → List ℕ
five line = get_or line 0 0 ∷ get_or line 1 0 ∷ get_or line 2 0 ∷ get_or line 3 0 ∷ get_or line 4 0 ∷ 32 ∷ 38 ∷ []

first_five : (t : Tag) (text : List ℕ) → five (written_tag t ++ (32 ∷ text)) ≡ written_tag t ++ (32 ∷ 38 ∷ [])
first_five (Std n) text = refl
first_five (Event n) text = refl

pub tag_unread : (t : Tag) (line text : List ℕ) → IsTag t → line ≡ written_tag t ++ (32 ∷ text)
    → ((r : Response) → IsResponseLine (five line) r → ⊥) → ⊥
tag_unread t line text tag is none = none (record { tag = t; mark = mark.Ack }) (record {
  text = 38 ∷ [];
  tagged = tag;
  parts = ap five is ∙ first_five t text;
  marked = ([], refl, refl);
})

-- ---- the tags that a client draws

here : (sort : ℕ → Tag) (hs : List OpenCommand) (n left m : ℕ) (b : Bool)
    → (first_free sort hs (suc n) left ≡ Some m → (suc n ≤ m) × (m < suc n + left))
    → elim b as (λ x. Option ℕ) [ true ↦ first_free sort hs (suc n) left | false ↦ Some n ] ≡ Some m → (n ≤ m) × (m < n + suc left)
here sort hs n left m true more is = let r = more is in (omega (arith, r.0), omega (arith, r.1))
here sort hs n left m false more is = let same : n ≡ m = cc in (omega (arith, same), omega (arith, same))

below : (sort : ℕ → Tag) (hs : List OpenCommand) (n left m : ℕ) → first_free sort hs n left ≡ Some m → (n ≤ m) × (m < n + left)
below sort hs n zero m is = absurd cc
below sort hs n (suc left) m is = here sort hs n left m (is_held (sort n) hs) (λ e. below sort hs (suc n) left m e) is

either : (first again : Option ℕ) (n : ℕ) → or_else first again ≡ Some n → (first ≡ Some n) ⊎ (again ≡ Some n)
either (Some k) again n is = inl is
either None again n is = inr is

drawn : (sort : ℕ → Tag) (hs : List OpenCommand) (d left all n : ℕ) → left ≡ 9999 - d → all ≡ 9999
    → (first_free sort hs (suc d) left ≡ Some n) ⊎ (first_free sort hs 1 all ≡ Some n) → n ≤ 9999
drawn sort hs d left all n l a (inl is) = let f = below sort hs (suc d) left n is in omega (arith, f.0, f.1, l)
drawn sort hs d left all n l a (inr is) = let f = below sort hs 1 all n is in omega (arith, f.1, a)

number_below : (sort : ℕ → Tag) (hs : List OpenCommand) (d n : ℕ) → next_number sort hs d ≡ Some n → n ≤ 9999
number_below sort hs d n is = drawn sort hs d (9999 - d) 9999 n refl refl
    (either (first_free sort hs (suc d) (9999 - d)) (first_free sort hs 1 9999) n is)

wide : (n : ℕ) → n ≤ 9999 → n ≤ 99999
wide n h = omega (arith, h)

-- ---- the lines that it writes

begins_tagged : (tag : Tag) (command : Command) → (text : List ℕ) × (command_bytes (record { tag = tag; command = command } ∷ []) ≡ written_tag tag ++ (32 ∷ text))
unfolding written_command
begins_tagged tag command =
    let rest : List ℕ = kind_name (kind_of command) ++ (40 ∷ (written_arguments command ++ (41 ∷ []))) in
    (rest ++ 13 ∷ 10 ∷ [], append_assoc (written_tag tag) (32 ∷ rest) (13 ∷ 10 ∷ []))

-- a line that is written is noted
abbrev IsNoted : {A E : Type 0} → Result A E → ℕ → List ℕ → Kind → Talk → Talk → Type 0
IsNoted r before out kind t u = (tag : Tag) (text : List ℕ) → IsTag tag → drop before out ≡ written_tag tag ++ (32 ∷ text)
    → OnOk r (u ≡ record t { sent = with_command t.sent tag kind })

line_noted : {A E : Type 0} (r : Result A E) (before : ℕ) (first out : List ℕ) (kind : Kind) (t u : Talk) (tag : Tag) (command : Command) (lines : List Line)
    → before ≡ length first → IsTag tag → kind ≡ kind_of command → lines ≡ record { tag = tag; command = command } ∷ [] → out ≡ first ++ command_bytes lines
    → IsNoted r before out kind t u → OnOk r (u ≡ record t { sent = with_written t.sent lines })
line_noted r before first out kind t u tag command lines at tagged same is all notes =
    let text = begins_tagged tag command in
    subst (λ (ls : List Line). OnOk r (u ≡ record t { sent = with_written t.sent ls })) (sym is)
    (subst (λ (k : Kind). OnOk r (u ≡ record t { sent = with_command t.sent tag k })) same
    (notes tag text.0 tagged
    (ap (λ (k : ℕ). drop k out) at ∙ (ap (drop (length first)) (all ∙ ap (λ (ls : List Line). first ++ command_bytes ls) is)
    ∙ (drop-append_seam first (command_bytes (record { tag = tag; command = command } ∷ [])) ∙ text.1)))))

-- what is due is the first unsent command
pub record IsFirst (command : Command) (l : List Planned) : Type 0 where
  pub first : Planned
  pub rest : List Planned
  pub all : l ≡ first ∷ rest
  pub same : first.command ≡ command

due_first : (c : Client) (command : Command) → planned_command (due c) ≡ Some command → IsFirst command c.table.tally.unsent
due_first c command is = go c.window (count_open c.table.standard) (is_running c.state && not (is_asking c.table.standard)) c.table.tally.unsent is
  where
    chosen : (m : Bool) (p : Planned) (ps : List Planned) → planned_command (cond m (Some p) None) ≡ Some command → IsFirst command (p ∷ ps)
    chosen true p ps is = record { first = p; rest = ps; all = refl; same = cc }
    chosen false p ps is = absurd cc

    go : (w k : ℕ) (b : Bool) (l : List Planned) → planned_command (cond b (first_due w k l) None) ≡ Some command → IsFirst command l
    go w k true [] is = absurd cc
    go w k false [] is = absurd cc
    go w k false (p ∷ ps) is = absurd cc
    go w k true (p ∷ ps) is = chosen (may_go w k p.command) p ps is

sends_line : (c : Client) (l : List Planned) (number : Option ℕ) (command : Command) → IsFirst command l
    → is_faulted (sends_next c l number).client.state ≡ false
    → (n : ℕ) × (number ≡ Some n) × ((sends_next c l number).lines ≡ record { tag = Std n; command = command } ∷ [])
sends_line c [] number command is sound = absurd cc
sends_line c (p ∷ ps) None command is sound = absurd cc
sends_line c (p ∷ ps) (Some n) command is sound =
    let same : p.command ≡ command = cc in
    (n, refl, ap (λ (x : Command). record { tag = Std n; command = x } ∷ []) same)

aborts_line : (c : Client) (number : Option ℕ) → is_faulted (sends_abort c number).client.state ≡ false
    → (n : ℕ) × (number ≡ Some n) × ((sends_abort c number).lines ≡ record { tag = Event n; command = AbortE } ∷ [])
aborts_line c None sound = absurd cc
aborts_line c (Some n) sound = (n, refl, refl)

writes : {A E : Type 0} (r : Result A E) (can : Bool) (t u : Talk) (lines : List Line) → can ≡ true → OnOk r (u ≡ record t { sent = with_written t.sent lines })
    → OnOk r (u ≡ record t { sent = cond can (with_written t.sent lines) t.sent })
writes r true t u lines may is = is
writes r false t u lines may is = absurd (false≢true may)

pub send_noted : {A E : Type 0} (r : Result A E) (e f : ClientEnd) (before : ℕ) (kind : Kind) (command : Command) (t u : Talk)
    → f ≡ end_sent e → is_faulted f.client.state ≡ false → possible Send e ≡ true → planned_command (due e.client) ≡ Some command
    → kind ≡ kind_of command → before ≡ length e.out → IsNoted r before f.out kind t u → OnOk r (u ≡ noted_by Send e t)
send_noted r e f before kind command t u is sound can due kinds at notes =
    let number : Option ℕ = next_number Std e.client.table.standard e.client.drawn in
    let line = sends_line e.client e.client.table.tally.unsent number command (due_first e.client command due)
    (sym (ap (λ (x : ClientEnd). is_faulted x.client.state) is) ∙ sound) in
    writes r (possible Send e) t u (client_sent e.client).lines can
    (line_noted r before e.out f.out kind t u (Std line.0) command ((client_sent e.client).lines) at
    (wide line.0 (number_below Std e.client.table.standard e.client.drawn line.0 line.1)) kinds line.2
    (ap (λ (x : ClientEnd). x.out) is) notes)

pub abort_noted : {A E : Type 0} (r : Result A E) (e f : ClientEnd) (before : ℕ) (t u : Talk)
    → f ≡ end_aborted e → is_faulted f.client.state ≡ false → possible Abort e ≡ true
    → before ≡ length e.out → IsNoted r before f.out kind.AbortE t u → OnOk r (u ≡ noted_by Abort e t)
abort_noted r e f before t u is sound can at notes =
    let number : Option ℕ = next_number Event e.client.table.event e.client.event_drawn in
    let line = aborts_line e.client number (sym (ap (λ (x : ClientEnd). is_faulted x.client.state) is) ∙ sound) in
    writes r (possible Abort e) t u ((client_aborted e.client).lines) can
    (line_noted r before e.out f.out kind.AbortE t u (Event line.0) AbortE ((client_aborted e.client).lines) at
    (number_below Event e.client.table.event e.client.event_drawn line.0 line.1) refl line.2
    (ap (λ (x : ClientEnd). x.out) is) notes)

-- a call that writes nothing
quiet : (can : Bool) (t : Talk) (lines : List Line) → (can ≡ true → lines ≡ []) → t ≡ record t { sent = cond can (with_written t.sent lines) t.sent }
quiet true t lines none = ap (λ (ls : List Line). record t { sent = with_written t.sent ls }) (sym (none refl))
quiet false t lines none = refl

no_line : (c : Client) (number : Option ℕ) → is_faulted (sends_abort c number).client.state ≡ true → may_abort c.state ≡ true → (sends_abort c number).lines ≡ []
no_line c None faulted may = refl
no_line c (Some n) faulted may = absurd cc

pub unwritten : (e f : ClientEnd) (t : Talk) (fault : ClientFault) → IsSendRefused (possible Abort e) e f (end_aborted e) fault
    → (fault ≡ ClientFault.Memory → ⊥) → t ≡ noted_by Abort e t
unwritten e f t ClientFault.NotNow refused known = quiet (possible Abort e) t ((client_aborted e.client).lines) (λ can. absurd (false≢true (sym refused.2 ∙ can)))
unwritten e f t (ClientFault.Faulted cause) (inl refused) known =
    quiet (possible Abort e) t ((client_aborted e.client).lines) (λ can. absurd (false≢true (sym refused.0 ∙ can)))
unwritten e f t (ClientFault.Faulted cause) (inr refused) known = quiet (possible Abort e) t ((client_aborted e.client).lines)
    (no_line e.client (next_number Event e.client.table.event e.client.event_drawn)
    (sym (ap (λ (x : ClientEnd). is_faulted x.client.state) refused.1) ∙ refused.2))
unwritten e f t ClientFault.Memory refused known = absurd (known refl)

first_true : (x y : Bool) → (x && y) ≡ true → x ≡ true
first_true true y h = refl
first_true false y h = h

some_if : (b : Bool) (o : Option Planned) → is_some (cond b o None) ≡ true → b ≡ true
some_if true o h = refl
some_if false o h = h

sound : (s : State) → is_running s ≡ true → is_faulted s ≡ false
sound State.Running h = refl
sound State.Faulted h = absurd (false≢true h)
sound State.Apart h = refl
sound State.Failing h = refl
sound State.Aborting h = refl
sound State.Halted h = refl
sound State.Done h = refl

no_sent : (c : Client) (l : List Planned) (number : Option ℕ) → is_faulted c.state ≡ false → is_faulted (sends_next c l number).client.state ≡ true
    → (sends_next c l number).lines ≡ []
no_sent c [] number sound faulted = refl
no_sent c (p ∷ ps) None sound faulted = refl
no_sent c (p ∷ ps) (Some n) sound faulted = absurd (false≢true (sym sound ∙ faulted))

-- a client that is Faulted by a command writes none
pub spent : (e f : ClientEnd) (t : Talk) → possible Send e ≡ true → f ≡ end_sent e → is_faulted f.client.state ≡ true → t ≡ noted_by Send e t
spent e f t can is faulted = quiet (possible Send e) t (client_sent e.client).lines (λ may. no_sent e.client e.client.table.tally.unsent
    (next_number Std e.client.table.standard e.client.drawn)
    (sound e.client.state (first_true _ _ (some_if (is_running e.client.state && not (is_asking e.client.table.standard))
    (first_due e.client.window (count_open e.client.table.standard) e.client.table.tally.unsent) can)))
    (sym (ap (λ (x : ClientEnd). is_faulted x.client.state) is) ∙ faulted))
