-- A contact is made by a touch that runs, as it was commanded.
use Rattle.server_core.proofs.Names.{[], ◌++◌, ◌+◌, ◌∙◌, ◌∷◌, ◌≡◌, Act, ap, append-nil, arith, Command, contacts, Direction, finished, IsCommanded}
use Rattle.server_core.proofs.Names.{length, length-append, Line, List, machined, MadeContact, None, offset, Option, Outcome, Point, point_difference}
use Rattle.server_core.proofs.Names.{refl, reply_bytes, Server, server_machined, server_turned, ServerEnd, Some, subst, sym, Tag, touched, with_act}
use Rattle.server_core.proofs.Names.{ℕ}
use Rattle.std.proofs.lemmas.List.{append_cancel_left}
use Rattle.protocol_model.proofs.invariant.Served.{contacts_more}
use Rattle.server_core.proofs.Ledgers.{IsNoContact, AddsNoContact, turned_adds}

-- ---- no turn makes a contact

added_no_contact : (n : ℕ) (acts : List (ℕ × Act)) (made : Option Act) → IsNoContact made → contacts (with_act n made acts) ≡ contacts acts
added_no_contact n acts None none = refl
added_no_contact n acts (Some a) none =
    contacts_more acts ((n, a) ∷ []) ∙ (ap (λ (ms : List MadeContact). contacts acts ++ ms) (none n) ∙ append-nil (contacts acts))

pub turned_no_contact : (s : Server) → contacts (server_turned s).server.ledger ≡ contacts s.ledger
turned_no_contact s =
    let f : AddsNoContact s (server_turned s) = turned_adds s in
    ap contacts f.2 ∙ added_no_contact s.last s.ledger f.0 f.1

-- ---- which ends of what runs make one

pub not_longer : (ms : List MadeContact) (m : MadeContact) → ms ≡ ms ++ m ∷ [] → ⊥
not_longer ms m e =
    let longer : length ms ≡ length (ms ++ m ∷ []) = ap length e in
    let sum : length (ms ++ m ∷ []) ≡ length ms + 1 = length-append ms (m ∷ []) in
    omega arith

-- an act that is no contact
no_more : (n : ℕ) (acts : List (ℕ × Act)) (a : Act) (m : MadeContact) → contacts ((n, a) ∷ []) ≡ []
    → contacts (acts ++ (n, a) ∷ []) ≡ contacts acts ++ m ∷ [] → ⊥
no_more n acts a m none e =
    not_longer (contacts acts) m
    (sym (contacts_more acts ((n, a) ∷ []) ∙ (ap (λ (ms : List MadeContact). contacts acts ++ ms) none ∙ append-nil (contacts acts))) ∙ e)

abbrev first_or : MadeContact → List MadeContact → MadeContact
first_or m [] = m
first_or m (k ∷ ms) = k

first_of : (m k : MadeContact) → m ∷ [] ≡ k ∷ [] → m ≡ k
first_of m k e = ap (first_or m) e

abbrev contact_of : Server → Point → Point → Option Direction → List ℕ → MadeContact
contact_of s at p d tool = record {
  connection = s.last;
  target = p;
  dir = d;
  tool = tool;
  frame = s.frame;
  point = point_difference at (offset s.frame);
}

as_commanded : (e : ServerEnd) (at : Point) (t : Tag) (p : Point) (d : Option Direction) (tool : List ℕ)
    → e.server.running ≡ Some (record { tag = t; command = Command.PtMeas p d }) → e.server.tool ≡ Some tool
    → IsCommanded e (Outcome.Touched at) (contact_of e.server at p d tool)
as_commanded e at t p d tool ran head = record {
  tag = t;
  at = at;
  ran = ran;
  touched = refl;
  on = refl;
  tool = head;
  frame = refl;
  point = refl;
  said =
      ap (λ (running : Option Line). e.out ++ reply_bytes (machined e.server (Outcome.Touched at) running).said) ran
      ∙ ap (λ (in_head : Option (List ℕ)). e.out ++ reply_bytes (touched e.server t (Command.PtMeas p d) at in_head).said) head;
}

same : (e : ServerEnd) (ended : Outcome) (made : MadeContact) → contacts e.server.ledger ≡ contacts e.server.ledger ++ made ∷ []
    → IsCommanded e ended made
same e ended made longer = absurd (not_longer _ _ longer)

finished_made : (e : ServerEnd) (made : MadeContact) (t : Tag) (c : Command)
    → contacts (finished e.server t c).server.ledger ≡ contacts e.server.ledger ++ made ∷ [] → IsCommanded e Outcome.Done made
finished_made e made t Command.StartSession longer = same e Outcome.Done made longer
finished_made e made t Command.EndSession longer = same e Outcome.Done made longer
finished_made e made t Command.ClearAllErrors longer = same e Outcome.Done made longer
finished_made e made t Command.IsHomed longer = same e Outcome.Done made longer
finished_made e made t Command.Home longer = absurd (no_more e.server.last e.server.ledger Act.Homed made refl longer)
finished_made e made t Command.OnPtMeasReport longer = same e Outcome.Done made longer
finished_made e made t (Command.GoTo p) longer = absurd (no_more e.server.last e.server.ledger (Act.Moved p e.server.frame) made refl
    longer)
finished_made e made t (Command.PtMeas p d) longer = same e Outcome.Done made longer
finished_made e made t (Command.ChangeTool n) longer = absurd (no_more e.server.last e.server.ledger (Act.Changed n) made refl longer)
finished_made e made t (Command.SetCsyTransformation p) longer = same e Outcome.Done made longer
finished_made e made t (Command.SetCoordSystem system) longer = same e Outcome.Done made longer
finished_made e made t Command.AbortE longer = same e Outcome.Done made longer

touched_made : (e : ServerEnd) (made : MadeContact) (at : Point) (t : Tag) (c : Command) (tool : Option (List ℕ))
    → e.server.running ≡ Some (record { tag = t; command = c }) → e.server.tool ≡ tool
    → contacts (touched e.server t c at tool).server.ledger ≡ contacts e.server.ledger ++ made ∷ []
    → IsCommanded e (Outcome.Touched at) made
touched_made e made at t Command.StartSession tool ran head longer = same e (Outcome.Touched at) made longer
touched_made e made at t Command.EndSession tool ran head longer = same e (Outcome.Touched at) made longer
touched_made e made at t Command.ClearAllErrors tool ran head longer = same e (Outcome.Touched at) made longer
touched_made e made at t Command.IsHomed tool ran head longer = same e (Outcome.Touched at) made longer
touched_made e made at t Command.Home tool ran head longer = same e (Outcome.Touched at) made longer
touched_made e made at t Command.OnPtMeasReport tool ran head longer = same e (Outcome.Touched at) made longer
touched_made e made at t (Command.GoTo p) tool ran head longer = same e (Outcome.Touched at) made longer
touched_made e made at t (Command.PtMeas p d) (Some tool) ran head longer =
    let one : contact_of e.server at p d tool ≡ made =
    first_of _ made (append_cancel_left (contacts e.server.ledger) _ _ (sym (contacts_more e.server.ledger (_ ∷ [])) ∙ longer)) in
    subst (λ (m : MadeContact). IsCommanded e (Outcome.Touched at) m) one (as_commanded e at t p d tool ran head)
touched_made e made at t (Command.PtMeas p d) None ran head longer = same e (Outcome.Touched at) made longer
touched_made e made at t (Command.ChangeTool n) tool ran head longer = same e (Outcome.Touched at) made longer
touched_made e made at t (Command.SetCsyTransformation p) tool ran head longer = same e (Outcome.Touched at) made longer
touched_made e made at t (Command.SetCoordSystem system) tool ran head longer = same e (Outcome.Touched at) made longer
touched_made e made at t Command.AbortE tool ran head longer = same e (Outcome.Touched at) made longer

machined_made : (e : ServerEnd) (made : MadeContact) (ended : Outcome) (running : Option Line) → e.server.running ≡ running
    → contacts (machined e.server ended running).server.ledger ≡ contacts e.server.ledger ++ made ∷ [] → IsCommanded e ended made
machined_made e made ended None ran longer = same e ended made longer
machined_made e made Outcome.Done (Some line) ran longer = finished_made e made line.tag line.command longer
machined_made e made (Outcome.Touched at) (Some line) ran longer =
    touched_made e made at line.tag line.command e.server.tool ran refl longer
machined_made e made Outcome.Missed (Some line) ran longer = same e Outcome.Missed made longer
machined_made e made Outcome.Fault (Some line) ran longer = same e Outcome.Fault made longer

pub machined_as_commanded : (ended : Outcome) (e : ServerEnd) (made : MadeContact)
    → contacts (server_machined e.server ended).server.ledger ≡ contacts e.server.ledger ++ made ∷ [] → IsCommanded e ended made
machined_as_commanded ended e made longer = machined_made e made ended e.server.running refl longer
