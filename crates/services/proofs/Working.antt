-- What a turn of the server appends to its ledger.
use Rattle.std.proofs.Common.{◌≡◌, sym, ap, ◌∙◌, ℕ, Option, None, Some, List, [], ◌∷◌, ◌++◌, append-nil}
use Rattle.std.proofs.lemmas.List.{append_assoc}
use Rattle.contact_ledger.specs.Ledgers.{contact_count}
use Rattle.contact_ledger.specs.declared.acts.Act.{Act}
use Rattle.protocol_model.specs.Ends.{ServerEnd, serving_read, serving_turned, serving_machined}
use Rattle.protocol_model.specs.declared.machine.Job.{Job}
use Rattle.protocol_model.specs.declared.machine.Outcome.{Outcome}
use Rattle.link_world.specs.Pumps.{Stage}
use Rattle.link_world.specs.ServerPumps.{ServerTurn, begins, takes, has, reads, knows, turns, ends, writes}
use Rattle.server_core.specs.Acting.{IsOneMore, with_act}
use Rattle.services.specs.Sessions.{IsMore}
use Rattle.server_core.proofs.Ledgers.{read_keeps, turned_one_more, machined_one_more}

same : (a b c : List (ℕ × Act)) → c ≡ b → IsMore a b → IsMore a c
same a b c e m = (m.0, e ∙ m.1)

acted : (n : ℕ) (made : Option Act) (a b : List (ℕ × Act)) → IsMore a b → IsMore a (with_act n made b)
acted n None a b m = m
acted n (Some act) a b m = (m.0 ++ (n, act) ∷ [], ap (λ (l : List (ℕ × Act)). l ++ (n, act) ∷ []) m.1 ∙ append_assoc a m.0 ((n, act) ∷ []))

one : (n : ℕ) (a b c : List (ℕ × Act)) → IsOneMore n b c → IsMore a b → IsMore a c
one n a b c o m = same a (with_act n o.act b) c o.whole (acted n o.act a b m)

pub turn_more : (answer : Job → ℕ → Outcome) (least : ℕ) (start : ServerEnd) (stage : Stage) (read written : List ℕ) (e : ServerEnd)
    → ServerTurn answer least start stage read written e → IsMore start.server.ledger e.server.ledger
turn_more answer least start stage read written e begins = ([], sym (append-nil start.server.ledger))
turn_more answer least start stage read written e (takes r may) = ([], sym (append-nil start.server.ledger))
turn_more answer least start stage read written e (has f r t enough) = turn_more answer least start _ _ _ f t
turn_more answer least start stage read written e (reads f r t on is) =
    same start.server.ledger f.server.ledger (serving_read f).server.ledger (read_keeps f) (turn_more answer least start _ _ _ f t)
turn_more answer least start stage read written e (knows f r t none) = turn_more answer least start _ _ _ f t
turn_more answer least start stage read written e (turns f r t may) = one f.server.last start.server.ledger f.server.ledger (serving_turned f).server.ledger
    (turned_one_more f) (turn_more answer least start _ _ _ f t)
turn_more answer least start stage read written e (ends f r job t runs) =
    one f.server.last start.server.ledger f.server.ledger (serving_machined (answer job (contact_count f.server.ledger)) f).server.ledger
    (machined_one_more (answer job (contact_count f.server.ledger)) f) (turn_more answer least start _ _ _ f t)
turn_more answer least start stage read written e (writes f r count t none idle within) = turn_more answer least start _ _ _ f t
