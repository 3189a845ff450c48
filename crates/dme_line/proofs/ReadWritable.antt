-- What is read can be written.
use Rattle.dme_line.proofs.Names.{◌≡◌, Argument, Command, Direction, HasArguments, HasIjk, IsCommandText, IsIjk, IsInVolume, IsName, IsOnWire}
use Rattle.dme_line.proofs.Names.{IsTagOf, IsTarget, IsToolWord, IsTransformation, IsWritable, Kind, kind_of, List, None, Option, Point, refl, Says}
use Rattle.dme_line.proofs.Names.{Some, subst, sym, Tag, Token, tokens, ℕ}
use Rattle.fixed_um.proofs.NameLemmas.{name-from_folded}

-- a command and its kind, as tokens say them
record IsSaid (k : Kind) (c : Command) : Type 0 where
  same : kind_of c ≡ k
  arguments : HasArguments c

target_on_wire : (args : List Argument) (p : Point) → IsTarget args p → IsOnWire p
target_on_wire args p h = record { x = h.x.reads.1; y = h.y.reads.1; z = h.z.reads.1 }

ijk_is : (args : List Argument) (d : Option Direction) → HasIjk args d → IsIjk d
ijk_is args None h = tt
ijk_is args (Some d) h = h.1.reads.3

tool_name : (word name : List ℕ) → IsToolWord word name → IsName name
tool_name word name h = subst (λ (n : List ℕ). IsName n) (sym h.is_folded) (name-from_folded h.bare h.named)

transformation_in_volume : (ts : List Token) (p : Point) → IsTransformation ts p → IsInVolume p
transformation_in_volume ts p h = record { x = h.lengths.x.1; y = h.lengths.y.1; z = h.lengths.z.1 }

said : (k : Kind) (ts : List Token) (c : Command) → Says k ts c → IsSaid k c
said Kind.StartSession ts c h = subst (λ (d : Command). IsSaid Kind.StartSession d) (sym h.1) (record { same = refl; arguments = tt })
said Kind.EndSession ts c h = subst (λ (d : Command). IsSaid Kind.EndSession d) (sym h.1) (record { same = refl; arguments = tt })
said Kind.ClearAllErrors ts c h = subst (λ (d : Command). IsSaid Kind.ClearAllErrors d) (sym h.1) (record { same = refl; arguments = tt })
said Kind.IsHomed ts c h = subst (λ (d : Command). IsSaid Kind.IsHomed d) (sym h.1) (record { same = refl; arguments = tt })
said Kind.Home ts c h = subst (λ (d : Command). IsSaid Kind.Home d) (sym h.1) (record { same = refl; arguments = tt })
said Kind.OnPtMeasReport ts c h = subst (λ (d : Command). IsSaid Kind.OnPtMeasReport d) (sym h.1) (record { same = refl; arguments = tt })
said Kind.GoTo ts c h = subst (λ (d : Command). IsSaid Kind.GoTo d) (sym h.2)
    (record { same = refl; arguments = target_on_wire h.1.arguments h.0 h.1.target })
said Kind.PtMeas ts c h = subst (λ (d : Command). IsSaid Kind.PtMeas d) (sym h.3)
    (record { same = refl; arguments = (target_on_wire h.2.arguments h.0 h.2.target, ijk_is h.2.arguments h.1 h.2.ijk) })
said Kind.ChangeTool ts c h = subst (λ (d : Command). IsSaid Kind.ChangeTool d) (sym h.2)
    (record { same = refl; arguments = tool_name h.1.word h.0 h.1.reads })
said Kind.SetCsyTransformation ts c h = subst (λ (d : Command). IsSaid Kind.SetCsyTransformation d) (sym h.2)
    (record { same = refl; arguments = transformation_in_volume ts h.0 h.1 })
said Kind.SetCoordSystem ts c h = subst (λ (d : Command). IsSaid Kind.SetCoordSystem d) (sym h.2) (record { same = refl; arguments = tt })
said Kind.AbortE ts c h = subst (λ (d : Command). IsSaid Kind.AbortE d) (sym h.1) (record { same = refl; arguments = tt })

pub read_is_writable : (line : List ℕ) (tag : Tag) (command : Command) → IsCommandText line tag command → IsWritable tag command
read_is_writable line tag command h =
    let s = said h.kind (tokens h.rest) command h.says in
    record { tagged = subst (λ (k : Kind). IsTagOf k tag) (sym s.same) h.fits; arguments = s.arguments }
