-- What only proofs speak of.
use Rattle.contact_ledger.proofs.Names.{[], ◌∷◌, ◌≡◌, Feature, List, Next, Place, ℕ}

-- lines lead from a place to another
abbrev pub Leads : List Feature → Place → List (List ℕ) → List Feature → Place → Type 0
Leads features place [] new then = (new ≡ features) × (then ≡ place)
Leads features place (line ∷ lines) new then = (mid : List Feature) × (at : Place) × Next features place line mid at
    × Leads mid at lines new then
