use Rattle.contact_ledger.proofs.Names.{[], ◌+◌, ◌≡◌, ◌≤◌, drop, IsSound, length, Start, take, whole_lines}
use Rattle.contact_ledger.proofs.LeadingPlaces.{Leads}
use Rattle.contact_ledger.proofs.feature_texts.read_features.Given as goal

-- the lines so far lead to the place with the features so far
abbrev pub invariant-loop-line : goal.invariant-loop-line
invariant-loop-line l = record {
  left : drop l.number (whole_lines l.bytes) ≡ whole_lines l.rest;
  read : Leads [] Start (take l.number (whole_lines l.bytes)) l.features l.place;
  sound : IsSound l.features l.place;
  count : l.number + length l.rest ≤ length l.bytes;
}

abbrev pub decreases-loop-line : goal.decreases-loop-line
decreases-loop-line l = length l.rest
