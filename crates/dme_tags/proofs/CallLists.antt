-- What only proofs speak of.
use Rattle.dme_tags.proofs.Names.{[], ◌∷◌, behind_call, Call, List, OpenValue}

-- what is open after a list of calls
abbrev pub behind_calls : OpenValue → List Call → OpenValue
behind_calls o [] = o
behind_calls o (call ∷ calls) = behind_calls (behind_call o call) calls
