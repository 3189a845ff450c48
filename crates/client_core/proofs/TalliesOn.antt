-- What only proofs speak of.
use Rattle.client_core.proofs.Names.{Effect, Event, List, Std, Tag, tallied, Tally, Wanted}

-- what a standard command's reply does is counted
abbrev pub tallied_on : Tag → List Wanted → Effect → Tally → Tally
tallied_on (Std n) ws effect y = tallied ws effect y
tallied_on (Event n) ws effect y = y
