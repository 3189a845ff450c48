-- What holds of the text that a source gave.
use Rattle.std.proofs.Common.{◌≡◌, ℕ, List, Option, Some, None, IfSome, subst}
use Rattle.dme_orders.specs.Reading.{Came, Reads, WasRead}

-- what holds of the text that was read holds of the one that the source reported
some_read : (old new : Option (List ℕ)) (text : List ℕ) (Holds : List ℕ → Type 0) → Holds text
    → IfSome old (WasRead new (λ told. text ≡ told)) → IfSome old (WasRead new Holds)
some_read None new text Holds holds read = tt
some_read (Some told) new text Holds holds read = record { whole = read.whole; holds = subst Holds read.holds holds }

pub read_as : {S : Type 0} (c : Came S) (text : List ℕ) (Holds : List ℕ → Type 0) → Holds text → Reads c (λ told. text ≡ told)
    → Reads c Holds
read_as c text Holds holds read =
    record { works = read.works; text = some_read (c.left c.old) (c.left c.new) text Holds holds read.text }
