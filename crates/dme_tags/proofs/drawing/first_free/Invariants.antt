use Rattle.dme_tags.proofs.Names.{◌-◌, ◌<◌, ◌≡◌, ◌≤◌, first_free, is_held, numbered, true, ℕ}
use Rattle.dme_tags.proofs.drawing.first_free.Given as goal

abbrev pub invariant-loop-number : goal.invariant-loop-number
invariant-loop-number l =
    record {
      same : first_free (numbered l.sort) l.commands l.from (10000 - l.from)
          ≡ first_free (numbered l.sort) l.commands l.number (10000 - l.number);
      held : (n : ℕ) → l.from ≤ n → n < l.number → is_held (numbered l.sort n) l.commands ≡ true;
    }
