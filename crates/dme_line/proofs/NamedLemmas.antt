-- Commands whose name is in its written form.
use Rattle.dme_line.proofs.Names.{[], ◌++◌, ◌-◌, ◌∷◌, ◌≡◌, ◌≤◌, ap, arith, codes, Command, Direction, drop, false, get_or, IfSome, is_event_kind}
use Rattle.dme_line.proofs.Names.{is_event_tag, is_name_part, IsCommandOf, IsCommandText, IsPlace, IsTagged, Kind, length, List, None, Open, Option}
use Rattle.dme_line.proofs.Names.{Point, refl, rest_of, Some, subst, Tag, take, tokens, ℕ}

-- the bytes at the start of a text and the rest of it
pub five_in_front : (xs : List ℕ) (a b c d e : ℕ) → 5 ≤ length xs
    → get_or xs 0 0 ≡ a → get_or xs 1 0 ≡ b → get_or xs 2 0 ≡ c → get_or xs 3 0 ≡ d
    → get_or xs 4 0 ≡ e
    → xs ≡ a ∷ b ∷ c ∷ d ∷ e ∷ take (length xs - 5) (drop 5 xs)
five_in_front [] a b c d e some h0 h1 h2 h3 h4 = absurd (omega arith)
five_in_front (s ∷ []) a b c d e some h0 h1 h2 h3 h4 = absurd (omega arith)
five_in_front (s ∷ t ∷ []) a b c d e some h0 h1 h2 h3 h4 = absurd (omega arith)
five_in_front (s ∷ t ∷ u ∷ []) a b c d e some h0 h1 h2 h3 h4 = absurd (omega arith)
five_in_front (s ∷ t ∷ u ∷ v ∷ []) a b c d e some h0 h1 h2 h3 h4 = absurd (omega arith)
five_in_front (s ∷ t ∷ u ∷ v ∷ w ∷ xs) a b c d e some h0 h1 h2 h3 h4 = rw (rest_of (s ∷ t ∷ u ∷ v ∷ w ∷ xs) 5, h0, h1, h2, h3, h4) refl

pub seven_in_front : (xs : List ℕ) (a b c d e f g : ℕ) → 7 ≤ length xs
    → get_or xs 0 0 ≡ a → get_or xs 1 0 ≡ b → get_or xs 2 0 ≡ c → get_or xs 3 0 ≡ d
    → get_or xs 4 0 ≡ e → get_or xs 5 0 ≡ f → get_or xs 6 0 ≡ g
    → xs ≡ a ∷ b ∷ c ∷ d ∷ e ∷ f ∷ g ∷ take (length xs - 7) (drop 7 xs)
seven_in_front [] a b c d e f g some h0 h1 h2 h3 h4 h5 h6 = absurd (omega arith)
seven_in_front (s ∷ []) a b c d e f g some h0 h1 h2 h3 h4 h5 h6 = absurd (omega arith)
seven_in_front (s ∷ t ∷ []) a b c d e f g some h0 h1 h2 h3 h4 h5 h6 = absurd (omega arith)
seven_in_front (s ∷ t ∷ u ∷ []) a b c d e f g some h0 h1 h2 h3 h4 h5 h6 = absurd (omega arith)
seven_in_front (s ∷ t ∷ u ∷ v ∷ []) a b c d e f g some h0 h1 h2 h3 h4 h5 h6 = absurd (omega arith)
seven_in_front (s ∷ t ∷ u ∷ v ∷ w ∷ []) a b c d e f g some h0 h1 h2 h3 h4 h5 h6 = absurd (omega arith)
seven_in_front (s ∷ t ∷ u ∷ v ∷ w ∷ x ∷ []) a b c d e f g some h0 h1 h2 h3 h4 h5 h6 = absurd (omega arith)
seven_in_front (s ∷ t ∷ u ∷ v ∷ w ∷ x ∷ y ∷ xs) a b c d e f g some h0 h1 h2 h3 h4 h5 h6 = rw (rest_of (s ∷ t ∷ u ∷ v ∷ w ∷ x ∷ y ∷ xs) 7, h0, h1, h2, h3, h4, h5, h6) refl

-- a parenthesis ends a name
ends_name : (rest : List ℕ) (c : ℕ) (more : List ℕ) → 40 ∷ rest ≡ c ∷ more → is_name_part c ≡ false
ends_name rest c more e = subst (λ (d : ℕ). is_name_part d ≡ false) (ap (λ (xs : List ℕ). get_or xs 0 0) e) refl

pub named_move : (text rest : List ℕ) (o : Option Point) → text ≡ codes "GoTo" ++ (40 ∷ rest)
    → IfSome o (λ p. IsPlace (Open ∷ tokens rest) p None) → IfSome o (λ p. IsCommandOf Kind.GoTo text (Command.GoTo p))
named_move text rest None e h = tt
named_move text rest (Some p) e h =
    record {
      name = codes "GoTo";
      rest = 40 ∷ rest;
      named = record { parts = e; whole = refl; stop = ends_name rest };
      known = refl;
      says = (p, h, refl);
    }

pub named_touch : (text rest : List ℕ) (o : Option (Point × Option Direction)) → text ≡ codes "PtMeas" ++ (40 ∷ rest)
    → IfSome o (λ t. IsPlace (Open ∷ tokens rest) t.0 t.1) → IfSome o (λ t. IsCommandOf Kind.PtMeas text (Command.PtMeas t.0 t.1))
named_touch text rest None e h = tt
named_touch text rest (Some (p, d)) e h =
    record {
      name = codes "PtMeas";
      rest = 40 ∷ rest;
      named = record { parts = e; whole = refl; stop = ends_name rest };
      known = refl;
      says = (p, d, h, refl);
    }

-- such a command after a tag of its sort
pub command_here : (line text : List ℕ) (tag : Tag) (kind : Kind) (command : Command) → IsTagged line tag text
    → is_event_tag tag ≡ is_event_kind kind → IsCommandOf kind text command → IsCommandText line tag command
command_here line text tag kind command f sort h =
    record {
      name = h.name;
      rest = h.rest;
      kind = kind;
      begins = record { text = text; tagged = f; named = h.named };
      known = h.known;
      fits = record { numbered = f.numbered; sort = sort };
      says = h.says;
    }
