-- What a statement says by itself is within the limits, and says the statement's keyword.
use Rattle.dmis_program.proofs.Names.{[], ◌&&◌, ◌>>=◌, ◌∷◌, ◌≡◌, ◌≤◌, and_from, and_parts, BadArguments, before_close, begins, Bool, bytes_eq, Closes}
use Rattle.dmis_program.proofs.Names.{codes, component_limit, cond, Decides-int_eq, digits_value, Direction, drop, Ends, Err, false, folded, IfOk}
use Rattle.dmis_program.proofs.Names.{IfSome, is_ascii_digit, is_letters, is_name_text, is_zero_direction, IsDirection, IsInVolume, IsName, Keyword}
use Rattle.dmis_program.proofs.Names.{leb-true, length, List, list_all, list_any, name_of, nat_le, None, numeral_refused, NumeralFault, Ok, Option}
use Rattle.dmis_program.proofs.Names.{option_and_then, Passes, pos, Reads, refl, Refusal, Result, Some, Statement, true, unsigned_abs, value_of}
use Rattle.dmis_program.proofs.Names.{value_of-reads, volume_limit, within_count, without_cart, ℕ, ℤ}
use Rattle.fixed_um.proofs.NameLemmas.{name-from_folded}
use Rattle.dmis_program.specs.Positions.{component_of, direction_of, length_of, position_of}
use Rattle.dmis_program.specs.Parameters.{count_of, name_within}
use Rattle.dmis_program.specs.Sayings.{begins_block, begun, goes, recalled, selected, selects, touches, touches_at, without_parameters}
use Rattle.dmis_program.specs.Sayings.{is_badly_formed, mode, recalls, recalls_frame, said_by, said_of, units}
use Rattle.dmis_program.proofs.Sound.{SaidBy}

-- one step and then the next
pub bind_if : {A B : Type 0} (P : A → Type 0) (Q : B → Type 0) (r : Result A Refusal) (f : A → Result B Refusal) → IfOk r P
    → ((x : A) → P x → IfOk (f x) Q) → IfOk (r >>= f) Q
bind_if P Q (Ok x) f h g = g x h
bind_if P Q (Err e) f h g = tt

-- a refusal or another step
pub unless_if : {A : Type 0} (P : A → Type 0) (b : Bool) (e : Refusal) (r : Result A Refusal) → (b ≡ false → IfOk r P)
    → IfOk (cond b (Err e) r) P
unless_if P true e r h = tt
unless_if P false e r h = h refl

-- numerals
refused_within : (scale limit : ℕ) (text : List ℕ) (r : Result ℤ NumeralFault) → Reads scale limit text r
    → IfOk (numeral_refused r) (λ a. unsigned_abs a ≤ limit)
refused_within scale limit text (Ok a) h = h.1
refused_within scale limit text (Err e) h = tt

length_within : (text : List ℕ) → IfOk (length_of text) (λ a. unsigned_abs a ≤ volume_limit)
unfolding length_of
length_within text = refused_within 3 volume_limit text (value_of 3 volume_limit text) (value_of-reads 3 volume_limit text)

component_within : (text : List ℕ) → IfOk (component_of text) (λ a. unsigned_abs a ≤ component_limit)
unfolding component_of
component_within text = refused_within 6 component_limit text (value_of 6 component_limit text) (value_of-reads 6 component_limit text)

position_within : (x y z : List ℕ) → IfOk (position_of x y z) IsInVolume
unfolding position_of
position_within x y z =
    bind_if (λ a. unsigned_abs a ≤ volume_limit) IsInVolume (length_of x) _ (length_within x) (λ a p.
    bind_if (λ b. unsigned_abs b ≤ volume_limit) IsInVolume (length_of y) _ (length_within y) (λ b q.
    bind_if (λ c. unsigned_abs c ≤ volume_limit) IsInVolume (length_of z) _ (length_within z) (λ c r. record { x = p; y = q; z = r })))

some_component : (d : Direction) → is_zero_direction d ≡ false → d.i ≡ pos 0 → d.j ≡ pos 0 → d.k ≡ pos 0 → ⊥
some_component d h p q r =
    let zero : is_zero_direction d ≡ true = and_from _ _ ((Decides-int_eq d.i (pos 0)).1 p)
    (and_from _ _ ((Decides-int_eq d.j (pos 0)).1 q) ((Decides-int_eq d.k (pos 0)).1 r)) in
    absurd cc

direction_is : (i j k : List ℕ) → IfOk (direction_of i j k) IsDirection
unfolding direction_of
direction_is i j k =
    bind_if (λ a. unsigned_abs a ≤ component_limit) IsDirection (component_of i) _ (component_within i) (λ a p.
    bind_if (λ b. unsigned_abs b ≤ component_limit) IsDirection (component_of j) _ (component_within j) (λ b q.
    bind_if (λ c. unsigned_abs c ≤ component_limit) IsDirection (component_of k) _ (component_within k) (λ c r.
    let d : Direction = record { i = a; j = b; k = c } in
    unless_if IsDirection (is_zero_direction d) _ (Ok d) (λ h. record {
      i_within = p;
      j_within = q;
      k_within = r;
      not_zero = some_component d h;
    }))))

-- names
name_if : (b : Bool) (text : List ℕ) → is_name_text text ≡ b → IfSome (cond b (Some (folded text)) None) IsName
name_if true text h = name-from_folded text h
name_if false text h = tt

inner_is : (inner : Option (List ℕ)) → IfSome (option_and_then name_of inner) IsName
inner_is None = tt
inner_is (Some text) = name_if (is_name_text text) text refl

when_begins : (b : Bool) (inner : Option (List ℕ)) → IfSome (cond b (option_and_then name_of inner) None) IsName
when_begins true inner = inner_is inner
when_begins false inner = tt

name_within_is : (front text : List ℕ) → IfSome (name_within front text) IsName
unfolding name_within
name_within_is front text = when_begins (begins front text) (before_close (drop (length front) text))

-- a count
abbrev IsCount : ℕ → Type 0
IsCount n = (1 ≤ n) × (n ≤ 10000)

count_if : (b : Bool) (n : ℕ) → (nat_le 1 n && nat_le n 10000) ≡ b → IfSome (cond b (Some n) None) IsCount
count_if true n h = let p = and_parts (nat_le 1 n) (nat_le n 10000) h in (leb-true _ _ p.0, leb-true _ _ p.1)
count_if false n h = tt

when_digits : (b : Bool) (n : ℕ) → IfSome (cond b (within_count n) None) IsCount
when_digits true n = count_if (nat_le 1 n && nat_le n 10000) n refl
when_digits false n = tt

count_within : (text : List ℕ) → IfSome (count_of text) IsCount
unfolding count_of
count_within text = when_digits (list_all is_ascii_digit text) (digits_value 10 text)

goes_if : (params : List (List ℕ)) → IfOk (goes params) (SaidBy Keyword.Goto)
goes_if (x ∷ (y ∷ (z ∷ []))) = bind_if IsInVolume (SaidBy Keyword.Goto) (position_of x y z) _ (position_within x y z) (λ p h. h)
goes_if _ = tt

begun_if : (b : Bool) (name : Option (List ℕ)) (count : Option ℕ) → IfSome name IsName → IfSome count IsCount
    → IfOk (begun b name count) (SaidBy Keyword.Meas)
begun_if true (Some name) (Some count) h g = (refl, h, g.0)
begun_if true (Some name) None h g = tt
begun_if true None count h g = tt
begun_if false name count h g = tt

begins_if : (params : List (List ℕ)) → IfOk (begins_block params) (SaidBy Keyword.Meas)
begins_if (kind ∷ (feature ∷ (count ∷ []))) = begun_if (is_letters kind) (name_within (codes "F(") feature) (count_of count)
    (name_within_is (codes "F(") feature) (count_within count)
begins_if _ = tt

touches_at_if : (params : List (List ℕ)) → IfOk (touches_at params) (SaidBy Keyword.Ptmeas)
touches_at_if (x ∷ (y ∷ (z ∷ []))) = bind_if IsInVolume (SaidBy Keyword.Ptmeas) (position_of x y z) _ (position_within x y z)
    (λ p h. (refl, h, tt))
touches_at_if (x ∷ (y ∷ (z ∷ (i ∷ (j ∷ (k ∷ [])))))) =
    bind_if IsInVolume (SaidBy Keyword.Ptmeas) (position_of x y z) _ (position_within x y z) (λ p h.
    bind_if IsDirection (SaidBy Keyword.Ptmeas) (direction_of i j k) _ (direction_is i j k) (λ d g. (refl, h, g)))
touches_at_if _ = tt

when_cart : (b : Bool) (rest : List (List ℕ)) → IfOk (cond b (touches_at rest) (Err BadArguments)) (SaidBy Keyword.Ptmeas)
when_cart true rest = touches_at_if rest
when_cart false rest = tt

touches_if : (params : List (List ℕ)) → IfOk (touches params) (SaidBy Keyword.Ptmeas)
touches_if [] = tt
touches_if (first ∷ rest) = when_cart (bytes_eq first (codes "CART")) rest

ends_if : (params : List (List ℕ)) → IfOk (without_parameters Ends params) (SaidBy Keyword.Endmes)
ends_if [] = refl
ends_if (first ∷ rest) = tt

closes_if : (params : List (List ℕ)) → IfOk (without_parameters Closes params) (SaidBy Keyword.Endfil)
closes_if [] = refl
closes_if (first ∷ rest) = tt

selected_if : (one other : Option (List ℕ)) → IfSome one IsName → IfSome other IsName → IfOk (selected one other) (SaidBy Keyword.Snslct)
selected_if (Some name) other h g = h
selected_if None (Some name) h g = g
selected_if None None h g = tt

selects_if : (params : List (List ℕ)) → IfOk (selects params) (SaidBy Keyword.Snslct)
selects_if (first ∷ []) = selected_if (name_within (codes "S(") first) (name_within (codes "SA(") first) (name_within_is (codes "S(") first)
    (name_within_is (codes "SA(") first)
selects_if _ = tt

recalled_if : (name : Option (List ℕ)) → IfOk (recalled name) (SaidBy Keyword.Recall)
recalled_if (Some name) = tt
recalled_if None = tt

recalls_frame_if : (params : List (List ℕ)) → IfOk (recalls_frame params) (SaidBy Keyword.Recall)
recalls_frame_if (first ∷ []) = recalled_if (name_within (codes "D(") first)
recalls_frame_if _ = tt

when_frame : (b : Bool) (params : List (List ℕ)) → IfOk (cond b (recalls_frame params) (Ok Passes)) (SaidBy Keyword.Recall)
when_frame true params = recalls_frame_if params
when_frame false params = tt

recalls_if : (params : List (List ℕ)) → IfOk (recalls params) (SaidBy Keyword.Recall)
recalls_if [] = tt
recalls_if (first ∷ rest) = when_frame (begins (codes "D(") first) (first ∷ rest)

passes_if : (keyword : Keyword) (b : Bool) (e : Refusal) → IfOk (cond b (Ok Passes) (Err e)) (SaidBy keyword)
passes_if keyword true e = tt
passes_if keyword false e = tt

units_if : (params : List (List ℕ)) → IfOk (units params) (SaidBy Keyword.Units)
units_if [] = tt
units_if (first ∷ rest) = passes_if Keyword.Units (bytes_eq first (codes "MM")) _

mode_if : (params : List (List ℕ)) → IfOk (mode params) (SaidBy Keyword.Mode)
mode_if [] = tt
mode_if (first ∷ rest) = passes_if Keyword.Mode (list_any (λ p. bytes_eq p (codes "PROG")) (first ∷ rest)) _

said_by_if : (keyword : Keyword) (params : List (List ℕ)) → IfOk (said_by keyword params) (SaidBy keyword)
unfolding said_by
said_by_if Keyword.Dmismn params = tt
said_by_if Keyword.Goto params = goes_if (without_cart params)
said_by_if Keyword.Meas params = begins_if params
said_by_if Keyword.Ptmeas params = touches_if params
said_by_if Keyword.Endmes params = ends_if params
said_by_if Keyword.Snslct params = selects_if params
said_by_if Keyword.Recall params = recalls_if params
said_by_if Keyword.Endfil params = closes_if params
said_by_if Keyword.Units params = units_if params
said_by_if Keyword.Mode params = mode_if params
said_by_if Keyword.Definition params = tt
said_by_if Keyword.Passed params = tt
said_by_if Keyword.Unknown params = tt

pub said_of_if : (keyword : Keyword) (s : Statement) → IfOk (said_of keyword s) (SaidBy keyword)
unfolding said_of
said_of_if keyword s = unless_if (SaidBy keyword) (is_badly_formed keyword s) _ (said_by keyword s.params)
    (λ _. said_by_if keyword s.params)
