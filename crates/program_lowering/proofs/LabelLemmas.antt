-- The table of names has the parts by which each was first composed.
use Rattle.program_lowering.proofs.Names.{[], ◌++◌, ◌∙◌, ◌∷◌, ◌≡◌, ap, Bool, bytes_eq, codes, cond, Err, false, IfOk, is_none, List, None, not, Ok, OnOk, Option, refl}
use Rattle.program_lowering.proofs.Names.{Result, Some, Statement, subst, sym, true, ℕ}
use Rattle.std.proofs.lemmas.Cmp.{eq_by_cmp_equiv, nat_list_cmp_total}
use Rattle.std.proofs.lemmas.Map.Text.{is_eq-slice_cmp}
use Rattle.std.proofs.lemmas.Slice.Eq.{bytes_eq-Decides}
use Rattle.std.proofs.Common.{Bor, nat_cmp}
use Rattle.std.specs.BTreeMap.{BTreeMap, Updates, get_by}
use Rattle.std.specs.Cmp.Lexicographic.{slice_cmp}
use Rattle.std.specs.Global.{Vec}
use Rattle.std.specs.Map.{AreApart, IsKeyTest, KeepsOthers, lookup}
use Rattle.std.specs.Option.{option_copied, option_map, option_or}
use Rattle.program_flow.specs.Flow.{carried}
use Rattle.program_flow.specs.LookBack.{Holds, fault_of, kind_said, value_said}
use Rattle.program_flow.specs.Values.{Valuation}
use Rattle.program_flow.specs.Variables.{Entry, entry_value}
use Rattle.program_flow.specs.declared.faults.ValueFault.{ValueFault}
use Rattle.program_lowering.specs.Carried.{KnowsParts, parts_in}
use Rattle.program_lowering.specs.Labels.{collides, composed, composed_in, differs, first_parts, is_other, label_of, parts_if}
use Rattle.program_lowering.specs.declared.labels.Labels.{Labels}

-- ---- the table

others_kept : {K X : Type 0} (eq : K → K → Bool) (test : K → Bool) (old new : List (K × X)) → KeepsOthers eq test old new → (other : K → Bool)
    → IsKeyTest eq other → AreApart test other → lookup other new ≡ lookup other old
unfolding KeepsOthers
others_kept eq test old new h = h

no_key : (key name k : List ℕ) → bytes_eq key name ≡ false → bytes_eq key k ≡ true → bytes_eq name k ≡ false
no_key key name k e f = go (bytes_eq name k) refl
  where
    go : (b : Bool) → bytes_eq name k ≡ b → b ≡ false
    go false g = refl
    go true g =
        let same : key ≡ name = (bytes_eq-Decides key k).0 f ∙ sym ((bytes_eq-Decides name k).0 g) in
        let both : bytes_eq key name ≡ true = (bytes_eq-Decides key name).1 same in absurd cc

after_insert : (m n : BTreeMap (Vec ℕ) (Vec ℕ)) (key v : Vec ℕ) → Updates (λ x y. slice_cmp nat_cmp x.items y.items) m n key (Some v) → (name : List ℕ)
    → get_by (λ k. slice_cmp nat_cmp name k.items) n ≡ cond (bytes_eq key.items name) (Some v) (get_by (λ k. slice_cmp nat_cmp name k.items) m)
after_insert m n key v h name = go (bytes_eq key.items name) refl
  where
    go : (b : Bool) → bytes_eq key.items name ≡ b
        → get_by (λ k. slice_cmp nat_cmp name k.items) n ≡ cond b (Some v) (get_by (λ k. slice_cmp nat_cmp name k.items) m)
    go true e = subst (λ (x : List ℕ). get_by (λ k. slice_cmp nat_cmp x k.items) n ≡ Some v) ((bytes_eq-Decides key.items name).0 e) h.1
    go false e = others_kept _ _ m.entries n.entries h.3 _ (λ x y. (eq_by_cmp_equiv nat_list_cmp_total).congr name x.items y.items)
        (λ k f. is_eq-slice_cmp name k.items ∙ no_key key.items name k.items e (sym (is_eq-slice_cmp key.items k.items) ∙ f))

pub or_none : (o : Option (List ℕ)) → option_or o None ≡ o
or_none None = refl
or_none (Some x) = refl

pub is_absent : (labels : Labels) (name : List ℕ) (found : Option (Bor (Vec ℕ))) → option_copied found ≡ get_by (λ k. slice_cmp nat_cmp name k.items) labels.parts
    → is_none found ≡ true → parts_in labels name ≡ None
is_absent labels name None h e = ap (option_map (λ p. p.items)) (sym h)
is_absent labels name (Some f) h e = absurd cc

pub noted_new : (old new : Labels) (name parts : Vec ℕ) → parts_in old name.items ≡ None
    → Updates (λ x y. slice_cmp nat_cmp x.items y.items) old.parts new.parts name (Some parts) → (other : List ℕ)
    → parts_in new other ≡ option_or (parts_in old other) (parts_if other (Some (name.items, parts.items)))
noted_new old new name parts none h other =
    ap (option_map (λ p. p.items)) (after_insert old.parts new.parts name parts h other) ∙ go (bytes_eq name.items other) refl
  where
    go : (b : Bool) → bytes_eq name.items other ≡ b
        → option_map (λ p. p.items) (cond b (Some parts) (get_by (λ k. slice_cmp nat_cmp other k.items) old.parts))
        ≡ option_or (parts_in old other) (cond b (Some parts.items) None)
    go true e = rw (subst (λ (x : List ℕ). parts_in old x ≡ None) ((bytes_eq-Decides name.items other).0 e) none) refl
    go false e = sym (or_none (parts_in old other))

pub noted_before : (labels : Labels) (name parts first : List ℕ) → parts_in labels name ≡ Some first → (other : List ℕ)
    → parts_in labels other ≡ option_or (parts_in labels other) (parts_if other (Some (name, parts)))
noted_before labels name parts first some other = go (bytes_eq name other) refl
  where
    go : (b : Bool) → bytes_eq name other ≡ b → parts_in labels other ≡ option_or (parts_in labels other) (cond b (Some parts) None)
    go true e = rw (subst (λ (x : List ℕ). parts_in labels x ≡ Some first) ((bytes_eq-Decides name other).0 e) some) refl
    go false e = sym (or_none (parts_in labels other))

-- ---- what was composed above

other_by : (f g : List ℕ → Option (List ℕ)) → ((name : List ℕ) → f name ≡ g name) → (c : Option (List ℕ × List ℕ)) → is_other f c ≡ is_other g c
other_by f g h None = refl
other_by f g h (Some c) = ap (differs c.1) (h c.0)

-- an `ASSIGN`, which alone may not be carried out, has no label that counts
on_carried : (above : List Statement) (s : Statement) (labels : Labels) → KnowsParts (s ∷ above) labels → KnowsParts (carried above s) labels
on_carried above s labels k = go (bytes_eq s.word (codes "ASSIGN")) refl
  where
    fault : Option ValueFault
    fault = fault_of (kind_said above) (value_said above) s

    go : (b : Bool) → bytes_eq s.word (codes "ASSIGN") ≡ b → KnowsParts (cond (is_none fault) (s ∷ above) above) labels
    go false e =
        let none : fault ≡ None = rw e refl in
        subst (λ (o : Option ValueFault). KnowsParts (cond (is_none o) (s ∷ above) above) labels) (sym none) k
    go true e = by (is_none fault)
      where
        no_label : label_of s ≡ None
        no_label = rw ((bytes_eq-Decides s.word (codes "ASSIGN")).0 e) refl

        same : (name : List ℕ) → first_parts (s ∷ above) name ≡ first_parts above name
        same name = ap (λ (o : Option (List ℕ)). option_or (first_parts above name) (parts_if name (composed_in (value_said above) o))) no_label
            ∙ or_none (first_parts above name)

        by : (b : Bool) → KnowsParts (cond b (s ∷ above) above) labels
        by true = k
        by false = λ name. k name ∙ same name

pub entered : {E : Type 0} (above : List Statement) (s : Statement) (entries : List Entry) (old new : Labels) (r : Result Bool E) → Holds above entries
    → KnowsParts above old → IfOk r (λ other. other ≡ is_other (parts_in old) (composed (entry_value entries) s))
    → OnOk r ((name : List ℕ) → parts_in new name ≡ option_or (parts_in old name) (parts_if name (composed (entry_value entries) s)))
    → IfOk r (λ other. (other ≡ collides above s) × KnowsParts (carried above s) new)
entered above s entries old new (Err e) h k is noted = tt
entered above s entries old new (Ok other) h k is noted = (
  is ∙ (ap (λ (values : Valuation). is_other (parts_in old) (composed values s)) h.values
      ∙ other_by (parts_in old) (first_parts above) k (composed (value_said above) s)),
  on_carried above s new (λ name. noted name
      ∙ (ap (λ (values : Valuation). option_or (parts_in old name) (parts_if name (composed values s))) h.values
      ∙ ap (λ (o : Option (List ℕ)). option_or o (parts_if name (composed (value_said above) s))) (k name))),
)

-- ---- one name, one feature

kept_above : (above more : List Statement) (name parts : List ℕ) → first_parts above name ≡ Some parts → first_parts (more ++ above) name ≡ Some parts
kept_above above [] name parts h = h
kept_above above (s ∷ more) name parts h = rw (kept_above above more name parts h) refl

same_parts : (a b : List ℕ) → differs a (Some b) ≡ false → a ≡ b
same_parts a b h = go (bytes_eq a b) refl h
  where
    go : (x : Bool) → bytes_eq a b ≡ x → not x ≡ false → a ≡ b
    go true e h = (bytes_eq-Decides a b).0 e
    go false e h = absurd cc

-- a name that is not refused is in the table with its parts
there : (above : List Statement) (s : Statement) (name parts : List ℕ) → composed (value_said above) s ≡ Some (name, parts) → collides above s ≡ false
    → first_parts (s ∷ above) name ≡ Some parts
there above s name parts is free = go (first_parts above name) (rw is at free)
  where
    go : (o : Option (List ℕ)) → differs parts o ≡ false → option_or o (parts_if name (composed (value_said above) s)) ≡ Some parts
    go None h = rw (is, (bytes_eq-Decides name name).1 refl) refl
    go (Some first) h = ap Some (sym (same_parts parts first h))

pub one_name : (above more : List Statement) (s t : Statement) (name parts others : List ℕ) → composed (value_said above) s ≡ Some (name, parts)
    → collides above s ≡ false → composed (value_said (more ++ s ∷ above)) t ≡ Some (name, others) → collides (more ++ s ∷ above) t ≡ false → others ≡ parts
one_name above more s t name parts others is free again late =
    let first = kept_above (s ∷ above) more name parts (there above s name parts is free) in
    let found : differs others (first_parts (more ++ s ∷ above) name) ≡ false = rw again at late in
    same_parts others parts (subst (λ (o : Option (List ℕ)). differs others o ≡ false) first found)
