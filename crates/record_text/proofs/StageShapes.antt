-- A line leads from a stage in one way, and the lines of a record lead through its stages.
use Rattle.record_text.proofs.Names.{[], ◌++◌, ◌+◌, ◌∷◌, ◌≡◌, AllByRecursion, ap, append-nil, append_assoc, AreAsked, arith, asked_lines, body, codes}
use Rattle.record_text.proofs.Names.{Entry, entry_line, feature_line, Follow, head, head_lines, header, inl, inr, IsAsked, IsAskedTouch, IsPartGiven}
use Rattle.record_text.proofs.Names.{IsPointCount, Kept, Leads, length, length-append, List, map, None, nothing_kept, Option, part_lines, record_lines}
use Rattle.record_text.proofs.Names.{refl, Some, Stage, start, subst, Touch, touch_line, Version, Wanted, wanted_lines, within, ℕ}
use Rattle.record_text.proofs.StageRuns.{leads_more}

-- ---- lines that were led through, cut in two

pub record Halves (xs ys : List (List ℕ)) (p r : Stage) : Type 0 where
  pub mid : Stage
  pub front : Leads p xs mid
  pub behind : Leads mid ys r

pub leads_split : (xs ys : List (List ℕ)) (p r : Stage) → Leads p (xs ++ ys) r → Halves xs ys p r
leads_split [] ys p r a = record { mid = p; front = refl; behind = a }
leads_split (x ∷ xs) ys p r a =
    let s = leads_split xs ys a.0 r a.2 in
    record { mid = s.mid; front = (a.0, a.1, s.front); behind = s.behind }

-- ---- the lines of a head lead to its END

lead_touches : (ts us : List Touch) (t : Touch) (part : Option (List ℕ)) (asked : List Wanted) (label : List ℕ) (count : ℕ)
    → IsAskedTouch t → AllByRecursion IsAskedTouch ts → length us + length (t ∷ ts) ≡ count
    → Leads (within part asked (record { label = label; count = count; touches = us })) (map touch_line (t ∷ ts))
    (head part (asked ++ record { label = label; touches = us ++ t ∷ ts } ∷ []))
lead_touches [] us t part asked label count h all e = (
  head part (asked ++ record { label = label; touches = us ++ t ∷ [] } ∷ []),
  inr (record { touch = t; is_touch = h; line_is = refl; whole = e; next = refl }),
  refl,
)
lead_touches (n ∷ ts) us t part asked label count h all e =
    let rest = lead_touches ts (us ++ t ∷ []) n part asked label count all.0 all.1 (omega (arith, e, length-append us (t ∷ []))) in (
      within part asked (record { label = label; count = count; touches = us ++ t ∷ [] }),
      inl (record { touch = t; is_touch = h; line_is = refl; more = omega (arith, e); next = refl }),
      rw (append_assoc us (t ∷ []) (n ∷ ts)) at rest,
    )

lead_wanted : (w : Wanted) (part : Option (List ℕ)) (asked : List Wanted) (ts : List Touch) → w.touches ≡ ts → IsAsked w
    → Leads (head part asked) (feature_line w.label (length ts) ∷ map touch_line ts)
    (head part (asked ++ record { label = w.label; touches = ts } ∷ []))
lead_wanted w part asked [] e h =
    let some = h.counted.0 in
    let none : length w.touches ≡ 0 = ap (λ (xs : List Touch). length xs) e in
    absurd (omega (arith, some, none))
lead_wanted w part asked (t ∷ ts) e h =
    let all = subst (λ (xs : List Touch). AllByRecursion IsAskedTouch xs) e h.touches in
    let counted = subst (λ (xs : List Touch). IsPointCount (length xs)) e h.counted in (
      within part asked (record { label = w.label; count = length (t ∷ ts); touches = [] }),
      inr (inl (record {
        label = w.label;
        count = length (t ∷ ts);
        named = h.label;
        counted = counted;
        line_is = refl;
        next = refl;
      })),
      lead_touches ts [] t part asked w.label (length (t ∷ ts)) all.0 all.1 (omega arith),
    )

lead_asked : (ws : List Wanted) (part : Option (List ℕ)) (asked : List Wanted) → AreAsked ws
    → Leads (head part asked) (asked_lines ws) (head part (asked ++ ws))
lead_asked [] part asked h = ap (λ (xs : List Wanted). head part xs) (append-nil asked)
lead_asked (w ∷ ws) part asked h =
    let rest = lead_asked ws part (asked ++ w ∷ []) h.1 in
    leads_more (wanted_lines w) (asked_lines ws) (head part asked) (head part (asked ++ w ∷ [])) (head part (asked ++ w ∷ ws))
    (lead_wanted w part asked w.touches refl h.0) (rw (append_assoc asked (w ∷ []) ws) at rest)

lead_part : (part : Option (List ℕ)) → IsPartGiven part → Leads (head None []) (part_lines part) (head part [])
lead_part None h = refl
lead_part (Some text) h = (
  head (Some text) [],
  inl (record { text = text; first = refl; alone = refl; is_part = h; line_is = refl; next = refl }),
  refl,
)

-- the lines of a head but END
pub lead_open : (v : Version) (part : Option (List ℕ)) (asked : List Wanted) → IsPartGiven part → AreAsked asked
    → Leads start (header v ∷ (part_lines part ++ asked_lines asked)) (head part asked)
lead_open v part asked h g =
    let all = leads_more (part_lines part) (asked_lines asked) (head None []) (head part []) (head part asked) (lead_part part h)
    (lead_asked asked part [] g) in
    (head None [], (v, refl, refl), all)

pub lead_head : (v : Version) (part : Option (List ℕ)) (asked : List Wanted) → IsPartGiven part → AreAsked asked
    → Leads start (head_lines v part asked) (body part asked nothing_kept)
lead_head v part asked h g =
    let ended : Leads (head part asked) (codes "END" ∷ []) (body part asked nothing_kept) = (
      body part asked nothing_kept,
      inr (inr (record { line_is = refl; next = refl })),
      refl,
    ) in
    let whole = leads_more (header v ∷ (part_lines part ++ asked_lines asked)) (codes "END" ∷ []) start (head part asked)
    (body part asked nothing_kept) (lead_open v part asked h g) ended in
    subst (λ (ls : List (List ℕ)). Leads start (header v ∷ ls) (body part asked nothing_kept))
    (append_assoc (part_lines part) (asked_lines asked) (codes "END" ∷ [])) whole

-- ---- and the lines of entries to what they leave

lead_entries : (entries : List Entry) (part : Option (List ℕ)) (asked : List Wanted) (old new : Kept) → Follow asked old entries new
    → Leads (body part asked old) (map entry_line entries) (body part asked new)
lead_entries [] part asked old new h = ap (λ (k : Kept). body part asked k) h
lead_entries (entry ∷ entries) part asked old new h = (
  body part asked h.0,
  record { mid = h.0; follows = record { entry = entry; line_is = refl; follows = h.1 }; next = refl },
  lead_entries entries part asked h.0 new h.2,
)

-- the lines of a record lead to what its entries leave
pub lead_record : (v : Version) (part : Option (List ℕ)) (asked : List Wanted) (entries : List Entry) (kept : Kept) → IsPartGiven part → AreAsked asked
    → Follow asked nothing_kept entries kept → Leads start (record_lines v part asked entries) (body part asked kept)
lead_record v part asked entries kept h g f = leads_more (head_lines v part asked) (map entry_line entries) start
    (body part asked nothing_kept) (body part asked kept) (lead_head v part asked h g)
    (lead_entries entries part asked nothing_kept kept f)
