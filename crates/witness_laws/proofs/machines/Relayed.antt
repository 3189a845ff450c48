-- What a relay knows is so on the machine, also if it reads replies later.
use Rattle.witness_laws.proofs.Names.{◌++◌, ◌∙◌, ◌∷◌, ◌≡◌, ◌⊎◌, [], after_all, all_reported, Answers, ap, Bool, ClaimNoMore, ClaimsNoMore, Client}
use Rattle.witness_laws.proofs.Names.{client_line, cond, Dialogue, Down, false, filter, Frame, in_turn, inl, inr, is_at_once, is_at_once_report}
use Rattle.witness_laws.proofs.Names.{is_crossed, IsCausal, IsPart, Line, List, None, not, Option, refl, Reported, reported_at_once, reported_of}
use Rattle.witness_laws.proofs.Names.{said_all, Sends, server_line, Signal, silence, slice_get, Some, subst, suc, sym, Tag, true, Up, zero, ℕ}
use Rattle.witness.proofs.Exactness.{exact}
use Rattle.witness.specs.Asking.{Line as Heard}
use Rattle.witness_laws.specs.Claims as claims
use Rattle.witness_laws.specs.Contacts.{contact_tool, contact_frame, HadTool, HadFrame}
use Rattle.witness_laws.specs.Machines.{Entry, Message, Does, lines, IsPast, whole, past}
use Rattle.witness_laws.specs.Premises.{Keeps, KeepsUnlessCrossed}
use Rattle.witness_laws.specs.Relays.{IsReadLater, onto, IsBroughtBy, IsSoOf}
use Rattle.witness_laws.proofs.machines.Frames.{known_frame}
use Rattle.witness_laws.proofs.machines.Holding.{kept_past}
use Rattle.witness_laws.proofs.machines.Later.{read_later}
use Rattle.witness_laws.proofs.machines.Tools.{known_tool}

-- ---- a report among others

abbrev IsIn : Reported → List Reported → Type 0
IsIn x [] = ⊥
IsIn x (y ∷ ys) = (y ≡ x) ⊎ IsIn x ys

abbrev or_this : Reported → Option Reported → Reported
or_this x None = x
or_this x (Some y) = y

got_in : (x : Reported) (xs : List Reported) (i : ℕ) → slice_get xs i ≡ Some x → IsIn x xs
got_in x [] i e = absurd (cc)
got_in x (y ∷ ys) zero e = inl (ap (or_this y) e)
got_in x (y ∷ ys) (suc i) e = inr (got_in x ys i e)

abbrev IsAt : Reported → List Reported → Type 0
IsAt x xs = (i : ℕ) × (slice_get xs i ≡ Some x)

at_next : (x y : Reported) (ys : List Reported) → (y ≡ x) ⊎ IsAt x ys → IsAt x (y ∷ ys)
at_next x y ys (inl e) = (zero, ap (λ (z : Reported). Some z) e)
at_next x y ys (inr at) = (suc at.0, at.1)

in_at : (x : Reported) (xs : List Reported) → IsIn x xs → IsAt x xs
in_at x [] is = elim is [ ]
in_at x (y ∷ ys) (inl e) = at_next x y ys (inl e)
in_at x (y ∷ ys) (inr is) = at_next x y ys (inr (in_at x ys is))

filtered_in : (f : Reported → Bool) (x : Reported) (xs : List Reported) → IsIn x (filter f xs) → IsIn x xs
filtered_in f x [] is = is
filtered_in f x (y ∷ ys) is = go (f y) is (filtered_in f x ys)
  where
    deeper : (y ≡ x) ⊎ IsIn x (filter f ys) → (IsIn x (filter f ys) → IsIn x ys) → (y ≡ x) ⊎ IsIn x ys
    deeper (inl e) rest = inl e
    deeper (inr is') rest = inr (rest is')

    go : (b : Bool) → IsIn x (cond b (y ∷ filter f ys) (filter f ys)) → (IsIn x (filter f ys) → IsIn x ys) → (y ≡ x) ⊎ IsIn x ys
    go true some rest = deeper some rest
    go false some rest = inr (rest some)

joined_in : (x : Reported) (xs ys : List Reported) → IsIn x (xs ++ ys) → IsIn x xs ⊎ IsIn x ys
joined_in x [] ys is = inr is
joined_in x (z ∷ zs) ys (inl e) = inl (inl e)
joined_in x (z ∷ zs) ys (inr is) = deeper (joined_in x zs ys is)
  where
    deeper : IsIn x zs ⊎ IsIn x ys → ((z ≡ x) ⊎ IsIn x zs) ⊎ IsIn x ys
    deeper (inl a) = inl (inr a)
    deeper (inr b) = inr b

-- ---- one list that claims no more than another

claim_at : (xs ys : List Reported) → ClaimNoMore xs ys → (i : ℕ) (x : Reported) → slice_get xs i ≡ Some x
    → (y : Reported) × (slice_get ys i ≡ Some y) × ClaimsNoMore x y
claim_at [] [] c i x e = absurd (cc)
claim_at [] (y ∷ ys) c i x e = elim c [ ]
claim_at (z ∷ zs) [] c i x e = elim c [ ]
claim_at (z ∷ zs) (y ∷ ys) c zero x e = (y, refl, subst (λ (w : Reported). ClaimsNoMore w y) (ap (or_this z) e) c.0)
claim_at (z ∷ zs) (y ∷ ys) c (suc i) x e = claim_at zs ys c.1 i x e

part_known : {A : Type 0} (x y : Option A) (a : A) → IsPart x y → x ≡ Some a → y ≡ Some a
part_known _ _ a (claims.unknown x) e = absurd (cc)
part_known _ _ a (claims.known x) e = e

claimed_tool : (x y : Reported) (tool : List ℕ) → ClaimsNoMore x y → contact_tool x ≡ Some tool → contact_tool y ≡ Some tool
claimed_tool _ _ tool (claims.same x) e = e
claimed_tool _ _ tool (claims.moved p frame) e = absurd (cc)
claimed_tool _ _ tool (claims.framed frame) e = absurd (cc)
claimed_tool _ _ tool (claims.touched p d t u f g at a b) e = part_known t u tool a e
claimed_tool _ _ tool (claims.contact p d t name f g at a b) e = part_known t (Some name) tool a e

claimed_frame : (x y : Reported) (frame : Frame) → ClaimsNoMore x y → contact_frame x ≡ Some frame → contact_frame y ≡ Some frame
claimed_frame _ _ frame (claims.same x) e = e
claimed_frame _ _ frame (claims.moved p f) e = absurd (cc)
claimed_frame _ _ frame (claims.framed f) e = absurd (cc)
claimed_frame _ _ frame (claims.touched p d t u f g at a b) e = part_known f g frame b e
claimed_frame _ _ frame (claims.contact p d t name f g at a b) e = part_known f (Some g) frame b e

-- ---- all that a history reports

reported_at_once_is : {A : Type 0} (look : Reported → Option A) (a : A) (r : Reported) (line : List ℕ) (b : Bool) → look (Reported.Other Client line) ≡ None
    → IsIn r (reported_at_once line b) → look r ≡ Some a → ⊥
reported_at_once_is look a r line false none is e = is
reported_at_once_is look a r line true none (inl same) e =
    let it : None ≡ Some a = sym none ∙ (ap look same ∙ e) in absurd (cc)
reported_at_once_is look a r line true none (inr is) e = is

-- if each line brings what is so
abbrev Tells : {A : Type 0} → (Reported → Option A) → A → (Option (Tag × Signal) → List Entry → Type 0) → Type 0
Tells look a Had = (line : List ℕ) (what : Option (Tag × Signal)) (h : List Entry) → Keeps (Message (Answers line what) ∷ h)
    → (i : ℕ) (r : Reported) → slice_get (reported_of true line what (lines h)) i ≡ Some r → look r ≡ Some a → Had what h

brought : {A : Type 0} (look : Reported → Option A) (a : A) (Had : Option (Tag × Signal) → List Entry → Type 0) → Tells look a Had
    → ((line : List ℕ) → look (Reported.Other Client line) ≡ None)
    → (all h : List Entry) → IsPast all h → Keeps all → (r : Reported) → IsIn r (all_reported true (lines h)) → look r ≡ Some a → IsBroughtBy Had all r
brought look a Had tells none all [] t k r is e = elim is [ ]
brought look a Had tells none all (Does cause effect ∷ h) t k r is e = brought look a Had tells none all h (past (Does cause effect) h t) k r is e
brought look a Had tells none all (Message (Sends line what) ∷ h) t k r is e =
    go (joined_in r (all_reported true (lines h)) (reported_at_once line (is_at_once what)) is)
    (λ older. brought look a Had tells none all h (past (Message (Sends line what)) h t) k r older e)
  where
    go : IsIn r (all_reported true (lines h)) ⊎ IsIn r (reported_at_once line (is_at_once what))
        → (IsIn r (all_reported true (lines h)) → IsBroughtBy Had all r) → IsBroughtBy Had all r
    go (inl older) rest = rest older
    go (inr this) rest = absurd (reported_at_once_is look a r line (is_at_once what) (none line) this e)
brought look a Had tells none all (Message (Answers line what) ∷ h) t k r is e =
    go (joined_in r (all_reported true (lines h)) (reported_of true line what (lines h)) is)
    (λ older. brought look a Had tells none all h (past (Message (Answers line what)) h t) k r older e)
  where
    this_line : IsAt r (reported_of true line what (lines h)) → IsBroughtBy Had all r
    this_line at = record {
      line = line;
      what = what;
      before = h;
      past = t;
      at = at.0;
      brought = at.1;
      had = tells line what h (kept_past all (Message (Answers line what) ∷ h) t k) at.0 r at.1 e;
    }

    go : IsIn r (all_reported true (lines h)) ⊎ IsIn r (reported_of true line what (lines h))
        → (IsIn r (all_reported true (lines h)) → IsBroughtBy Had all r) → IsBroughtBy Had all r
    go (inl older) rest = rest older
    go (inr this) rest = this_line (in_at r (reported_of true line what (lines h)) this)

-- ---- lines of both ends, in either form

read_onto : (sent : List Line) (older : List Heard) → said_all (after_all true older) sent ≡ after_all true (onto sent older)
read_onto [] older = refl
read_onto (Up line ∷ sent) older = read_onto sent (client_line line ∷ older)
read_onto (Down line ∷ sent) older = read_onto sent (server_line line ∷ older)

in_step : (sent : List Line) (h : List Entry) → lines h ≡ onto sent [] → said_all (silence true) sent ≡ after_all true (lines h)
in_step sent h e = read_onto sent [] ∙ ap (after_all true) (sym e)

uncrossed : (sent : List Line) (h : List Entry) → lines h ≡ onto sent [] → (said_all (silence true) sent).crossed ≡ false
    → is_crossed true (lines h) ≡ false
uncrossed sent h e free =
    sym (ap (λ (d : Dialogue). d.crossed) (in_step sent h e ∙ exact true (lines h))) ∙ free

-- ---- of a relay

relayed : {A : Type 0} (look : Reported → Option A) (a : A) (Had : Option (Tag × Signal) → List Entry → Type 0) → Tells look a Had
    → ((line : List ℕ) → look (Reported.Other Client line) ≡ None)
    → ((x y : Reported) → ClaimsNoMore x y → look x ≡ Some a → look y ≡ Some a)
    → (sent read : List Line) (h : List Entry) → lines h ≡ onto sent [] → IsReadLater sent read → IsCausal (silence true) sent
    → (said_all (silence true) sent).crossed ≡ false → (said_all (silence true) read).crossed ≡ false → Keeps h
    → (i : ℕ) (r : Reported) → slice_get (in_turn (said_all (silence true) read).reported) i ≡ Some r → look r ≡ Some a
    → IsSoOf Had sent h i r
relayed look a Had tells none more sent read h same order causal free free_read k i r e known =
    go (claim_at (in_turn (said_all (silence true) read).reported) (in_turn (said_all (silence true) sent).reported)
    (read_later sent read order causal free free_read) i r e)
  where
    go : (y : Reported) × (slice_get (in_turn (said_all (silence true) sent).reported) i ≡ Some y) × ClaimsNoMore r y → IsSoOf Had sent h i r
    go it = record {
      report = it.0;
      same_place = it.1;
      claims = it.2;
      by = brought look a Had tells none h h whole k it.0
          (subst (λ (d : Dialogue). IsIn it.0 d.reported) (in_step sent h same ∙ exact true (lines h))
          (filtered_in (λ x. not (is_at_once_report x)) it.0 (said_all (silence true) sent).reported
          (got_in it.0 (in_turn (said_all (silence true) sent).reported) i it.1)))
          (more r it.0 it.2 known);
    }

pub relayed_tool : (sent read : List Line) (h : List Entry) → lines h ≡ onto sent [] → IsReadLater sent read → IsCausal (silence true) sent
    → (said_all (silence true) sent).crossed ≡ false → (said_all (silence true) read).crossed ≡ false → KeepsUnlessCrossed h
    → (i : ℕ) (r : Reported) (tool : List ℕ) → slice_get (in_turn (said_all (silence true) read).reported) i ≡ Some r → contact_tool r ≡ Some tool
    → IsSoOf (λ what before. HadTool what before tool) sent h i r
relayed_tool sent read h same order causal free free_read k i r tool e known =
    relayed contact_tool tool (λ what before. HadTool what before tool)
    (λ line what before kept at x got named. known_tool line what before (λ n. kept) at x tool got named) (λ line. refl)
    (λ x y c f. claimed_tool x y tool c f) sent read h same order causal free free_read (k (uncrossed sent h same free)) i r e known

pub relayed_frame : (sent read : List Line) (h : List Entry) → lines h ≡ onto sent [] → IsReadLater sent read → IsCausal (silence true) sent
    → (said_all (silence true) sent).crossed ≡ false → (said_all (silence true) read).crossed ≡ false → KeepsUnlessCrossed h
    → (i : ℕ) (r : Reported) (frame : Frame) → slice_get (in_turn (said_all (silence true) read).reported) i ≡ Some r → contact_frame r ≡ Some frame
    → IsSoOf (λ what before. HadFrame what before frame) sent h i r
relayed_frame sent read h same order causal free free_read k i r frame e known =
    relayed contact_frame frame (λ what before. HadFrame what before frame)
    (λ line what before kept at x got named. known_frame line what before (λ n. kept) at x frame got named) (λ line. refl)
    (λ x y c f. claimed_frame x y frame c f) sent read h same order causal free free_read (k (uncrossed sent h same free)) i r e known
