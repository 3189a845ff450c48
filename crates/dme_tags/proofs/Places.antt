-- What a mark does at the place of its command.
use Rattle.dme_tags.proofs.Names.{[], ◌&&◌, ◌++◌, ◌+◌, ◌<◌, ◌==◌, ◌||◌, ◌∙◌, ◌∷◌, ◌≡◌, add-one, ahead_of, all_failed, ap, arith, asks_homed, Bool}
use Rattle.dme_tags.proofs.Names.{Cause, cond, count_by, count_open, drop, drop_more, Effect, Err, failure_of, false, get_or, get_or_default, Heard}
use Rattle.dme_tags.proofs.Names.{heard_in, held_kind, is_asking, is_failed, is_held, is_open, is_open_question, IsAt, IsRefused, judged, length}
use Rattle.dme_tags.proofs.Names.{List, list_any, Mark, None, not, Ok, OpenCommand, Option, put_before, refl, remove, set, set_split, settled, Some}
use Rattle.dme_tags.proofs.Names.{Stage, suc, sym, Tag, tag_is, take, take-append-drop, take_more, true, true≢false, ℕ}
use Rattle.std.proofs.lemmas.List.Recursion.{is_count_by}
use Rattle.protocol_model.specs.declared.states.Cause.TheVariants.{UnknownTag}
use Rattle.dme_tags.proofs.Kept.{any_counted}
use Rattle.dme_tags.specs.Places.{IsFound}

-- a command further back
abbrev pub behind : List OpenCommand → Heard → Heard
behind gs (Ok (hs, effect)) = Ok (gs ++ hs, effect)
behind gs (Err cause) = Err cause

put_behind : (g : OpenCommand) (gs : List OpenCommand) (r : Heard) → put_before g (behind gs r) ≡ behind (g ∷ gs) r
put_behind g gs (Ok (hs, effect)) = refl
put_behind g gs (Err cause) = refl

all_behind : (r : Heard) → r ≡ behind [] r
all_behind (Ok (hs, effect)) = refl
all_behind (Err cause) = refl

and_assoc : (a b c : Bool) → ((a && b) && c) ≡ (a && (b && c))
and_assoc true b c = refl
and_assoc false b c = refl

-- the mark goes to the first command of its tag
reaches : (front : Bool) (gs : List OpenCommand) (h : OpenCommand) (hs : List OpenCommand) (t : Tag) (m : Mark) → is_held t gs ≡ false
    → tag_is h.tag t ≡ true
    → heard_in front (gs ++ h ∷ hs) t m ≡ behind gs (settled h hs (judged (front && all_failed gs) h.kind h.stage m))
reaches front [] h hs t m first same =
    ap (λ (b : Bool). cond b (settled h hs (judged front h.kind h.stage m)) (put_before h (heard_in (front && is_failed h.stage) hs t m)))
    same
    ∙ all_behind (settled h hs (judged front h.kind h.stage m))
    ∙ ap (λ (b : Bool). behind [] (settled h hs (judged b h.kind h.stage m))) (sym (and_true front))
  where
    and_true : (b : Bool) → (b && true) ≡ b
    and_true true = refl
    and_true false = refl
reaches front (g ∷ gs) h hs t m first same = go (reaches (front && is_failed g.stage) gs h hs t m) (tag_is g.tag t) first
  where
    go : (is_held t gs ≡ false → tag_is h.tag t ≡ true
        → heard_in (front && is_failed g.stage) (gs ++ h ∷ hs) t m
        ≡ behind gs (settled h hs (judged ((front && is_failed g.stage) && all_failed gs) h.kind h.stage m)))
        → (b : Bool) → cond b true (is_held t gs) ≡ false
        → cond b (settled g (gs ++ h ∷ hs) (judged front g.kind g.stage m))
        (put_before g (heard_in (front && is_failed g.stage) (gs ++ h ∷ hs) t m))
        ≡ behind (g ∷ gs) (settled h hs (judged (front && (is_failed g.stage && all_failed gs)) h.kind h.stage m))
    go deeper true f = absurd (true≢false f)
    go deeper false f =
        ap (put_before g) (deeper f same)
        ∙ ap (λ (b : Bool). put_before g (behind gs (settled h hs (judged b h.kind h.stage m))))
        (and_assoc front (is_failed g.stage) (all_failed gs))
        ∙ put_behind g gs (settled h hs (judged (front && (is_failed g.stage && all_failed gs)) h.kind h.stage m))

pub nobody : (front : Bool) (hs : List OpenCommand) (t : Tag) (m : Mark) → is_held t hs ≡ false → heard_in front hs t m ≡ Err UnknownTag
nobody front [] t m none = refl
nobody front (h ∷ hs) t m none = go (nobody (front && is_failed h.stage) hs t m) (tag_is h.tag t) none
  where
    go : (is_held t hs ≡ false → heard_in (front && is_failed h.stage) hs t m ≡ Err UnknownTag) → (b : Bool)
        → cond b true (is_held t hs) ≡ false
        → cond b (settled h hs (judged front h.kind h.stage m)) (put_before h (heard_in (front && is_failed h.stage) hs t m))
        ≡ Err UnknownTag
    go deeper true f = absurd (true≢false f)
    go deeper false f = ap (put_before h) (deeper f)

-- the open commands by std's count
pub count_open_by : (hs : List OpenCommand) → count_open hs ≡ count_by is_open hs
count_open_by hs = is_count_by count_open is_open refl (λ h gs. turned (is_failed h.stage) (count_open gs)) hs
  where
    turned : (b : Bool) (n : ℕ) → cond b n (suc n) ≡ cond (not b) (1 + n) n
    turned true n = refl
    turned false n = omega arith

-- an open IsHomed by std's search
pub is_asking_by : (hs : List OpenCommand) → is_asking hs ≡ list_any (λ h. asks_homed h.kind && not (is_failed h.stage)) hs
is_asking_by [] = refl
is_asking_by (h ∷ hs) = ap (λ (b : Bool). (asks_homed h.kind && not (is_failed h.stage)) || b) (is_asking_by hs)

-- the same by their count
pub is_asking_counted : (hs : List OpenCommand) → is_asking hs ≡ not (count_by is_open_question hs == 0)
is_asking_counted hs = is_asking_by hs ∙ any_counted is_open_question hs

-- ---- at the place of a command

held_behind : (t : Tag) (gs : List OpenCommand) (h : OpenCommand) (hs : List OpenCommand) → tag_is h.tag t ≡ true
    → is_held t (gs ++ h ∷ hs) ≡ true
held_behind t [] h hs same = ap (λ (b : Bool). cond b true (is_held t hs)) same
held_behind t (g ∷ gs) h hs same = go (held_behind t gs h hs same) (tag_is g.tag t)
  where
    go : is_held t (gs ++ h ∷ hs) ≡ true → (b : Bool) → cond b true (is_held t (gs ++ h ∷ hs)) ≡ true
    go deeper true = refl
    go deeper false = deeper

kind_behind : (t : Tag) (gs : List OpenCommand) (h : OpenCommand) (hs : List OpenCommand) → is_held t gs ≡ false → tag_is h.tag t ≡ true
    → held_kind t (gs ++ h ∷ hs) ≡ Some h.kind
kind_behind t [] h hs first same = ap (λ (b : Bool). cond b (Some h.kind) (held_kind t hs)) same
kind_behind t (g ∷ gs) h hs first same = go (λ f. kind_behind t gs h hs f same) (tag_is g.tag t) first
  where
    go : (is_held t gs ≡ false → held_kind t (gs ++ h ∷ hs) ≡ Some h.kind) → (b : Bool) → cond b true (is_held t gs) ≡ false
        → cond b (Some g.kind) (held_kind t (gs ++ h ∷ hs)) ≡ Some h.kind
    go deeper true f = absurd (true≢false f)
    go deeper false f = deeper f

pub held_at : (t : Tag) (hs : List OpenCommand) (i : ℕ) (h : OpenCommand) → IsAt t hs i h → is_held t hs ≡ true
held_at t hs i h at = ap (is_held t) at.here ∙ held_behind t (take i hs) h (drop (suc i) hs) at.its_tag

pub kind_at : (t : Tag) (hs : List OpenCommand) (i : ℕ) (h : OpenCommand) → IsAt t hs i h → held_kind t hs ≡ Some h.kind
kind_at t hs i h at = ap (held_kind t) at.here ∙ kind_behind t (take i hs) h (drop (suc i) hs) at.first at.its_tag

pub no_kind : (t : Tag) (hs : List OpenCommand) → is_held t hs ≡ false → held_kind t hs ≡ None
no_kind t [] none = refl
no_kind t (h ∷ hs) none = go (no_kind t hs) (tag_is h.tag t) none
  where
    go : (is_held t hs ≡ false → held_kind t hs ≡ None) → (b : Bool) → cond b true (is_held t hs) ≡ false
        → cond b (Some h.kind) (held_kind t hs) ≡ None
    go deeper true f = absurd (true≢false f)
    go deeper false f = deeper f

-- what the mark does to the command there; the first argument: it is at the front
abbrev pub settled_at : Bool → List OpenCommand → ℕ → OpenCommand → Mark → Heard
settled_at b hs i h m = settled h (drop (suc i) hs) (judged b h.kind h.stage m)

heard_at : (front : Bool) (hs : List OpenCommand) (t : Tag) (m : Mark) (i : ℕ) (h : OpenCommand) (b : Bool) → IsAt t hs i h
    → b ≡ (front && all_failed (take i hs))
    → heard_in front hs t m ≡ behind (take i hs) (settled_at b hs i h m)
heard_at front hs t m i h b at is =
    ap (λ (gs : List OpenCommand). heard_in front gs t m) at.here ∙ reaches front (take i hs) h (drop (suc i) hs) t m at.first at.its_tag
    ∙ ap (λ (c : Bool). behind (take i hs) (settled_at c hs i h m)) (sym is)

-- it is changed
pub changed_at : (front : Bool) (hs : List OpenCommand) (t : Tag) (m : Mark) (i : ℕ) (h g : OpenCommand) (effect : Effect) (b : Bool)
    → IsAt t hs i h
    → b ≡ (front && all_failed (take i hs)) → settled_at b hs i h m ≡ Ok (g ∷ drop (suc i) hs, effect)
    → heard_in front hs t m ≡ Ok (set hs i g, effect)
changed_at front hs t m i h g effect b at front_is is =
    heard_at front hs t m i h b at front_is ∙ ap (behind (take i hs)) is
    ∙ ap (λ (gs : List OpenCommand). Ok (gs, effect)) (sym (set_split hs i g at.within))

-- it is ended
pub ended_at : (front : Bool) (hs : List OpenCommand) (t : Tag) (m : Mark) (i : ℕ) (h : OpenCommand) (effect : Effect) (b : Bool)
    → IsAt t hs i h
    → b ≡ (front && all_failed (take i hs)) → settled_at b hs i h m ≡ Ok (drop (suc i) hs, effect)
    → heard_in front hs t m ≡ Ok (remove hs i, effect)
ended_at front hs t m i h effect b at front_is is = heard_at front hs t m i h b at front_is ∙ ap (behind (take i hs)) is

-- the mark is unexpected
pub refused_at : (front : Bool) (hs : List OpenCommand) (t : Tag) (m : Mark) (i : ℕ) (h : OpenCommand) (cause : Option Cause) (b : Bool)
    → IsAt t hs i h
    → b ≡ (front && all_failed (take i hs)) → IsRefused (settled_at b hs i h m) cause → IsRefused (heard_in front hs t m) cause
refused_at front hs t m i h None b at front_is is = is
refused_at front hs t m i h (Some cause) b at front_is is = heard_at front hs t m i h b at front_is ∙ ap (behind (take i hs)) is

-- it has failed
failing : (b : Bool) (h : OpenCommand) (hs : List OpenCommand) → settled h hs (judged b h.kind h.stage Mark.Error)
    ≡ Ok (record h { stage = Stage.Failed } ∷ hs, failure_of (not (is_failed h.stage)))
failing b h hs = go h.stage
  where
    go : (s : Stage) → settled h hs (judged b h.kind s Mark.Error)
        ≡ Ok (record h { stage = Stage.Failed } ∷ hs, failure_of (not (is_failed s)))
    go Stage.Sent = refl
    go Stage.Received = refl
    go (Stage.Given p) = refl
    go Stage.Failed = refl

pub failed_at : (front : Bool) (hs : List OpenCommand) (t : Tag) (i : ℕ) (h : OpenCommand) → IsAt t hs i h
    → heard_in front hs t Mark.Error ≡ Ok (set hs i (record h { stage = Stage.Failed }), failure_of (not (is_failed h.stage)))
failed_at front hs t i h at =
    changed_at front hs t Mark.Error i h (record h { stage = Stage.Failed }) (failure_of (not (is_failed h.stage))) (front
    && all_failed (take i hs)) at refl
    (failing (front && all_failed (take i hs)) h (drop (suc i) hs))

ahead_behind : (t : Tag) (gs : List OpenCommand) (h : OpenCommand) (hs : List OpenCommand) → is_held t gs ≡ false → tag_is h.tag t ≡ true
    → ahead_of t (gs ++ h ∷ hs) ≡ gs
ahead_behind t [] h hs first same = ap (λ (b : Bool). cond b [] (h ∷ ahead_of t hs)) same
ahead_behind t (g ∷ gs) h hs first same = go (λ f. ahead_behind t gs h hs f same) (tag_is g.tag t) first
  where
    go : (is_held t gs ≡ false → ahead_of t (gs ++ h ∷ hs) ≡ gs) → (b : Bool) → cond b true (is_held t gs) ≡ false
        → cond b [] (g ∷ ahead_of t (gs ++ h ∷ hs)) ≡ g ∷ gs
    go deeper true f = absurd (true≢false f)
    go deeper false f = ap (λ (l : List OpenCommand). g ∷ l) (deeper f)

pub ahead_at : (t : Tag) (hs : List OpenCommand) (i : ℕ) (h : OpenCommand) → IsAt t hs i h → ahead_of t hs ≡ take i hs
ahead_at t hs i h at = ap (ahead_of t) at.here ∙ ahead_behind t (take i hs) h (drop (suc i) hs) at.first at.its_tag

both_true : (a b : Bool) → (a && b) ≡ true → (a ≡ true) × (b ≡ true)
both_true true b e = (refl, e)
both_true false b e = absurd (true≢false (sym e))

-- at the front: each earlier one has failed
pub front_at : (front : Bool) (hs : List OpenCommand) (t : Tag) (i : ℕ) (h : OpenCommand) (b : Bool) → IsAt t hs i h
    → b ≡ (front && all_failed (take i hs)) → b ≡ true
    → (front ≡ true) × (all_failed (ahead_of t hs) ≡ true)
front_at front hs t i h b at is e =
    let both : (front ≡ true) × (all_failed (take i hs) ≡ true) = both_true front (all_failed (take i hs)) (sym is ∙ e) in
    (both.0, ap all_failed (ahead_at t hs i h at) ∙ both.1)

-- ---- walking along the list

unheld_push : (t : Tag) (gs : List OpenCommand) (h : OpenCommand) → is_held t gs ≡ false → tag_is h.tag t ≡ false
    → is_held t (gs ++ h ∷ []) ≡ false
unheld_push t [] h none other = ap (λ (b : Bool). cond b true false) other
unheld_push t (g ∷ gs) h none other = go (unheld_push t gs h) (tag_is g.tag t) none
  where
    go : (is_held t gs ≡ false → tag_is h.tag t ≡ false → is_held t (gs ++ h ∷ []) ≡ false) → (b : Bool)
        → cond b true (is_held t gs) ≡ false
        → cond b true (is_held t (gs ++ h ∷ [])) ≡ false
    go deeper true f = absurd (true≢false f)
    go deeper false f = deeper f other

pub not_yet : (t : Tag) (hs : List OpenCommand) (i : ℕ) (h : OpenCommand) → i < length hs → h ≡ get_or hs i h
    → is_held t (take i hs) ≡ false
    → tag_is h.tag t ≡ false
    → is_held t (take (i + 1) hs) ≡ false
not_yet t hs i h within is first other =
    ap (is_held t) (take_more hs i h within ∙ ap (λ (g : OpenCommand). take i hs ++ g ∷ []) (sym is))
    ∙ unheld_push t (take i hs) h first other

pub place_at : (t : Tag) (hs : List OpenCommand) (i : ℕ) (h : OpenCommand) → i < length hs → h ≡ get_or hs i h
    → is_held t (take i hs) ≡ false
    → tag_is h.tag t ≡ true
    → IsAt t hs i h
place_at t hs i h within is first same = record {
  within = within;
  here = sym (take-append-drop i hs) ∙ ap (λ (gs : List OpenCommand). take i hs ++ gs) (drop_more hs i h within
      ∙ ap (λ (g : OpenCommand). g ∷ drop (i + 1) hs) (sym is) ∙ ap (λ (k : ℕ). h ∷ drop k hs) (add-one i));
  its_tag = same;
  first = first;
}

pub found_at : (t : Tag) (hs : List OpenCommand) (i : ℕ) (h : OpenCommand) → i < length hs → get_or hs i h ≡ h
    → is_held t (take i hs) ≡ false
    → tag_is h.tag t ≡ true
    → IsFound t hs i
found_at t hs i h within is first same = record {
  within = within;
  at = λ g e. place_at t hs i g within (sym e) first
      (ap (λ (k : OpenCommand). tag_is k.tag t) (sym e ∙ get_or_default hs i g h within ∙ is) ∙ same);
}

pub held_found : (t : Tag) (hs : List OpenCommand) (i : ℕ) → IsFound t hs i → true ≡ is_held t hs
held_found t [] i found = absurd (omega (arith, found.within))
held_found t (h ∷ hs) i found =
    let g : OpenCommand = get_or (h ∷ hs) i h in
    sym (held_at t (h ∷ hs) i g (found.at g (get_or_default (h ∷ hs) i g h found.within)))
