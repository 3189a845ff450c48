-- What a reply does to a list of open commands.
use Rattle.protocol_model.proofs.Names.{[], ◌&&◌, ◌++◌, ◌∙◌, ◌∷◌, ◌≡◌, ap, Becomes, Bool, Breaks, Closes, Counts, Datum, Effect, Err, false, Heard}
use Rattle.protocol_model.proofs.Names.{heard_in, is_failed, is_held, judged, List, Ok, OpenCommand, Option, put_before, refl, Refused, settled}
use Rattle.protocol_model.proofs.Names.{Stage, sym, Tag, tag_is, true, Verdict}
use Rattle.protocol_model.specs.Replies.{Mark}
use Rattle.protocol_model.proofs.table.Basics.{if_cases, if_true, if_false}

-- an expected reply: what is held then, and the effect
abbrev pub two : List OpenCommand → Effect → Heard
two hs e = Ok (hs, e)

-- the parts of a list of open commands and its effect
abbrev hs_in : Heard → List OpenCommand → List OpenCommand
hs_in (Ok r) d = r.0
hs_in (Err c) d = d

abbrev effect_in : Heard → Effect → Effect
effect_in (Ok r) d = r.1
effect_in (Err c) d = d

pub same_two : (hs gs : List OpenCommand) (e f : Effect) → two hs e ≡ two gs f → (hs ≡ gs) × (e ≡ f)
same_two hs gs e f h = (ap (λ (r : Heard). hs_in r gs) h, ap (λ (r : Heard). effect_in r f) h)

-- a mark at the first command, and after it
pub heard_at : (front : Bool) (h : OpenCommand) (hs : List OpenCommand) (t : Tag) (m : Mark) → tag_is h.tag t ≡ true
    → heard_in front (h ∷ hs) t m ≡ settled h hs (judged front h.kind h.stage m)
heard_at front h hs t m e = if_true {A = Heard} (tag_is h.tag t) _ _ e

-- a reply to another tag passes a command by
pub heard_past : (front : Bool) (h : OpenCommand) (hs : List OpenCommand) (t : Tag) (m : Mark) → tag_is h.tag t ≡ false
    → heard_in front (h ∷ hs) t m ≡ put_before h (heard_in (front && is_failed h.stage) hs t m)
heard_past front h hs t m e = if_false {A = Heard} (tag_is h.tag t) _ _ e

-- a command at another stage
abbrev pub staged : OpenCommand → Stage → OpenCommand
staged h s = record h { stage = s }

-- what a reply at the first command can have done
settled_cases : (h : OpenCommand) (hs gs : List OpenCommand) (e : Effect) (v : Verdict) (P : Type 0) → settled h hs v ≡ two gs e
    → ((s : Stage) → v ≡ Becomes s → gs ≡ staged h s ∷ hs → e ≡ Effect.Quiet → P)
    → (v ≡ Breaks → gs ≡ staged h Stage.Failed ∷ hs → e ≡ Effect.Failure → P)
    → (v ≡ Closes → gs ≡ hs → e ≡ Effect.Quiet → P)
    → ((given : Option Datum) → v ≡ Counts given → gs ≡ hs → e ≡ Effect.Count h.kind given → P)
    → P
settled_cases h hs gs e (Becomes s) P is becomes breaks closes counts = let same = same_two _ _ _ _ is
    in becomes s refl (sym same.0) (sym same.1)
settled_cases h hs gs e Breaks P is becomes breaks closes counts = let same = same_two _ _ _ _ is in breaks refl (sym same.0) (sym same.1)
settled_cases h hs gs e Closes P is becomes breaks closes counts = let same = same_two _ _ _ _ is in closes refl (sym same.0) (sym same.1)
settled_cases h hs gs e (Counts given) P is becomes breaks closes counts = let same = same_two _ _ _ _ is
    in counts given refl (sym same.0) (sym same.1)
settled_cases h hs gs e (Refused c) P is becomes breaks closes counts = absurd (cc)

put_cases : (h : OpenCommand) (r : Heard) (gs : List OpenCommand) (e : Effect) (P : Type 0) → put_before h r ≡ two gs e
    → ((rest : List OpenCommand) → r ≡ two rest e → gs ≡ h ∷ rest → P) → P
put_cases h (Ok (hs, f)) gs e P is k = let same = same_two _ _ _ _ is in k hs (ap (λ (x : Effect). two hs x) same.1) (sym same.0)
put_cases h (Err c) gs e P is k = absurd (cc)

-- what a reply can have done to a list that is not empty
pub heard_cases : (front : Bool) (h : OpenCommand) (hs : List OpenCommand) (t : Tag) (m : Mark) (gs : List OpenCommand) (e : Effect)
    (P : Type 0)
    → heard_in front (h ∷ hs) t m ≡ two gs e
    → ((s : Stage) → tag_is h.tag t ≡ true → judged front h.kind h.stage m ≡ Becomes s → gs ≡ staged h s ∷ hs → e ≡ Effect.Quiet → P)
    → (tag_is h.tag t ≡ true → judged front h.kind h.stage m ≡ Breaks → gs ≡ staged h Stage.Failed ∷ hs → e ≡ Effect.Failure → P)
    → (tag_is h.tag t ≡ true → judged front h.kind h.stage m ≡ Closes → gs ≡ hs → e ≡ Effect.Quiet → P)
    → ((given : Option Datum) → tag_is h.tag t ≡ true → judged front h.kind h.stage m ≡ Counts given → gs ≡ hs
    → e ≡ Effect.Count h.kind given → P)
    → ((rest : List OpenCommand) → tag_is h.tag t ≡ false → heard_in (front && is_failed h.stage) hs t m ≡ two rest e → gs ≡ h ∷ rest → P)
    → P
heard_cases front h hs t m gs e P is becomes breaks closes counts past =
    if_cases {A = Heard} (tag_is h.tag t) (settled h hs (judged front h.kind h.stage m))
    (put_before h (heard_in (front && is_failed h.stage) hs t m)) (two gs e) P is
    (λ same now. settled_cases h hs gs e (judged front h.kind h.stage m) P now (λ s. becomes s same) (breaks same) (closes same)
    (λ given. counts given same))
    (λ other later. put_cases h (heard_in (front && is_failed h.stage) hs t m) gs e P later (λ rest. past rest other))

-- ---- with one command more at the end

-- an expected reply is also expected with one more command
pub heard_more : (front : Bool) (hs : List OpenCommand) (x : OpenCommand) (t : Tag) (m : Mark) (gs : List OpenCommand) (e : Effect)
    → heard_in front hs t m ≡ two gs e → heard_in front (hs ++ x ∷ []) t m ≡ two (gs ++ x ∷ []) e
heard_more front [] x t m gs e is = absurd (cc)
heard_more front (h ∷ hs) x t m gs e is =
    heard_cases front h hs t m gs e (heard_in front (h ∷ (hs ++ x ∷ [])) t m ≡ two (gs ++ x ∷ []) e) is
    (λ s same v g f. heard_at front h (hs ++ x ∷ []) t m same ∙ (ap (settled h (hs ++ x ∷ [])) v ∙ rw (g, f) refl))
    (λ same v g f. heard_at front h (hs ++ x ∷ []) t m same ∙ (ap (settled h (hs ++ x ∷ [])) v ∙ rw (g, f) refl))
    (λ same v g f. heard_at front h (hs ++ x ∷ []) t m same ∙ (ap (settled h (hs ++ x ∷ [])) v ∙ rw (g, f) refl))
    (λ given same v g f. heard_at front h (hs ++ x ∷ []) t m same ∙ (ap (settled h (hs ++ x ∷ [])) v ∙ rw (g, f) refl))
    (λ rest other later g. heard_past front h (hs ++ x ∷ []) t m other
    ∙ (ap (put_before h) (heard_more (front && is_failed h.stage) hs x t m rest e later) ∙ rw g refl))

-- ---- the number of held tags does not grow

-- a tag that is not held is not held after a reply
pub not_held_keeps : (u : Tag) (front : Bool) (hs : List OpenCommand) (t : Tag) (m : Mark) (gs : List OpenCommand) (e : Effect)
    → heard_in front hs t m ≡ two gs e → is_held u hs ≡ false → is_held u gs ≡ false
not_held_keeps u front [] t m gs e is free = absurd (cc)
not_held_keeps u front (h ∷ hs) t m gs e is free =
    if_cases {A = Bool} (tag_is h.tag u) true (is_held u hs) false (is_held u gs ≡ false) free
    (λ same no_way. absurd (cc))
    (λ other behind_it.
    heard_cases front h hs t m gs e (is_held u gs ≡ false) is
    (λ s same v g f. rw g free)
    (λ same v g f. rw g free)
    (λ same v g f. rw g behind_it)
    (λ given same v g f. rw g behind_it)
    (λ rest other_tag later g. rw g (if_false {A = Bool} (tag_is h.tag u) true (is_held u rest) other
    ∙ not_held_keeps u (front && is_failed h.stage) hs t m rest e later behind_it)))

-- each tag is held once
abbrev pub AreDistinct : List OpenCommand → Type 0
AreDistinct [] = Unit {0}
AreDistinct (h ∷ hs) = (is_held h.tag hs ≡ false) × AreDistinct hs

-- tags that differ differ after a reply
pub distinct_keeps : (front : Bool) (hs : List OpenCommand) (t : Tag) (m : Mark) (gs : List OpenCommand) (e : Effect)
    → heard_in front hs t m ≡ two gs e
    → AreDistinct hs → AreDistinct gs
distinct_keeps front [] t m gs e is d = absurd (cc)
distinct_keeps front (h ∷ hs) t m gs e is d =
    heard_cases front h hs t m gs e (AreDistinct gs) is
    (λ s same v g f. rw g d)
    (λ same v g f. rw g d)
    (λ same v g f. rw g d.1)
    (λ given same v g f. rw g d.1)
    (λ rest other later g. rw g (
      not_held_keeps h.tag (front && is_failed h.stage) hs t m rest e later d.0,
      distinct_keeps (front && is_failed h.stage) hs t m rest e later d.1,
    ))
