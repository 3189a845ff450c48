-- How many open commands there are after a reply, and which of them have failed.
use Rattle.protocol_model.proofs.Names.{[], ◌&&◌, ◌∙◌, ◌∷◌, ◌≡◌, ◌≤◌, ap, arith, asks_data, Becomes, Bool, Breaks, Cause, Closes, cond, count_open}
use Rattle.protocol_model.proofs.Names.{Counts, Datum, Effect, false, false≢true, fits, heard_in, is_failed, is_held, judged, judged_ack, judged_done}
use Rattle.protocol_model.proofs.Names.{judged_error, judged_given, Kind, List, OpenCommand, Option, put_before, refl, Refused, settled, Stage, subst}
use Rattle.protocol_model.proofs.Names.{suc, sym, Tag, tag_is, true, ℕ}
use Rattle.protocol_model.specs.Replies.{Mark}
use Rattle.protocol_model.proofs.table.Basics.{if_cases, if_true, if_false, tag_is-refl, tag_is-true}
use Rattle.protocol_model.proofs.table.Walks.{two, heard_at, heard_past, staged, heard_cases, AreDistinct}

-- ---- what has failed stays so

data_failed : (b : Bool) (p : Datum) → judged_given b Stage.Failed p ≡ Refused Cause.OutOfOrder
data_failed true p = refl
data_failed false p = refl

-- a command that has failed goes to no other stage
pub failed_stays : (b : Bool) (k : Kind) (m : Mark) (s : Stage) → judged b k Stage.Failed m ≡ Becomes s → s ≡ Stage.Failed
failed_stays b k Mark.Ack s e = absurd (cc)
failed_stays b k (Mark.Given p) s e = let d : judged_given (b && fits k p) Stage.Failed p ≡ Refused Cause.OutOfOrder =
    data_failed (b && fits k p) p in absurd (cc)
failed_stays b k Mark.Done s e = absurd (cc)
failed_stays b k Mark.Error s e = cc

-- the stage that is reported as failed is Failed
pub is_failed-true : (s : Stage) → is_failed s ≡ true → s ≡ Stage.Failed
is_failed-true Stage.Sent e = absurd (false≢true e)
is_failed-true Stage.Received e = absurd (false≢true e)
is_failed-true (Stage.Given p) e = absurd (false≢true e)
is_failed-true Stage.Failed e = refl

pub count_cons : (h : OpenCommand) (hs : List OpenCommand) → count_open (h ∷ hs) ≤ suc (count_open hs)
count_cons h hs = go (is_failed h.stage)
  where
    go : (b : Bool) → cond b (count_open hs) (suc (count_open hs)) ≤ suc (count_open hs)
    go true = omega arith
    go false = omega arith

pub count_behind : (h : OpenCommand) (hs : List OpenCommand) → count_open hs ≤ count_open (h ∷ hs)
count_behind h hs = go (is_failed h.stage)
  where
    go : (b : Bool) → count_open hs ≤ cond b (count_open hs) (suc (count_open hs))
    go true = omega arith
    go false = omega arith

count_becomes : (front : Bool) (h : OpenCommand) (hs : List OpenCommand) (m : Mark) (s : Stage) (b : Bool) → is_failed h.stage ≡ b
    → judged front h.kind h.stage m ≡ Becomes s → count_open (staged h s ∷ hs) ≤ count_open (h ∷ hs)
count_becomes front h hs m s true f v =
    let failed : h.stage ≡ Stage.Failed = is_failed-true h.stage f in
    let still : s ≡ Stage.Failed = failed_stays front h.kind m s (ap (λ (x : Stage). judged front h.kind x m) (sym failed) ∙ v) in
    let one : count_open (staged h s ∷ hs) ≡ count_open hs = ap (λ (x : Stage). cond (is_failed x) (count_open hs) (suc (count_open hs)))
    still in
    rw one (count_behind h hs)
count_becomes front h hs m s false f v =
    let one : count_open (h ∷ hs) ≡ suc (count_open hs) = if_false {A = ℕ} (is_failed h.stage) (count_open hs) (suc (count_open hs)) f in
    rw one (count_cons (staged h s) hs)

-- a reply opens no command
pub count_keeps : (front : Bool) (hs : List OpenCommand) (t : Tag) (m : Mark) (gs : List OpenCommand) (e : Effect)
    → heard_in front hs t m ≡ two gs e
    → count_open gs ≤ count_open hs
count_keeps front [] t m gs e is = absurd (cc)
count_keeps front (h ∷ hs) t m gs e is =
    heard_cases front h hs t m gs e (count_open gs ≤ count_open (h ∷ hs)) is
    (λ s same v g f. rw g (count_becomes front h hs m s (is_failed h.stage) refl v))
    (λ same v g f. rw g (count_behind h hs))
    (λ same v g f. rw g (count_behind h hs))
    (λ given same v g f. rw g (count_behind h hs))
    (λ rest other later g. rw g (go (is_failed h.stage) rest (count_keeps (front && is_failed h.stage) hs t m rest e later)))
  where
    go : (b : Bool) (rest : List OpenCommand) → count_open rest ≤ count_open hs
        → cond b (count_open rest) (suc (count_open rest)) ≤ cond b (count_open hs) (suc (count_open hs))
    go true rest le = le
    go false rest le = omega arith

-- ---- if all have failed

-- each of these commands has failed
abbrev pub AreFailed : List OpenCommand → Type 0
AreFailed [] = Unit {0}
AreFailed (h ∷ hs) = (h.stage ≡ Stage.Failed) × AreFailed hs

-- if none is open, each has failed
pub all_failed : (hs : List OpenCommand) → count_open hs ≡ 0 → AreFailed hs
all_failed [] e = tt
all_failed (h ∷ hs) e = if_cases {A = ℕ} (is_failed h.stage) (count_open hs) (suc (count_open hs)) 0 (AreFailed (h ∷ hs)) e
    (λ failed others. (is_failed-true h.stage failed, all_failed hs others))
    (λ live no_way. absurd (cc))

pub none_open : (hs : List OpenCommand) → AreFailed hs → count_open hs ≡ 0
none_open [] f = refl
none_open (h ∷ hs) f = if_true {A = ℕ} (is_failed h.stage) (count_open hs) (suc (count_open hs)) (ap is_failed f.0) ∙ none_open hs f.1

-- a reply to failed commands only ends them, wherever the front is
pub record OnlyEnds (hs gs : List OpenCommand) (t : Tag) (m : Mark) (e : Effect) : Type 0 where
  pub quiet : e ≡ Effect.Quiet
  pub left : AreFailed gs
  pub anywhere : (front : Bool) → heard_in front hs t m ≡ two gs e

judged_failed : (a b : Bool) (k : Kind) (m : Mark) → judged a k Stage.Failed m ≡ judged b k Stage.Failed m
judged_failed a b k Mark.Ack = refl
judged_failed a b k (Mark.Given p) = data_failed (a && fits k p) p ∙ sym (data_failed (b && fits k p) p)
judged_failed a b k Mark.Done = refl
judged_failed a b k Mark.Error = refl

never_breaks : (b : Bool) (k : Kind) (m : Mark) → judged b k Stage.Failed m ≡ Breaks → ⊥
never_breaks b k Mark.Ack e = cc
never_breaks b k (Mark.Given p) e = let d : judged_given (b && fits k p) Stage.Failed p ≡ Refused Cause.OutOfOrder =
    data_failed (b && fits k p) p in cc
never_breaks b k Mark.Done e = cc
never_breaks b k Mark.Error e = cc

-- a command that has failed is not counted
pub never_counts : (b : Bool) (k : Kind) (m : Mark) (given : Option Datum) → judged b k Stage.Failed m ≡ Counts given → ⊥
never_counts b k Mark.Ack given e = cc
never_counts b k (Mark.Given p) given e = let d : judged_given (b && fits k p) Stage.Failed p ≡ Refused Cause.OutOfOrder =
    data_failed (b && fits k p) p in cc
never_counts b k Mark.Done given e = cc
never_counts b k Mark.Error given e = cc

-- if each has failed, a reply counts nothing, and is expected at the front or not
pub only_ends : (front : Bool) (hs : List OpenCommand) (t : Tag) (m : Mark) (gs : List OpenCommand) (e : Effect)
    → heard_in front hs t m ≡ two gs e
    → AreFailed hs → OnlyEnds hs gs t m e
only_ends front [] t m gs e is failed = absurd (cc)
only_ends front (h ∷ hs) t m gs e is failed =
    heard_cases front h hs t m gs e (OnlyEnds (h ∷ hs) gs t m e) is
    (λ s same v g f.
    let still : s ≡ Stage.Failed = failed_stays front h.kind m s (at_failed front ∙ v) in
    record {
      quiet = f;
      left = rw g (still, failed.1);
      anywhere = λ (b : Bool). heard_at b h hs t m same
          ∙ (ap (settled h hs) (moved b ∙ v) ∙ rw (g, f) refl);
    })
    (λ same v g f. absurd (never_breaks front h.kind m (at_failed front ∙ v)))
    (λ same v g f. record {
      quiet = f;
      left = rw g failed.1;
      anywhere = λ (b : Bool). heard_at b h hs t m same
          ∙ (ap (settled h hs) (moved b ∙ v) ∙ rw (g, f) refl);
    })
    (λ given same v g f. absurd (never_counts front h.kind m given (at_failed front ∙ v)))
    (λ rest other later g.
    let behind_it : OnlyEnds hs rest t m e = only_ends (front && is_failed h.stage) hs t m rest e later failed.1 in
    record {
      quiet = behind_it.quiet;
      left = rw g (failed.0, behind_it.left);
      anywhere = λ (b : Bool). heard_past b h hs t m other ∙ (ap (put_before h) (behind_it.anywhere (b && is_failed h.stage)) ∙ rw g refl);
    })
  where
    at_failed : (b : Bool) → judged b h.kind Stage.Failed m ≡ judged b h.kind h.stage m
    at_failed b = ap (λ (x : Stage). judged b h.kind x m) (sym failed.0)

    moved : (b : Bool) → judged b h.kind h.stage m ≡ judged front h.kind h.stage m
    moved b = sym (at_failed b) ∙ (judged_failed b front h.kind m ∙ at_failed front)

-- ---- which tags have failed

-- the tags of the commands that have failed
abbrev pub failed_tags : List OpenCommand → List Tag
failed_tags [] = []
failed_tags (h ∷ hs) = cond (is_failed h.stage) (h.tag ∷ failed_tags hs) (failed_tags hs)

-- the first has not failed, nor the others
none_of : (h : OpenCommand) (hs : List OpenCommand) → failed_tags (h ∷ hs) ≡ [] → (is_failed h.stage ≡ false) × (failed_tags hs ≡ [])
none_of h hs e = if_cases {A = List Tag} (is_failed h.stage) (h.tag ∷ failed_tags hs) (failed_tags hs) [] ((is_failed h.stage ≡ false)
    × (failed_tags hs ≡ [])) e
    (λ failed no_way. absurd (cc))
    (λ live others. (live, others))

-- the mark of an error
abbrev pub is_error : Mark → Bool
is_error Mark.Ack = false
is_error (Mark.Given p) = false
is_error Mark.Done = false
is_error Mark.Error = true

data_lives : (b : Bool) (s x : Stage) (p : Datum) → judged_given b s p ≡ Becomes x → is_failed x ≡ false
data_lives true Stage.Sent x p e = absurd (cc)
data_lives true Stage.Received x p e = let same : x ≡ Stage.Given p = cc in rw same refl
data_lives true (Stage.Given q) x p e = absurd (cc)
data_lives true Stage.Failed x p e = absurd (cc)
data_lives false s x p e = absurd (cc)

ack_lives : (s x : Stage) → judged_ack s ≡ Becomes x → is_failed x ≡ false
ack_lives Stage.Sent x e = let same : x ≡ Stage.Received = cc in rw same refl
ack_lives Stage.Received x e = absurd (cc)
ack_lives (Stage.Given p) x e = absurd (cc)
ack_lives Stage.Failed x e = absurd (cc)

-- an end brings a command to no other stage
pub done_moves : (a b : Bool) (s x : Stage) → judged_done a b s ≡ Becomes x → ⊥
done_moves true b Stage.Sent x e = cc
done_moves true true Stage.Received x e = cc
done_moves true false Stage.Received x e = cc
done_moves true b (Stage.Given p) x e = cc
done_moves true b Stage.Failed x e = cc
done_moves false b Stage.Sent x e = cc
done_moves false b Stage.Received x e = cc
done_moves false b (Stage.Given p) x e = cc
done_moves false b Stage.Failed x e = cc

-- a mark other than an error makes nothing fail
lives : (b : Bool) (k : Kind) (s x : Stage) (m : Mark) → is_error m ≡ false → judged b k s m ≡ Becomes x → is_failed x ≡ false
lives b k s x Mark.Ack n e = ack_lives s x e
lives b k s x (Mark.Given p) n e = data_lives (b && fits k p) s x p e
lives b k s x Mark.Done n e = absurd (done_moves b (asks_data k) s x e)
lives b k s x Mark.Error n e = absurd (false≢true (sym n))

data_no_break : (b : Bool) (s : Stage) (p : Datum) → judged_given b s p ≡ Breaks → ⊥
data_no_break true Stage.Sent p e = cc
data_no_break true Stage.Received p e = cc
data_no_break true (Stage.Given q) p e = cc
data_no_break true Stage.Failed p e = cc
data_no_break false s p e = cc

ack_no_break : (s : Stage) → judged_ack s ≡ Breaks → ⊥
ack_no_break Stage.Sent e = cc
ack_no_break Stage.Received e = cc
ack_no_break (Stage.Given p) e = cc
ack_no_break Stage.Failed e = cc

done_no_break : (a b : Bool) (s : Stage) → judged_done a b s ≡ Breaks → ⊥
done_no_break true b Stage.Sent e = cc
done_no_break true true Stage.Received e = cc
done_no_break true false Stage.Received e = cc
done_no_break true b (Stage.Given p) e = cc
done_no_break true b Stage.Failed e = cc
done_no_break false b Stage.Sent e = cc
done_no_break false b Stage.Received e = cc
done_no_break false b (Stage.Given p) e = cc
done_no_break false b Stage.Failed e = cc

-- no mark but an error breaks a command
pub no_break : (b : Bool) (k : Kind) (s : Stage) (m : Mark) → is_error m ≡ false → judged b k s m ≡ Breaks → ⊥
no_break b k s Mark.Ack n e = ack_no_break s e
no_break b k s (Mark.Given p) n e = data_no_break (b && fits k p) s p e
no_break b k s Mark.Done n e = done_no_break b (asks_data k) s e
no_break b k s Mark.Error n e = false≢true (sym n)

-- if none has failed, none has failed after a mark other than an error
pub none_fails : (front : Bool) (hs : List OpenCommand) (t : Tag) (m : Mark) (gs : List OpenCommand) (e : Effect)
    → heard_in front hs t m ≡ two gs e
    → is_error m ≡ false → failed_tags hs ≡ [] → failed_tags gs ≡ []
none_fails front [] t m gs e is n none = absurd (cc)
none_fails front (h ∷ hs) t m gs e is n none =
    let parts = none_of h hs none in
    heard_cases front h hs t m gs e (failed_tags gs ≡ []) is
    (λ s same v g f. rw g (if_false {A = List Tag} (is_failed s) (h.tag ∷ failed_tags hs) (failed_tags hs)
    (lives front h.kind h.stage s m n v) ∙ parts.1))
    (λ same v g f. absurd (no_break front h.kind h.stage m n v))
    (λ same v g f. rw g parts.1)
    (λ given same v g f. rw g parts.1)
    (λ rest other later g. rw g (if_false {A = List Tag} (is_failed h.stage) (h.tag ∷ failed_tags rest) (failed_tags rest) parts.0
    ∙ none_fails (front && is_failed h.stage) hs t m rest e later n parts.1))

error_moves : (s x : Stage) → is_failed s ≡ false → judged_error s ≡ Becomes x → ⊥
error_moves Stage.Sent x l e = cc
error_moves Stage.Received x l e = cc
error_moves (Stage.Given p) x l e = cc
error_moves Stage.Failed x l e = false≢true (sym l)

error_no_count : (s : Stage) (given : Option Datum) → judged_error s ≡ Counts given → ⊥
error_no_count Stage.Sent given e = cc
error_no_count Stage.Received given e = cc
error_no_count (Stage.Given p) given e = cc
error_no_count Stage.Failed given e = cc

error_no_close : (s : Stage) → judged_error s ≡ Closes → ⊥
error_no_close Stage.Sent e = cc
error_no_close Stage.Received e = cc
error_no_close (Stage.Given p) e = cc
error_no_close Stage.Failed e = cc

-- if none has failed, an error makes its command the one that has failed, and is a failure
pub one_fails : (front : Bool) (hs : List OpenCommand) (t : Tag) (gs : List OpenCommand) (e : Effect)
    → heard_in front hs t Mark.Error ≡ two gs e
    → failed_tags hs ≡ [] → (failed_tags gs ≡ t ∷ []) × (e ≡ Effect.Failure)
one_fails front [] t gs e is none = absurd (cc)
one_fails front (h ∷ hs) t gs e is none =
    let parts = none_of h hs none in
    heard_cases front h hs t Mark.Error gs e ((failed_tags gs ≡ t ∷ []) × (e ≡ Effect.Failure)) is
    (λ s same v g f. absurd (error_moves h.stage s parts.0 v))
    (λ same v g f. (rw g (ap (λ (ts : List Tag). h.tag ∷ ts) parts.1 ∙ ap (λ (u : Tag). u ∷ []) (tag_is-true h.tag t same)), f))
    (λ same v g f. absurd (error_no_close h.stage v))
    (λ given same v g f. absurd (error_no_count h.stage given v))
    (λ rest other later g.
    let behind_it = one_fails (front && is_failed h.stage) hs t rest e later parts.1 in
    (rw g (if_false {A = List Tag} (is_failed h.stage) (h.tag ∷ failed_tags rest) (failed_tags rest) parts.0 ∙ behind_it.0), behind_it.1))

-- a tag that has failed is held
failed_is_held : (t : Tag) (hs : List OpenCommand) (ts : List Tag) → failed_tags hs ≡ t ∷ ts → is_held t hs ≡ true
failed_is_held t [] ts e = absurd (cc)
failed_is_held t (h ∷ hs) ts e = if_cases {A = List Tag} (is_failed h.stage) (h.tag ∷ failed_tags hs) (failed_tags hs) (t ∷ ts)
    (is_held t (h ∷ hs) ≡ true) e
    (λ failed here. let same : h.tag ≡ t = cc in if_true {A = Bool} (tag_is h.tag t) true (is_held t hs) (ap (λ (u : Tag). tag_is u t) same
    ∙ tag_is-refl t))
    (λ live there. go (tag_is h.tag t) (failed_is_held t hs ts there))
  where
    go : (b : Bool) → is_held t hs ≡ true → cond b true (is_held t hs) ≡ true
    go true yes_held = refl
    go false yes_held = yes_held

-- the end of the one that has failed leaves none
pub none_left : (front : Bool) (hs : List OpenCommand) (t : Tag) (gs : List OpenCommand) (e : Effect)
    → heard_in front hs t Mark.Done ≡ two gs e
    → AreDistinct hs → failed_tags hs ≡ t ∷ [] → failed_tags gs ≡ []
none_left front [] t gs e is d one = absurd (cc)
none_left front (h ∷ hs) t gs e is d one =
    heard_cases front h hs t Mark.Done gs e (failed_tags gs ≡ []) is
    (λ s same v g f. absurd (done_moves front (asks_data h.kind) h.stage s v))
    (λ same v g f. absurd (done_no_break front (asks_data h.kind) h.stage v))
    (λ same v g f. rw g (behind_it same))
    (λ given same v g f. rw g (behind_it same))
    (λ rest other later g. rw g (elsewhere rest other later (none_left (front && is_failed h.stage) hs t rest e later d.1)))
  where
    behind_it : tag_is h.tag t ≡ true → failed_tags hs ≡ []
    behind_it same = if_cases {A = List Tag} (is_failed h.stage) (h.tag ∷ failed_tags hs) (failed_tags hs) (t ∷ []) (failed_tags hs ≡ [])
        one
        (λ failed here. cc)
        (λ live there.
        let held : is_held t hs ≡ true = failed_is_held t hs [] there in
        let free : is_held t hs ≡ false = subst (λ (u : Tag). is_held u hs ≡ false) (tag_is-true h.tag t same) d.0 in
        absurd (false≢true (sym free ∙ held)))

    elsewhere : (rest : List OpenCommand) → tag_is h.tag t ≡ false → heard_in (front && is_failed h.stage) hs t Mark.Done ≡ two rest e
        → (failed_tags hs ≡ t ∷ [] → failed_tags rest ≡ []) → failed_tags (h ∷ rest) ≡ []
    elsewhere rest other later deeper = if_cases {A = List Tag} (is_failed h.stage) (h.tag ∷ failed_tags hs) (failed_tags hs) (t ∷ [])
        (failed_tags (h ∷ rest) ≡ []) one
        (λ failed here. let same : h.tag ≡ t = cc in absurd (false≢true (sym other ∙ (ap (λ (u : Tag). tag_is u t) same ∙ tag_is-refl t))))
        (λ live there. if_false {A = List Tag} (is_failed h.stage) (h.tag ∷ failed_tags rest) (failed_tags rest) live ∙ deeper there)
