-- The first command of a tag in a list of uses, and what a client and a witness do at a mark of it.
use Rattle.witness_laws.proofs.Names.{◌&&◌, ◌++◌, ◌||◌, ◌∙◌, ◌∷◌, ◌≡◌, [], ap, Asking, Bool, cond, Effect, Err, false, false≢true, Foreign}
use Rattle.witness_laws.proofs.Names.{heard_in, held_kind, if_cases, if_false, if_true, is_failed, judged, Kind, kind_of, length, List, list_any, Ok}
use Rattle.witness_laws.proofs.Names.{OpenCommand, Option, put_before, refl, same_two, SentCommand, settled, Some, Stage, sym, Tag, tag_is}
use Rattle.witness_laws.proofs.Names.{tag_is-true, take, true, two, Use}
use Rattle.protocol_model.specs.Replies.{Mark}
use Rattle.protocol_model.specs.Open.{Heard}
use Rattle.protocol_model.specs.declared.held.Stage.{Stage as OpenStage}
use Rattle.witness.specs.declared.lines.SentCommand.TheVariants.{Known}

-- ---- uses as a client's open commands

-- the kind of what was sent; of what a client does not send, any
abbrev pub kind_by : SentCommand → Kind
kind_by (Known c) = kind_of c
kind_by Asking = Kind.AbortE
kind_by (Foreign line) = Kind.AbortE

-- a stage, as the client's
abbrev pub stage_by : Stage → OpenStage
stage_by Stage.Sent = OpenStage.Sent
stage_by Stage.Received = OpenStage.Received
stage_by (Stage.Given d) = OpenStage.Given d
stage_by Stage.Lost = OpenStage.Failed

abbrev pub entry : Use → OpenCommand
entry u = record { tag = u.tag; kind = kind_by u.command; stage = stage_by u.stage }

-- the open commands whose tags pass a test
abbrev pub picks : (Tag → Bool) → List Use → List OpenCommand
picks test [] = []
picks test (u ∷ us) = cond (test u.tag) (entry u ∷ picks test us) (picks test us)

pub picks_in : (test : Tag → Bool) (u : Use) (us : List Use) → test u.tag ≡ true → picks test (u ∷ us) ≡ entry u ∷ picks test us
picks_in test u us e = if_true {A = List OpenCommand} (test u.tag) (entry u ∷ picks test us) (picks test us) e

pub picks_out : (test : Tag → Bool) (u : Use) (us : List Use) → test u.tag ≡ false → picks test (u ∷ us) ≡ picks test us
picks_out test u us e = if_false {A = List OpenCommand} (test u.tag) (entry u ∷ picks test us) (picks test us) e

pub picks_more : (test : Tag → Bool) (us vs : List Use) → picks test (us ++ vs) ≡ picks test us ++ picks test vs
picks_more test [] vs = refl
picks_more test (u ∷ us) vs = go (test u.tag) refl (picks_more test us vs)
  where
    go : (b : Bool) → test u.tag ≡ b → picks test (us ++ vs) ≡ picks test us ++ picks test vs
        → picks test (u ∷ (us ++ vs)) ≡ picks test (u ∷ us) ++ picks test vs
    go true e rest = picks_in test u (us ++ vs) e ∙ (ap (λ (l : List OpenCommand). entry u ∷ l) rest
        ∙ ap (λ (l : List OpenCommand). l ++ picks test vs) (sym (picks_in test u us e)))
    go false e rest = picks_out test u (us ++ vs) e ∙ (rest
        ∙ ap (λ (l : List OpenCommand). l ++ picks test vs) (sym (picks_out test u us e)))

-- all of these have failed
abbrev pub all_failed : List OpenCommand → Bool
all_failed [] = true
all_failed (h ∷ hs) = is_failed h.stage && all_failed hs

-- earlier commands stay as they are
abbrev pub put_all : List OpenCommand → Heard → Heard
put_all [] r = r
put_all (h ∷ hs) r = put_before h (put_all hs r)

pub put_fine : (hs xs : List OpenCommand) (e : Effect) → put_all hs (two xs e) ≡ two (hs ++ xs) e
put_fine [] xs e = refl
put_fine (h ∷ hs) xs e = ap (put_before h) (put_fine hs xs e)

put_cases : (h : OpenCommand) (r : Heard) (gs : List OpenCommand) (e : Effect) (P : Type 0) → put_before h r ≡ two gs e
    → ((rest : List OpenCommand) → r ≡ two rest e → gs ≡ h ∷ rest → P) → P
put_cases h (Ok (hs, f)) gs e P is k = let same = same_two _ _ _ _ is in k hs (ap (λ (x : Effect). two hs x) same.1) (sym same.0)
put_cases h (Err c) gs e P is k = absurd (cc)

-- a use under a tag
abbrev pub has_tag : Tag → Use → Bool
has_tag t u = tag_is u.tag t

-- the first use of a tag, and what a client does at a mark of it
pub record IsCut (test : Tag → Bool) (front : Bool) (us : List Use) (t : Tag) (m : Mark) (gs : List OpenCommand) (e : Effect) : Type 0
  where
    pub before : List Use
    pub u : Use
    pub after : List Use
    pub parts : us ≡ before ++ u ∷ after
    pub none : list_any (has_tag t) before ≡ false
    pub here : tag_is u.tag t ≡ true
    pub picked : test u.tag ≡ true
    pub kind_is : held_kind t (picks test us) ≡ Some (kind_by u.command)
    pub now : Bool
    pub now_is : now ≡ (front && all_failed (picks test before))
    pub settles : put_all (picks test before) (settled (entry u) (picks test after) (judged now (kind_by u.command) (stage_by u.stage) m)) ≡ two gs e

and_true : (b : Bool) → b ≡ (b && true)
and_true true = refl
and_true false = refl

and_again : (a b c : Bool) → ((a && b) && c) ≡ (a && (b && c))
and_again true b c = refl
and_again false b c = refl

pub other_tag : (test : Tag → Bool) (t : Tag) (u : Use) → test t ≡ true → test u.tag ≡ false → tag_is u.tag t ≡ false
other_tag test t u sort out = go (tag_is u.tag t) refl
  where
    go : (b : Bool) → tag_is u.tag t ≡ b → tag_is u.tag t ≡ false
    go true e = let same : u.tag ≡ t = tag_is-true u.tag t e in absurd (false≢true (sym out ∙ (ap test same ∙ sort)))
    go false e = e

cut_here : (test : Tag → Bool) (front : Bool) (u : Use) (us : List Use) (t : Tag) (m : Mark) (gs : List OpenCommand) (e : Effect)
    → test u.tag ≡ true → tag_is u.tag t ≡ true → settled (entry u) (picks test us) (judged front (kind_by u.command) (stage_by u.stage) m) ≡ two gs e
    → IsCut test front (u ∷ us) t m gs e
cut_here test front u us t m gs e inside same is = record {
  before = [];
  u = u;
  after = us;
  parts = refl;
  none = refl;
  here = same;
  picked = inside;
  kind_is = ap (held_kind t) (picks_in test u us inside) ∙ if_true {A = Option Kind} (tag_is u.tag t) _ _ same;
  now = front;
  now_is = and_true front;
  settles = is;
}

cut_past : (test : Tag → Bool) (front : Bool) (u : Use) (us : List Use) (t : Tag) (m : Mark) (gs rest : List OpenCommand) (e : Effect)
    → test u.tag ≡ true → tag_is u.tag t ≡ false → gs ≡ entry u ∷ rest
    → IsCut test (front && is_failed (stage_by u.stage)) us t m rest e → IsCut test front (u ∷ us) t m gs e
cut_past test front u us t m gs rest e inside other is c = record {
  before = u ∷ c.before;
  u = c.u;
  after = c.after;
  parts = ap (λ (l : List Use). u ∷ l) c.parts;
  none = ap (λ (b : Bool). b || list_any (has_tag t) c.before) other ∙ c.none;
  here = c.here;
  picked = c.picked;
  kind_is = ap (held_kind t) (picks_in test u us inside) ∙ (if_false {A = Option Kind} (tag_is u.tag t) _ _ other ∙ c.kind_is);
  now = c.now;
  now_is = c.now_is ∙ (and_again front (is_failed (stage_by u.stage)) (all_failed (picks test c.before))
      ∙ ap (λ (l : List OpenCommand). front && all_failed l) (sym (picks_in test u c.before inside)));
  settles = ap (λ (l : List OpenCommand).
      put_all l (settled (entry c.u) (picks test c.after) (judged c.now (kind_by c.u.command) (stage_by c.u.stage) m)))
      (picks_in test u c.before inside) ∙ (ap (put_before (entry u)) c.settles ∙ ap (λ (l : List OpenCommand). two l e) (sym is));
}

cut_out : (test : Tag → Bool) (front : Bool) (u : Use) (us : List Use) (t : Tag) (m : Mark) (gs : List OpenCommand) (e : Effect)
    → test t ≡ true → test u.tag ≡ false → IsCut test front us t m gs e → IsCut test front (u ∷ us) t m gs e
cut_out test front u us t m gs e sort out c = record {
  before = u ∷ c.before;
  u = c.u;
  after = c.after;
  parts = ap (λ (l : List Use). u ∷ l) c.parts;
  none = ap (λ (b : Bool). b || list_any (has_tag t) c.before) (other_tag test t u sort out) ∙ c.none;
  here = c.here;
  picked = c.picked;
  kind_is = ap (held_kind t) (picks_out test u us out) ∙ c.kind_is;
  now = c.now;
  now_is = c.now_is ∙ ap (λ (l : List OpenCommand). front && all_failed l) (sym (picks_out test u c.before out));
  settles = ap (λ (l : List OpenCommand).
      put_all l (settled (entry c.u) (picks test c.after) (judged c.now (kind_by c.u.command) (stage_by c.u.stage) m)))
      (picks_out test u c.before out) ∙ c.settles;
}

-- an expected mark is for the first use of its tag
pub cut : (test : Tag → Bool) (front : Bool) (us : List Use) (t : Tag) (m : Mark) (gs : List OpenCommand) (e : Effect) → test t ≡ true
    → heard_in front (picks test us) t m ≡ two gs e → IsCut test front us t m gs e
cut test front [] t m gs e sort is = absurd (cc)
cut test front (u ∷ us) t m gs e sort is = go (test u.tag) refl (λ f rest heard. cut test f us t m rest e sort heard)
  where
    inner : heard_in front (entry u ∷ picks test us) t m ≡ two gs e → test u.tag ≡ true
        → ((f : Bool) (rest : List OpenCommand) → heard_in f (picks test us) t m ≡ two rest e → IsCut test f us t m rest e)
        → IsCut test front (u ∷ us) t m gs e
    inner now inside deeper = if_cases {A = Heard} (tag_is u.tag t)
        (settled (entry u) (picks test us) (judged front (kind_by u.command) (stage_by u.stage) m))
        (put_before (entry u) (heard_in (front && is_failed (stage_by u.stage)) (picks test us) t m)) (two gs e) (IsCut test front (u ∷ us) t m gs e)
        now (λ same here. cut_here test front u us t m gs e inside same here)
        (λ other later. put_cases (entry u) (heard_in (front && is_failed (stage_by u.stage)) (picks test us) t m) gs e
        (IsCut test front (u ∷ us) t m gs e) later (λ rest heard same.
        cut_past test front u us t m gs rest e inside other same (deeper (front && is_failed (stage_by u.stage)) rest heard)))

    go : (b : Bool) → test u.tag ≡ b
        → ((f : Bool) (rest : List OpenCommand) → heard_in f (picks test us) t m ≡ two rest e → IsCut test f us t m rest e)
        → IsCut test front (u ∷ us) t m gs e
    go true inside deeper =
        inner (ap (λ (l : List OpenCommand). heard_in front l t m) (sym (picks_in test u us inside)) ∙ is) inside deeper
    go false out deeper = cut_out test front u us t m gs e sort out
        (deeper front gs (ap (λ (l : List OpenCommand). heard_in front l t m) (sym (picks_out test u us out)) ∙ is))

pub taken : (before : List Use) (u : Use) (after : List Use) → take (length before) (before ++ u ∷ after) ≡ before
taken [] u after = refl
taken (w ∷ before) u after = ap (λ (l : List Use). w ∷ l) (taken before u after)
