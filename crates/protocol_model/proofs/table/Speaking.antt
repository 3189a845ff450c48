-- The table of marks against stages accepts exactly the prefixes of the language of replies.
use Rattle.protocol_model.proofs.Names.{[], ◌&&◌, ◌++◌, ◌∙◌, ◌∷◌, ◌≡◌, ◌⊎◌, and_parts, ap, append-nil, asks_data, Bool, Datum, false, false≢true}
use Rattle.protocol_model.proofs.Names.{fits, inl, inr, judged_done, judged_given, Kind, List, refl, Stage, subst, sym, true, zero_point}
use Rattle.protocol_model.specs.Replies.{Mark}
use Rattle.protocol_model.specs.Language.{Accepts, AreAtFront, AreErrors, Goes, IsCounted, IsReplies, IsRepliesFront, marks_of, Placed}

-- how marks may continue after a stage, wherever the front is
abbrev Goes_on : Bool → (Datum → Bool) → Stage → List Mark → Type 0
Goes_on asks asked stage [] = Unit {0}
Goes_on asks asked Stage.Sent (Mark.Ack ∷ ms) = Goes_on asks asked Stage.Received ms
Goes_on asks asked Stage.Sent (Mark.Given p ∷ ms) = ⊥
Goes_on asks asked Stage.Sent (Mark.Error ∷ ms) = Goes_on asks asked Stage.Failed ms
Goes_on asks asked Stage.Sent (Mark.Done ∷ ms) = ⊥
Goes_on asks asked Stage.Received (Mark.Ack ∷ ms) = ⊥
Goes_on asks asked Stage.Received (Mark.Given p ∷ ms) = (asks ≡ true) × (asked p ≡ true) × Goes_on asks asked (Stage.Given p) ms
Goes_on asks asked Stage.Received (Mark.Error ∷ ms) = Goes_on asks asked Stage.Failed ms
Goes_on asks asked Stage.Received (Mark.Done ∷ ms) = (asks ≡ false) × (ms ≡ [])
Goes_on asks asked (Stage.Given q) (Mark.Ack ∷ ms) = ⊥
Goes_on asks asked (Stage.Given q) (Mark.Given p ∷ ms) = ⊥
Goes_on asks asked (Stage.Given q) (Mark.Error ∷ ms) = Goes_on asks asked Stage.Failed ms
Goes_on asks asked (Stage.Given q) (Mark.Done ∷ ms) = ms ≡ []
Goes_on asks asked Stage.Failed (Mark.Ack ∷ ms) = ⊥
Goes_on asks asked Stage.Failed (Mark.Given p ∷ ms) = ⊥
Goes_on asks asked Stage.Failed (Mark.Error ∷ ms) = Goes_on asks asked Stage.Failed ms
Goes_on asks asked Stage.Failed (Mark.Done ∷ ms) = ms ≡ []

-- ---- data that are asked for

-- what fits a command is asked for by it
pub fits_asks : (k : Kind) (d : Datum) → fits k d ≡ true → asks_data k ≡ true
fits_asks Kind.StartSession d e = absurd (false≢true e)
fits_asks Kind.EndSession d e = absurd (false≢true e)
fits_asks Kind.ClearAllErrors d e = absurd (false≢true e)
fits_asks Kind.IsHomed d e = refl
fits_asks Kind.Home d e = absurd (false≢true e)
fits_asks Kind.OnPtMeasReport d e = absurd (false≢true e)
fits_asks Kind.GoTo d e = absurd (false≢true e)
fits_asks Kind.PtMeas d e = refl
fits_asks Kind.ChangeTool d e = absurd (false≢true e)
fits_asks Kind.SetCsyTransformation d e = absurd (false≢true e)
fits_asks Kind.SetCoordSystem d e = absurd (false≢true e)
fits_asks Kind.AbortE d e = absurd (false≢true e)

-- for each command that asks for data there are some that fit
abbrev IsFit : (Datum → Bool) → Type 0
IsFit asked = (d : Datum) × (asked d ≡ true)

some_fit : (k : Kind) → asks_data k ≡ true → IsFit (fits k)
some_fit Kind.StartSession e = absurd (false≢true e)
some_fit Kind.EndSession e = absurd (false≢true e)
some_fit Kind.ClearAllErrors e = absurd (false≢true e)
some_fit Kind.IsHomed e = (Datum.Homed true, refl)
some_fit Kind.Home e = absurd (false≢true e)
some_fit Kind.OnPtMeasReport e = absurd (false≢true e)
some_fit Kind.GoTo e = absurd (false≢true e)
some_fit Kind.PtMeas e = (Datum.Point zero_point, refl)
some_fit Kind.ChangeTool e = absurd (false≢true e)
some_fit Kind.SetCsyTransformation e = absurd (false≢true e)
some_fit Kind.SetCoordSystem e = absurd (false≢true e)
some_fit Kind.AbortE e = absurd (false≢true e)

-- ---- the table against how marks continue

abbrev is_failed_now : Stage → Bool
is_failed_now Stage.Sent = false
is_failed_now Stage.Received = false
is_failed_now (Stage.Given p) = false
is_failed_now Stage.Failed = true

nothing_left : (ms : List Placed) → marks_of ms ≡ [] → ms ≡ []
nothing_left [] e = refl
nothing_left (x ∷ ms) e = absurd (cc)

none_at_front : (failed : Bool) (ms : List Placed) → ms ≡ [] → AreAtFront failed ms
none_at_front failed ms e = subst (AreAtFront failed) (sym e) tt

accepts_goes : (k : Kind) (s : Stage) (ms : List Placed) → Accepts k s ms → Goes_on (asks_data k) (fits k) s (marks_of ms)
    × AreAtFront (is_failed_now s) ms
accepts_goes k Stage.Sent [] h = (tt, tt)
accepts_goes k Stage.Received [] h = (tt, tt)
accepts_goes k (Stage.Given q) [] h = (tt, tt)
accepts_goes k Stage.Failed [] h = (tt, tt)
accepts_goes k Stage.Sent ((front, Mark.Ack) ∷ ms) h = accepts_goes k Stage.Received ms h
accepts_goes k Stage.Sent ((front, Mark.Given p) ∷ ms) h = absurd (go (front && fits k p) h)
  where
    go : (b : Bool) → Goes k ms (judged_given b Stage.Sent p) (λ next. Accepts k next ms) → ⊥
    go true h = h
    go false h = h
accepts_goes k Stage.Sent ((front, Mark.Error) ∷ ms) h = accepts_goes k Stage.Failed ms h
accepts_goes k Stage.Sent ((front, Mark.Done) ∷ ms) h = absurd (go front (asks_data k) h)
  where
    go : (b a : Bool) → Goes k ms (judged_done b a Stage.Sent) (λ next. Accepts k next ms) → ⊥
    go true a h = h
    go false a h = h
accepts_goes k Stage.Received ((front, Mark.Ack) ∷ ms) h = absurd h
accepts_goes k Stage.Received ((front, Mark.Given p) ∷ ms) h = go (front && fits k p) refl h (accepts_goes k (Stage.Given p) ms)
  where
    go : (b : Bool) → (front && fits k p) ≡ b → Goes k ms (judged_given b Stage.Received p) (λ next. Accepts k next ms)
        → (Accepts k (Stage.Given p) ms → Goes_on (asks_data k) (fits k) (Stage.Given p) (marks_of ms) × AreAtFront false ms)
        → ((asks_data k ≡ true) × (fits k p ≡ true) × Goes_on (asks_data k) (fits k) (Stage.Given p) (marks_of ms))
        × ((front ≡ true) × AreAtFront false ms)
    go true e h deeper = let parts = and_parts _ _ e
        in let rest = deeper h in ((fits_asks k p parts.1, parts.1, rest.0), (parts.0, rest.1))
    go false e h deeper = absurd h
accepts_goes k Stage.Received ((front, Mark.Error) ∷ ms) h = accepts_goes k Stage.Failed ms h
accepts_goes k Stage.Received ((front, Mark.Done) ∷ ms) h = go front refl (asks_data k) refl h
  where
    go : (b : Bool) → front ≡ b → (a : Bool) → asks_data k ≡ a → Goes k ms (judged_done b a Stage.Received) (λ next. Accepts k next ms)
        → ((asks_data k ≡ false) × (marks_of ms ≡ [])) × ((front ≡ true) × AreAtFront false ms)
    go true f true e h = absurd h
    go true f false e h = ((e, ap marks_of h), (f, none_at_front false ms h))
    go false f true e h = absurd h
    go false f false e h = absurd h
accepts_goes k (Stage.Given q) ((front, Mark.Ack) ∷ ms) h = absurd h
accepts_goes k (Stage.Given q) ((front, Mark.Given p) ∷ ms) h = absurd (go (front && fits k p) h)
  where
    go : (b : Bool) → Goes k ms (judged_given b (Stage.Given q) p) (λ next. Accepts k next ms) → ⊥
    go true h = h
    go false h = h
accepts_goes k (Stage.Given q) ((front, Mark.Error) ∷ ms) h = accepts_goes k Stage.Failed ms h
accepts_goes k (Stage.Given q) ((front, Mark.Done) ∷ ms) h = go front refl (asks_data k) h
  where
    go : (b : Bool) → front ≡ b → (a : Bool) → Goes k ms (judged_done b a (Stage.Given q)) (λ next. Accepts k next ms) → (marks_of ms ≡ [])
        × ((front ≡ true) × AreAtFront false ms)
    go true f a h = (ap marks_of h, (f, none_at_front false ms h))
    go false f a h = absurd h
accepts_goes k Stage.Failed ((front, Mark.Ack) ∷ ms) h = absurd h
accepts_goes k Stage.Failed ((front, Mark.Given p) ∷ ms) h = absurd (go (front && fits k p) h)
  where
    go : (b : Bool) → Goes k ms (judged_given b Stage.Failed p) (λ next. Accepts k next ms) → ⊥
    go true h = h
    go false h = h
accepts_goes k Stage.Failed ((front, Mark.Error) ∷ ms) h = accepts_goes k Stage.Failed ms h
accepts_goes k Stage.Failed ((front, Mark.Done) ∷ ms) h = (ap marks_of h, none_at_front true ms h)

goes_accepts : (k : Kind) (s : Stage) (ms : List Placed) → Goes_on (asks_data k) (fits k) s (marks_of ms) → AreAtFront (is_failed_now s) ms
    → Accepts k s ms
goes_accepts k s [] h f = tt
goes_accepts k Stage.Sent ((front, Mark.Ack) ∷ ms) h f = goes_accepts k Stage.Received ms h f
goes_accepts k Stage.Sent ((front, Mark.Given p) ∷ ms) h f = absurd h
goes_accepts k Stage.Sent ((front, Mark.Error) ∷ ms) h f = goes_accepts k Stage.Failed ms h f
goes_accepts k Stage.Sent ((front, Mark.Done) ∷ ms) h f = absurd h
goes_accepts k Stage.Received ((front, Mark.Ack) ∷ ms) h f = absurd h
goes_accepts k Stage.Received ((front, Mark.Given p) ∷ ms) h f =
    let both : (front && fits k p) ≡ true = ap (λ (b : Bool). b && fits k p) f.0 ∙ h.1 in
    subst (λ (b : Bool). Goes k ms (judged_given b Stage.Received p) (λ next. Accepts k next ms)) (sym both)
    (goes_accepts k (Stage.Given p) ms h.2 f.1)
goes_accepts k Stage.Received ((front, Mark.Error) ∷ ms) h f = goes_accepts k Stage.Failed ms h f
goes_accepts k Stage.Received ((front, Mark.Done) ∷ ms) h f =
    subst (λ (b : Bool). Goes k ms (judged_done b (asks_data k) Stage.Received) (λ next. Accepts k next ms)) (sym f.0)
    (subst (λ (a : Bool). Goes k ms (judged_done true a Stage.Received) (λ next. Accepts k next ms)) (sym h.0) (nothing_left ms h.1))
goes_accepts k (Stage.Given q) ((front, Mark.Ack) ∷ ms) h f = absurd h
goes_accepts k (Stage.Given q) ((front, Mark.Given p) ∷ ms) h f = absurd h
goes_accepts k (Stage.Given q) ((front, Mark.Error) ∷ ms) h f = goes_accepts k Stage.Failed ms h f
goes_accepts k (Stage.Given q) ((front, Mark.Done) ∷ ms) h f =
    subst (λ (b : Bool). Goes k ms (judged_done b (asks_data k) (Stage.Given q)) (λ next. Accepts k next ms)) (sym f.0) (nothing_left ms h)
goes_accepts k Stage.Failed ((front, Mark.Ack) ∷ ms) h f = absurd h
goes_accepts k Stage.Failed ((front, Mark.Given p) ∷ ms) h f = absurd h
goes_accepts k Stage.Failed ((front, Mark.Error) ∷ ms) h f = goes_accepts k Stage.Failed ms h f
goes_accepts k Stage.Failed ((front, Mark.Done) ∷ ms) h f = nothing_left ms h

-- ---- how marks continue against the language

-- a prefix of marks that continue continues
none_before : (ms more : List Mark) → ms ++ more ≡ [] → ms ≡ []
none_before [] more e = refl
none_before (m ∷ ms) more e = absurd (cc)

goes_front : (asks : Bool) (asked : Datum → Bool) (s : Stage) (ms more : List Mark) → Goes_on asks asked s (ms ++ more)
    → Goes_on asks asked s ms
goes_front asks asked s [] more h = tt
goes_front asks asked Stage.Sent (Mark.Ack ∷ ms) more h = goes_front asks asked Stage.Received ms more h
goes_front asks asked Stage.Sent (Mark.Given p ∷ ms) more h = h
goes_front asks asked Stage.Sent (Mark.Error ∷ ms) more h = goes_front asks asked Stage.Failed ms more h
goes_front asks asked Stage.Sent (Mark.Done ∷ ms) more h = h
goes_front asks asked Stage.Received (Mark.Ack ∷ ms) more h = h
goes_front asks asked Stage.Received (Mark.Given p ∷ ms) more h = (h.0, h.1, goes_front asks asked (Stage.Given p) ms more h.2)
goes_front asks asked Stage.Received (Mark.Error ∷ ms) more h = goes_front asks asked Stage.Failed ms more h
goes_front asks asked Stage.Received (Mark.Done ∷ ms) more h = (h.0, none_before ms more h.1)
goes_front asks asked (Stage.Given q) (Mark.Ack ∷ ms) more h = h
goes_front asks asked (Stage.Given q) (Mark.Given p ∷ ms) more h = h
goes_front asks asked (Stage.Given q) (Mark.Error ∷ ms) more h = goes_front asks asked Stage.Failed ms more h
goes_front asks asked (Stage.Given q) (Mark.Done ∷ ms) more h = none_before ms more h
goes_front asks asked Stage.Failed (Mark.Ack ∷ ms) more h = h
goes_front asks asked Stage.Failed (Mark.Given p ∷ ms) more h = h
goes_front asks asked Stage.Failed (Mark.Error ∷ ms) more h = goes_front asks asked Stage.Failed ms more h
goes_front asks asked Stage.Failed (Mark.Done ∷ ms) more h = none_before ms more h

-- after an error: errors, then nothing or the end
failed_goes : (asks : Bool) (asked : Datum → Bool) (errors ending : List Mark) → AreErrors errors
    → (ending ≡ []) ⊎ (ending ≡ Mark.Done ∷ [])
    → Goes_on asks asked Stage.Failed (errors ++ ending)
failed_goes asks asked [] ending h (inl e) = subst (λ (ms : List Mark). Goes_on asks asked Stage.Failed ms) (sym e) tt
failed_goes asks asked [] ending h (inr e) = subst (λ (ms : List Mark). Goes_on asks asked Stage.Failed ms) (sym e) refl
failed_goes asks asked (Mark.Error ∷ errors) ending h e = failed_goes asks asked errors ending h e
failed_goes asks asked (Mark.Ack ∷ errors) ending h e = absurd h
failed_goes asks asked (Mark.Given p ∷ errors) ending h e = absurd h
failed_goes asks asked (Mark.Done ∷ errors) ending h e = absurd h

counted_goes : (asks : Bool) (asked : Datum → Bool) (ms : List Mark) → IsCounted asks asked ms → Goes_on asks asked Stage.Sent ms
counted_goes false asked ms h = subst (λ (x : List Mark). Goes_on false asked Stage.Sent x) (sym h) (refl, refl)
counted_goes true asked ms h = subst (λ (x : List Mark). Goes_on true asked Stage.Sent x) (sym h.2) (refl, h.1, refl)

-- in place of the rest of a counted command's marks an error can come, and what may follow it
instead : (asks : Bool) (asked : Datum → Bool) (s : Stage) (before : List Mark) (missing : Mark) (rest tail : List Mark)
    → Goes_on asks asked s (before ++ missing ∷ rest) → Goes_on asks asked Stage.Failed tail
    → Goes_on asks asked s (before ++ Mark.Error ∷ tail)
instead asks asked Stage.Sent [] missing rest tail h t = t
instead asks asked Stage.Received [] missing rest tail h t = t
instead asks asked (Stage.Given q) [] missing rest tail h t = t
instead asks asked Stage.Failed [] missing rest tail h t = t
instead asks asked Stage.Sent (Mark.Ack ∷ before) missing rest tail h t = instead asks asked Stage.Received before missing rest tail h t
instead asks asked Stage.Sent (Mark.Given p ∷ before) missing rest tail h t = h
instead asks asked Stage.Sent (Mark.Error ∷ before) missing rest tail h t = instead asks asked Stage.Failed before missing rest tail h t
instead asks asked Stage.Sent (Mark.Done ∷ before) missing rest tail h t = h
instead asks asked Stage.Received (Mark.Ack ∷ before) missing rest tail h t = h
instead asks asked Stage.Received (Mark.Given p ∷ before) missing rest tail h t =
    (h.0, h.1, instead asks asked (Stage.Given p) before missing rest tail h.2 t)
instead asks asked Stage.Received (Mark.Error ∷ before) missing rest tail h t = instead asks asked Stage.Failed before missing rest tail h t
instead asks asked Stage.Received (Mark.Done ∷ before) missing rest tail h t = absurd (not_none before missing rest h.1)
  where
    not_none : (b : List Mark) (m : Mark) (r : List Mark) → b ++ m ∷ r ≡ [] → ⊥
    not_none [] m r e = cc
    not_none (x ∷ b) m r e = cc
instead asks asked (Stage.Given q) (Mark.Ack ∷ before) missing rest tail h t = h
instead asks asked (Stage.Given q) (Mark.Given p ∷ before) missing rest tail h t = h
instead asks asked (Stage.Given q) (Mark.Error ∷ before) missing rest tail h t =
    instead asks asked Stage.Failed before missing rest tail h t
instead asks asked (Stage.Given q) (Mark.Done ∷ before) missing rest tail h t = absurd (not_none before missing rest h)
  where
    not_none : (b : List Mark) (m : Mark) (r : List Mark) → b ++ m ∷ r ≡ [] → ⊥
    not_none [] m r e = cc
    not_none (x ∷ b) m r e = cc
instead asks asked Stage.Failed (Mark.Ack ∷ before) missing rest tail h t = h
instead asks asked Stage.Failed (Mark.Given p ∷ before) missing rest tail h t = h
instead asks asked Stage.Failed (Mark.Error ∷ before) missing rest tail h t = instead asks asked Stage.Failed before missing rest tail h t
instead asks asked Stage.Failed (Mark.Done ∷ before) missing rest tail h t = absurd (not_none before missing rest h)
  where
    not_none : (b : List Mark) (m : Mark) (r : List Mark) → b ++ m ∷ r ≡ [] → ⊥
    not_none [] m r e = cc
    not_none (x ∷ b) m r e = cc

replies_go : (asks : Bool) (asked : Datum → Bool) (ms : List Mark) → IsReplies asks asked ms → Goes_on asks asked Stage.Sent ms
replies_go asks asked ms (inl h) = counted_goes asks asked ms h
replies_go asks asked ms (inr h) =
    subst (λ (x : List Mark). Goes_on asks asked Stage.Sent x) (sym h.ends.2)
    (instead asks asked Stage.Sent h.before h.missing h.rest (h.errors ++ h.ends.0)
    (counted_goes asks asked (h.before ++ h.missing ∷ h.rest) h.proper)
    (failed_goes asks asked h.errors h.ends.0 h.are_errors h.ends.1))

-- ---- and back

-- marks after an error
pub record IsTail (ms : List Mark) : Type 0 where
  pub errors : List Mark
  pub are_errors : AreErrors errors
  pub ending : List Mark
  pub ends : (ending ≡ []) ⊎ (ending ≡ Mark.Done ∷ [])
  pub is : ms ≡ errors ++ ending

tail_of : (asks : Bool) (asked : Datum → Bool) (ms : List Mark) → Goes_on asks asked Stage.Failed ms → IsTail ms
tail_of asks asked [] h = record { errors = []; are_errors = tt; ending = []; ends = inl refl; is = refl }
tail_of asks asked (Mark.Ack ∷ ms) h = absurd h
tail_of asks asked (Mark.Given p ∷ ms) h = absurd h
tail_of asks asked (Mark.Error ∷ ms) h = let t : IsTail ms = tail_of asks asked ms h
    in record {
      errors = Mark.Error ∷ t.errors;
      are_errors = t.are_errors;
      ending = t.ending;
      ends = t.ends;
      is = ap (λ (x : List Mark). Mark.Error ∷ x) t.is;
    }
tail_of asks asked (Mark.Done ∷ ms) h = record {
  errors = [];
  are_errors = tt;
  ending = Mark.Done ∷ [];
  ends = inr refl;
  is = ap (λ (x : List Mark). Mark.Done ∷ x) h;
}

failed_front : (asks : Bool) (asked : Datum → Bool) (before : List Mark) (missing : Mark) (rest ms : List Mark)
    → IsCounted asks asked (before ++ missing ∷ rest)
    → Goes_on asks asked Stage.Failed ms → IsRepliesFront asks asked (before ++ Mark.Error ∷ ms)
failed_front asks asked before missing rest ms proper h =
    let t : IsTail ms = tail_of asks asked ms h in
    record {
      more = [];
      whole = inr (record {
        before = before;
        missing = missing;
        rest = rest;
        proper = proper;
        errors = t.errors;
        are_errors = t.are_errors;
        ends = (t.ending, t.ends, append-nil (before ++ Mark.Error ∷ ms) ∙ ap (λ (x : List Mark). before ++ Mark.Error ∷ x) t.is);
      });
    }

given_front : (asked : Datum → Bool) (p : Datum) (ms : List Mark) → asked p ≡ true → Goes_on true asked (Stage.Given p) ms
    → IsRepliesFront true asked (Mark.Ack ∷ Mark.Given p ∷ ms)
given_front asked p [] fit h = record { more = Mark.Done ∷ []; whole = inl (p, fit, refl) }
given_front asked p (Mark.Ack ∷ ms) fit h = absurd h
given_front asked p (Mark.Given q ∷ ms) fit h = absurd h
given_front asked p (Mark.Error ∷ ms) fit h = failed_front true asked (Mark.Ack ∷ Mark.Given p ∷ []) Mark.Done [] ms (p, fit, refl) h
given_front asked p (Mark.Done ∷ ms) fit h = record {
  more = [];
  whole = inl (
    p,
    fit,
    ap (λ (x : List Mark). Mark.Ack ∷ Mark.Given p ∷ Mark.Done ∷ (x ++ [])) h,
  );
}

received_front : (asks : Bool) (asked : Datum → Bool) (ms : List Mark) → (asks ≡ true → IsFit asked) → Goes_on asks asked Stage.Received ms
    → IsRepliesFront asks asked (Mark.Ack ∷ ms)
received_front false asked [] some h = record { more = Mark.Done ∷ []; whole = inl refl }
received_front true asked [] some h =
    record { more = Mark.Given (some refl).0 ∷ Mark.Done ∷ []; whole = inl ((some refl).0, (some refl).1, refl) }
received_front asks asked (Mark.Ack ∷ ms) some h = absurd h
received_front false asked (Mark.Given p ∷ ms) some h = absurd (false≢true h.0)
received_front true asked (Mark.Given p ∷ ms) some h = given_front asked p ms h.1 h.2
received_front false asked (Mark.Error ∷ ms) some h = failed_front false asked (Mark.Ack ∷ []) Mark.Done [] ms refl h
received_front true asked (Mark.Error ∷ ms) some h = failed_front true asked (Mark.Ack ∷ [])
    (Mark.Given (some refl).0) (Mark.Done ∷ []) ms ((some refl).0, (some refl).1, refl) h
received_front false asked (Mark.Done ∷ ms) some h =
    record { more = []; whole = inl (ap (λ (x : List Mark). Mark.Ack ∷ Mark.Done ∷ (x ++ [])) h.1) }
received_front true asked (Mark.Done ∷ ms) some h = absurd (false≢true (sym h.0))

sent_front : (asks : Bool) (asked : Datum → Bool) (ms : List Mark) → (asks ≡ true → IsFit asked) → Goes_on asks asked Stage.Sent ms
    → IsRepliesFront asks asked ms
sent_front false asked [] some h = record { more = Mark.Ack ∷ Mark.Done ∷ []; whole = inl refl }
sent_front true asked [] some h =
    record { more = Mark.Ack ∷ Mark.Given (some refl).0 ∷ Mark.Done ∷ []; whole = inl ((some refl).0, (some refl).1, refl) }
sent_front asks asked (Mark.Ack ∷ ms) some h = received_front asks asked ms some h
sent_front asks asked (Mark.Given p ∷ ms) some h = absurd h
sent_front false asked (Mark.Error ∷ ms) some h = failed_front false asked [] Mark.Ack (Mark.Done ∷ []) ms refl h
sent_front true asked (Mark.Error ∷ ms) some h = failed_front true asked [] Mark.Ack (Mark.Given (some refl).0 ∷ Mark.Done ∷ []) ms
    ((some refl).0, (some refl).1, refl) h
sent_front asks asked (Mark.Done ∷ ms) some h = absurd h

-- the law, both ways
pub accepts_only : (k : Kind) (ms : List Placed) → Accepts k Stage.Sent ms → IsRepliesFront (asks_data k) (fits k) (marks_of ms)
    × AreAtFront false ms
accepts_only k ms h = let both = accepts_goes k Stage.Sent ms h
    in (sent_front (asks_data k) (fits k) (marks_of ms) (some_fit k) both.0, both.1)

-- the table accepts each prefix of the replies to a command
pub accepts_all : (k : Kind) (ms : List Placed) → IsRepliesFront (asks_data k) (fits k) (marks_of ms) → AreAtFront false ms
    → Accepts k Stage.Sent ms
accepts_all k ms h f = goes_accepts k Stage.Sent ms (goes_front (asks_data k) (fits k) Stage.Sent (marks_of ms) h.more
    (replies_go (asks_data k) (fits k) (marks_of ms ++ h.more) h.whole)) f
