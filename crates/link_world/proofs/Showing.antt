-- What the watcher of a run of a client is shown.
use Rattle.link_world.proofs.Names.{[], ◌++◌, ◌∙◌, ◌∷◌, ◌≡◌, ap, arith, Bool, ClientEnd, ClientFault, ClientMovedWithin, ClientStoppedWithin}
use Rattle.link_world.proofs.Names.{ClientTurn, cond, end_left, EndsShown, Err, false, false≢true, IfErr, IfOk, IsRunCall, le-leb, length}
use Rattle.link_world.proofs.Names.{length-append, List, Moved, Ok, Option, PumpFault, Reading, refl, Result, Send, Sending, sends, Shown, Stage}
use Rattle.link_world.proofs.Names.{subst, sym, Taking, true, Writing, ℕ}
use Rattle.client_core.specs.Calls.{Call, done_by, Feed, Leave, possible, ReadOne, Sent}
use Rattle.link_world.specs.Pumps.{begins, has, reads, takes, writes}
use Rattle.link_world.specs.Showing as show
use Rattle.link_world.specs.WatchingRows.{notes_on}

done_now : (call : Call) (e : ClientEnd) (b : Bool) → possible call e ≡ b → b ≡ true → cond b (done_by call e) e ≡ done_by call e
done_now call e true is may = refl
done_now call e false is may = absurd (false≢true may)

module _ {N : Type 0} (Shows : ClientEnd → N → N → Type 0) (first : ClientEnd) (old : N) where
  -- one more call, which is possible
  one_more : (e : ClientEnd) (w : N) (call : Call) → Shown Shows first old e w → IsRunCall call → possible call e ≡ true
      → Shown Shows first old (done_by call e) w
  one_more e w call h is may =
      subst (λ (x : ClientEnd). Shown Shows first old x w) (done_now call e (possible call e) refl may) (show.calls e w call h is)

  -- a turn, as far as it has come
  turn_shown : (least : ℕ) (s : ClientEnd) (w : N) (stage : Stage) (read written : List ℕ) (e : ClientEnd) → Shown Shows first old s w
      → ClientTurn least s stage read written e → Shown Shows first old e w
  turn_shown least s w _ _ _ _ h begins = h
  turn_shown least s w _ _ _ _ h (sends e t is) = one_more e w Send (turn_shown least s w Sending [] [] e h t) tt is
  turn_shown least s w _ _ _ _ h (writes e count t none within) =
      one_more e w (Sent count) (turn_shown least s w Sending [] [] e h t) tt (le-leb count _ within)
  turn_shown least s w _ _ _ _ h (takes e read written t out may) =
      one_more e w (Feed read) (turn_shown least s w Writing [] written e h t) tt may
  turn_shown least s w _ _ _ _ h (has e read written t enough) = turn_shown least s w Taking read written e h t
  turn_shown least s w _ _ _ _ h (reads e read written t may is) =
      one_more e w ReadOne (turn_shown least s w Reading read written e h t) tt may

  -- a client that leaves
  pub left_shown : (e new : ClientEnd) (w : N) → Shown Shows first old e w → new ≡ end_left e → Shown Shows first old new w
  left_shown e new w h is = subst (λ (x : ClientEnd). Shown Shows first old x w) (sym is) (one_more e w Leave h tt refl)

  -- a turn, whether whole or stopped, after which the client is shown
  pub turned_shown : (bound calls calls_now least : ℕ) (s e : ClientEnd) (left left_now taken taken_now : Option (List ℕ))
      (r : Result Moved (PumpFault ClientFault)) (w new : N)
      → IfOk r (λ moved. ClientMovedWithin bound calls calls_now least s e left left_now taken taken_now moved)
      → IfErr r (λ fault. ClientStoppedWithin bound calls calls_now least s e left left_now taken taken_now fault)
      → Shown Shows first old s w → Shows e w new → Shown Shows first old e new
  turned_shown bound calls calls_now least s e left left_now taken taken_now (Ok moved) w new m f h is =
      show.shows e w new (turn_shown least s w Reading m.whole.read m.whole.written e h m.whole.turn) is
  turned_shown bound calls calls_now least s e left left_now taken taken_now (Err fault) w new m f h is =
      show.shows e w new
      (left_shown f.front.last e w
      (turn_shown least s w f.front.stage f.front.read f.front.written f.front.last h f.front.turn) f.front.leaves) is

-- runs, one after another
pub shown_more : {N : Type 0} (Shows : ClientEnd → N → N → Type 0) (first mid : ClientEnd) (old w : N) (e : ClientEnd) (now : N)
    → Shown Shows first old mid w → Shown Shows mid w e now → Shown Shows first old e now
shown_more Shows first mid old w _ _ h show.begins = h
shown_more Shows first mid old w _ now h (show.calls e _ call t is) = show.calls e now call (shown_more Shows first mid old w e now h t) is
shown_more Shows first mid old w e _ h (show.shows _ v now t is) = show.shows e v now (shown_more Shows first mid old w e v h t) is

-- ---- a watcher that notes whether a client is on a connection

pub shown_left : (e : ClientEnd) → EndsShown notes_on e (end_left e) [] (false ∷ [])
shown_left e = record { before = []; run = show.calls e [] Leave show.begins tt; shown = refl }

pub shown_twice : (e : ClientEnd) → e.client.on ≡ true → EndsShown notes_on e (end_left e) [] (true ∷ false ∷ [])
shown_twice e is = record {
  before = true ∷ [];
  run = show.calls e (true ∷ []) Leave (show.shows e [] (true ∷ []) show.begins (ap (λ (b : Bool). b ∷ []) (sym is))) tt;
  shown = refl;
}

pub not_shown : (e : ClientEnd) → EndsShown notes_on e e [] [] → ⊥
not_shown e h = let some = ap length h.shown in let more = length-append h.before (e.client.on ∷ []) in omega (arith, some, more)

abbrev last_of : List Bool → Bool → Bool
last_of [] b = b
last_of (x ∷ xs) b = last_of xs x

last_is : (xs : List Bool) (x b : Bool) → last_of (xs ++ x ∷ []) b ≡ x
last_is [] x b = refl
last_is (y ∷ xs) x b = last_is xs x y

pub not_shown_again : (e : ClientEnd) → EndsShown notes_on e (end_left e) [] (true ∷ []) → ⊥
not_shown_again e h = false≢true (sym (last_is h.before false false) ∙ ap (λ (xs : List Bool). last_of xs false) (sym h.shown))

pub shown_as_it_was : (e : ClientEnd) → EndsShown notes_on e (end_left e) [] (false ∷ true ∷ []) → ⊥
shown_as_it_was e h = false≢true (sym (last_is h.before false false) ∙ ap (λ (xs : List Bool). last_of xs false) (sym h.shown))
