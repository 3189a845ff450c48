-- A touch whose data come after the end of a change above it, and which has no error: none of its marks came out of turn before.
use Rattle.witness_laws.proofs.Names.{◌&&◌, ◌==◌, ◌||◌, ◌∙◌, ◌∷◌, ◌≡◌, [], and_parts, Answers, asks_data, Begun, Bool, Command, Done, done_before}
use Rattle.witness_laws.proofs.Names.{false, false≢true, Heard, if◌then◌else◌, is_answer, is_done, is_error, is_fault, is_for, is_received, kind_of}
use Rattle.witness_laws.proofs.Names.{List, mark_in, marks, None, not, Option, Progress, progress_of, refl, Sends, Some, Stage, stage_after, stage_of}
use Rattle.witness_laws.proofs.Names.{step, subst, sym, true, ℕ}
use Rattle.witness.specs.Histories.{with_mark}
use Rattle.witness.specs.declared.lines.Progress.TheVariants.{Sent}
use Rattle.witness.specs.declared.lines.SentCommand.TheVariants.{Known}
use Rattle.witness_laws.specs.Machines.{Entry, Message, Does, lines}
use Rattle.witness_laws.specs.Premises.{place_of, out_of_turn}
use Rattle.witness_laws.proofs.machines.Orders.{is_it, NoneShown}
use Rattle.witness_laws.proofs.machines.Marking.{IsEarly, early_step, other_line, no_line, received_line}
use Rattle.witness_laws.proofs.machines.There.{IsPrompt}

abbrev pub IsSound : Stage → Type 0
IsSound Stage.Sent = Unit {0}
IsSound Stage.Received = Unit {0}
IsSound (Stage.Given d) = Unit {0}
IsSound Stage.Lost = ⊥

sound_mark : (asks : Bool) (s : Stage) (e : Heard) → IsSound (stage_after s (step asks s e)) → (is_error e ≡ false) × IsSound s
sound_mark asks Stage.Lost e is = elim is [ ]
sound_mark asks Stage.Sent Heard.Received is = (refl, tt)
sound_mark asks Stage.Sent (Heard.Given d) is = elim is [ ]
sound_mark asks Stage.Sent Heard.Unread is = elim is [ ]
sound_mark asks Stage.Sent Heard.Complete is = elim is [ ]
sound_mark asks Stage.Sent Heard.Failed is = elim is [ ]
sound_mark asks Stage.Received Heard.Received is = elim is [ ]
sound_mark asks Stage.Received (Heard.Given d) is = (refl, tt)
sound_mark asks Stage.Received Heard.Unread is = elim is [ ]
sound_mark asks Stage.Received Heard.Complete is = (refl, tt)
sound_mark asks Stage.Received Heard.Failed is = elim is [ ]
sound_mark asks (Stage.Given g) Heard.Received is = elim is [ ]
sound_mark asks (Stage.Given g) (Heard.Given d) is = elim is [ ]
sound_mark asks (Stage.Given g) Heard.Unread is = elim is [ ]
sound_mark asks (Stage.Given g) Heard.Complete is = (refl, tt)
sound_mark asks (Stage.Given g) Heard.Failed is = elim is [ ]

-- a mark that is no error is `&`, or an answer
no_answer : (e : Heard) → is_error e ≡ false → is_answer e ≡ false → is_received e ≡ true
no_answer Heard.Received er an = refl
no_answer (Heard.Given d) er an = absurd (false≢true (sym an))
no_answer Heard.Unread er an = absurd (false≢true (sym an))
no_answer Heard.Complete er an = absurd (false≢true (sym an))
no_answer Heard.Failed er an = absurd (false≢true (sym er))

early_not_done : (p : Option Progress) → IsEarly p → is_done p ≡ false
early_not_done None is = elim is [ ]
early_not_done (Some Sent) is = refl
early_not_done (Some Begun) is = refl
early_not_done (Some Done) is = elim is [ ]

prompt_mark : (c : Command) (j : ℕ) (mk : Option (ℕ × Heard)) (ft : Bool) (d : Bool) (ms : List Heard) → d ≡ false
    → IsSound (stage_of (Known c) (with_mark j mk ms)) → (not (is_for is_answer j mk) || d) ≡ true
    → (is_it j (if ft then place_of mk else None) ≡ false) × IsSound (stage_of (Known c) ms)
prompt_mark c j None ft d ms e is b = (no_line j ft, is)
prompt_mark c j (Some (m, h)) ft d ms e is b = go (j == m) refl is b
  where
    silent : (a : Bool) → is_answer h ≡ a → (not a || d) ≡ true → is_error h ≡ false → is_received h ≡ true
    silent true an f er = absurd (false≢true (sym e ∙ f))
    silent false an f er = no_answer h er an

    go : (x : Bool) → (j == m) ≡ x → IsSound (stage_of (Known c) (if x then h ∷ ms else ms)) → (not (x && is_answer h) || d) ≡ true
        → (is_it j (if ft then place_of (Some (m, h)) else None) ≡ false) × IsSound (stage_of (Known c) ms)
    go true same sound f =
        let both : (is_error h ≡ false) × IsSound (stage_of (Known c) ms) = sound_mark (asks_data (kind_of c)) (stage_of (Known c) ms) h sound in
        (received_line j m h ft (silent (is_answer h) refl f both.0), both.1)
    go false other sound f = (other_line j m h ft other, sound)

pub prompt_none : (c : Command) (i j : ℕ) (h : List Entry) → done_before i j (lines h) ≡ true → IsEarly (progress_of (marks i (lines h)))
    → IsSound (stage_of (Known c) (marks j (lines h))) → NoneShown j h
prompt_none c i j [] d early is = tt
prompt_none c i j (Message (Sends line what) ∷ h) d early is = prompt_none c i j h d early is
prompt_none c i j (Message (Answers line what) ∷ h) d early is =
    let upper : (is_it i (out_of_turn what (lines h)) ≡ false) × IsEarly (progress_of (marks i (lines h))) =
    early_step i (mark_in what (lines h)) (is_fault what (lines h)) (marks i (lines h)) early in
    let parts : ((not (is_for is_answer j (mark_in what (lines h))) || is_done (progress_of (marks i (lines h)))) ≡ true)
    × (done_before i j (lines h) ≡ true) =
    and_parts (not (is_for is_answer j (mark_in what (lines h))) || is_done (progress_of (marks i (lines h)))) (done_before i j (lines h)) d in
    let lower : (is_it j (out_of_turn what (lines h)) ≡ false) × IsSound (stage_of (Known c) (marks j (lines h))) =
    prompt_mark c j (mark_in what (lines h)) (is_fault what (lines h)) (is_done (progress_of (marks i (lines h)))) (marks j (lines h))
    (early_not_done (progress_of (marks i (lines h))) upper.1) is parts.0 in
    (lower.0, prompt_none c i j h parts.1 upper.1 lower.1)
prompt_none c i j (Does cause effect ∷ h) d early is = prompt_none c i j h d early is

sound_before : (c : Command) (j : ℕ) (mk : Option (ℕ × Heard)) (ms : List Heard) → IsSound (stage_of (Known c) (with_mark j mk ms))
    → IsSound (stage_of (Known c) ms)
sound_before c j None ms is = is
sound_before c j (Some (m, h)) ms is = go (j == m) is
  where
    go : (x : Bool) → IsSound (stage_of (Known c) (if x then h ∷ ms else ms)) → IsSound (stage_of (Known c) ms)
    go true sound = (sound_mark (asks_data (kind_of c)) (stage_of (Known c) ms) h sound).1
    go false sound = sound

pub touch_prompt : (c : Command) (i j : ℕ) (h : List Entry) → done_before i j (lines h) ≡ true
    → IsSound (stage_of (Known c) (marks j (lines h))) → IsPrompt i j h
touch_prompt c i j [] d is = tt
touch_prompt c i j (Message (Sends line what) ∷ h) d is = touch_prompt c i j h d is
touch_prompt c i j (Message (Answers line what) ∷ h) d is =
    let before : done_before i j (lines h) ≡ true =
    (and_parts (not (is_for is_answer j (mark_in what (lines h))) || is_done (progress_of (marks i (lines h)))) (done_before i j (lines h)) d).1 in
    let sound : IsSound (stage_of (Known c) (marks j (lines h))) = sound_before c j (mark_in what (lines h)) (marks j (lines h)) is in
    (λ begun. prompt_none c i j h before (subst IsEarly (sym begun) tt) sound, touch_prompt c i j h before sound)
touch_prompt c i j (Does cause effect ∷ h) d is = touch_prompt c i j h d is
