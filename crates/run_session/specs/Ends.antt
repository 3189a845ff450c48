-- How many effects a run asks for at most once it is over (this profile).
use Rattle.std.specs.Prelude.{◌≡◌, ◌≤◌, ◌<◌, ◌⊎◌, ◌+◌, ◌-◌, ◌&&◌, ◌||◌, ℕ, zero, suc, Bool, true, false, Result, Ok, Err, length, if◌then◌else◌, nat_lt}
use Rattle.record_text.specs.Growths.{Growth}
use Rattle.run_session.specs.Records.{Book, State, is_at_end, is_due, is_tried, over}
use Rattle.run_session.specs.declared.stages.Stage.{Stage}
use Rattle.run_session.specs.declared.stages.Stage.TheVariants as stage

-- ---- what was counted is kept and shown

abbrev pub is_following : Stage → Bool
is_following stage.Tracing = true
is_following stage.Stamping = true
is_following stage.Logging = true
is_following stage.Noting = true
is_following stage.Recording = true
is_following stage.Settling = true
is_following stage.Reporting = true
is_following stage.Listing = true
is_following stage.Showing = true
is_following st = false

-- what is due is noted once more, and what comes of that is kept; and if memory runs out, all is kept once more
abbrev pub due_steps : State → ℕ
due_steps s = if is_due s true then 6 else 0

abbrev pub spare_steps : State → ℕ
spare_steps s = if s.book.spent then 0 else 14

-- as many effects, and those
abbrev pub within : ℕ → State → ℕ
within n s = n + (due_steps s + spare_steps s)

abbrev pub steps_on : Stage → State → ℕ
steps_on stage.Tracing s = within 29 s
steps_on stage.Stamping s = within 28 s
steps_on stage.Logging s = within 27 s
steps_on stage.Noting s = 27 + spare_steps s
steps_on stage.Recording s = within 26 s
steps_on stage.Settling s = within 25 s
steps_on stage.Reporting s = within 24 s
steps_on stage.Listing s = within 23 s
steps_on stage.Showing s = within 22 s
steps_on st s = 0

-- ---- its end

-- how many other effects a stage of the end and those after it ask for at most before the exit; `looks` have passed at a server that is left,
-- and the record was tried or not
abbrev pub steps_at : Stage → (tried : Bool) → (looks : ℕ) → ℕ
steps_at stage.ReplacingFeatures tried looks = 21
steps_at stage.Printing tried looks = 20
steps_at stage.Closing tried looks = 19
steps_at stage.Parting tried looks = 18
steps_at stage.Draining tried looks = 8 + (9 - looks)
steps_at stage.Leaving tried looks = 7
steps_at stage.DiscardingFeatures tried looks = 6
steps_at stage.DiscardingContacts tried looks = 5
steps_at stage.Standing tried looks = 4
steps_at stage.ReplacingRecord tried looks = 3
steps_at stage.ReplacingContacts tried looks = if tried then 2 else 5
steps_at stage.Ending tried looks = 1
steps_at stage.Telling tried looks = 1
steps_at st tried looks = 0

abbrev pub is_recorded : State → Bool
is_recorded s = is_tried s.book.keeps s.reports.marks.written.kept

-- ---- both

abbrev pub steps_left : State → ℕ
steps_left s = steps_on s.stage s + steps_at s.stage (is_recorded s) s.looks

-- a run is at its end, or over, and what was counted is kept
abbrev pub is_closing : State → Bool
is_closing s = is_at_end s.stage || (is_following s.stage && over s)

-- and it has that many left at most
pub record IsWithin (most : ℕ) (s : State) : Type 0 where
  pub ending : is_closing s ≡ true
  pub fewer : steps_left s ≤ most

-- that many are once its connection is left
abbrev pub to_close : State → ℕ
to_close s = if is_recorded s
    then (if is_tried (s.begun && s.reports.named) s.reports.marks.written.contacts then 1 else 2) else 4

-- and once the record gets what it lacks
abbrev pub place_of : Book → Growth → ℕ
place_of b g = if b.lost then 24
    else if nat_lt b.settled g.telling.counted.features then 25
    else if nat_lt b.filed (length g.text) then 26 else 24

abbrev pub to_record : State → ℕ
to_record s = within (place_of s.book s.pair.recording) s

-- a run that is over or at its end is so again, and only its exit is left, or fewer are
pub record IsNearer (s t : State) : Type 0 where
  pub ending : is_closing t ≡ true
  pub fewer : (t.stage ≡ stage.Exiting) ⊎ (steps_left t < steps_left s)

-- it is so after each answer
abbrev pub Nears : State → State → Type 0
Nears s t = is_closing s ≡ true → IsNearer s t

-- what an answer makes of it at its end, unless memory runs out: then its stage stays, and the last message is nearer
abbrev pub NearsOn : {A E : Type 0} → Result A E → State → State → Type 0
NearsOn (Ok a) s t = IsNearer s t
NearsOn (Err e) s t = (t.stage ≡ s.stage) × (1 < steps_left s)

-- and before that: it is over as it was
pub record IsStill (s t : State) : Type 0 where
  pub stage : t.stage ≡ s.stage
  pub spent : t.book.spent ≡ s.book.spent
  pub over : over t ≡ over s
  pub course : t.course ≡ s.course

abbrev pub FollowsOn : {A E : Type 0} → Result A E → State → State → Type 0
FollowsOn (Ok a) s t = IsNearer s t
FollowsOn (Err e) s t = IsStill s t

-- a part of that has that many left at most, and how the run was broken off stays
pub record IsPart (most : ℕ) (s t : State) : Type 0 where
  pub within : IsWithin most t
  pub course : t.course ≡ s.course

abbrev pub EndsWithin : {A E : Type 0} → ℕ → Result A E → State → State → Type 0
EndsWithin most (Ok a) s t = IsPart most s t
EndsWithin most (Err e) s t = IsStill s t

-- likewise if the run is over
abbrev pub OverWithin : {A E : Type 0} → ℕ → Result A E → State → State → Type 0
OverWithin most r s t = over s ≡ true → EndsWithin most r s t

-- if memory runs out, all is kept once more, or else no more
abbrev pub short_left : State → ℕ
short_left s = if s.book.spent then 7 else 35

-- one session comes of another by that many answers
pub data After : ℕ → State → State → Type 0 where
  none : (s : State) → After zero s s
  one : (n : ℕ) (s t u : State) → After n s t → Nears t u → After (suc n) s u
