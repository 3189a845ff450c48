-- A setup that grows line by line is what all its lines say.
use Rattle.std.proofs.Common.{◌≡◌, ◌≢◌, ℕ, ◌+◌, Bool, true, false, ◌||◌, List, [], ◌∷◌, ◌++◌, length, None, Result, Ok, Err, IfOk, OnErr}
use Rattle.std.proofs.Common.{IsTrue, ◌↔◌, cond, rules, refl, sym, length-append, append-nil}
use Rattle.std.specs.List.{AllByRecursion}
use Rattle.std.specs.Str.{bytes_eq}
use Rattle.std.specs.Str.Lines.{lines}
use Rattle.std.specs.declared.alloc.AllocError.{AllocError}
use Rattle.std.proofs.lemmas.List.Elements.{filter_map-append}
use Rattle.std.proofs.lemmas.Slice.Eq.{bytes_eq-Decides}
use Rattle.fixed_um.specs.Points.{IsInVolume}
use Rattle.fixed_um.specs.declared.lengths.Point.{Point}
use Rattle.dmis_program.specs.Offsets.{AreDistinct, AreFrames, offset_of}
use Rattle.dmis_program.proofs.OffsetLemmas.{frames_more}
use Rattle.tool_rack.specs.Entries.{entry_on}
use Rattle.tool_rack.specs.Setups.{SetupValue, has_name, is_twice, tool_in, frame_in, shift_in, setup_with, judged, and_then, entries_from}
use Rattle.tool_rack.specs.Setups.{setup_of, IsSetup}
use Rattle.tool_rack.specs.Carrying.{setup_more, line_more}
use Rattle.tool_rack.proofs.SetupRuns.{setup_behind}
use Rattle.tool_rack.specs.declared.entries.Entry.{Entry}
use Rattle.tool_rack.specs.declared.faults.SetupFault.{SetupFault}

-- ---- what a setup is stays so

not_first : (m name : List ℕ) (names : List (List ℕ)) (b : Bool) → bytes_eq m name ≡ b → (b || has_name names name) ≡ false
    → (bytes_eq m name ≡ false) × (has_name names name ≡ false)
not_first m name names true e h = absurd cc
not_first m name names false e h = (e, h)

unequal : (a b : List ℕ) → bytes_eq a b ≡ false → a ≢ b
unequal a b h e = let t = (bytes_eq-Decides a b).1 e in absurd cc

differs_more : (m name : List ℕ) (names : List (List ℕ)) → m ≢ name → AllByRecursion (λ y. m ≢ y) names
    → AllByRecursion (λ y. m ≢ y) (names ++ name ∷ [])
differs_more m name [] e h = (e, tt)
differs_more m name (n ∷ names) e h = (h.0, differs_more m name names e h.1)

-- one more name, which is not there
pub distinct_more : (names : List (List ℕ)) (name : List ℕ) → AreDistinct names → has_name names name ≡ false
    → AreDistinct (names ++ name ∷ [])
distinct_more [] name once new = (tt, tt)
distinct_more (m ∷ names) name once new =
    let h = not_first m name names (bytes_eq m name) refl new in
    (differs_more m name names (unequal m name h.0) once.0, distinct_more names name once.1 h.1)

-- stored frames after a call that adds one
pub frames_added : (frames new : List (List ℕ × Point)) (name : List ℕ) (offset : Point) (r : Result Bool AllocError) → AreFrames frames
    → IsInVolume offset
    → IfOk r (λ added. IsTrue added ↔ (offset_of frames name ≡ None))
    → IfOk r (λ added. new ≡ cond added (frames ++ (name, offset) ∷ []) frames) → OnErr r (new ≡ frames) → AreFrames new
frames_added frames new name offset (Ok true) h g t e d = rw e (frames_more frames name offset h g (t.0 (search rules)))
frames_added frames new name offset (Ok false) h g t e d = rw e h
frames_added frames new name offset (Err _) h g t e d = rw d h

pub within_more : (shifts : List Point) (shift : Point) → AllByRecursion IsInVolume shifts → IsInVolume shift
    → AllByRecursion IsInVolume (shifts ++ shift ∷ [])
within_more [] shift h g = (g, tt)
within_more (s ∷ shifts) shift h g = (h.0, within_more shifts shift h.1 g)

pub setup_empty : IsSetup (record { tools = []; frames = []; shifts = [] })
setup_empty = record { tools_once = tt; frames = record { once = tt; within = tt }; shifts_within = tt }

-- ---- the lines above, and one more

pub setup_with_more : (above : List Entry) (e : Entry) → setup_with (above ++ e ∷ []) ≡ setup_more (setup_with above) e
setup_with_more above Entry.Nothing = rw (
  filter_map-append tool_in above (Entry.Nothing ∷ []),
  filter_map-append frame_in above (Entry.Nothing ∷ []),
  filter_map-append shift_in above (Entry.Nothing ∷ []),
) (simp append-nil)
setup_with_more above (Entry.Tool name) = rw (
  filter_map-append tool_in above (Entry.Tool name ∷ []),
  filter_map-append frame_in above (Entry.Tool name ∷ []),
  filter_map-append shift_in above (Entry.Tool name ∷ []),
) (simp append-nil)
setup_with_more above (Entry.Frame name offset) = rw (
  filter_map-append tool_in above (Entry.Frame name offset ∷ []),
  filter_map-append frame_in above (Entry.Frame name offset ∷ []),
  filter_map-append shift_in above (Entry.Frame name offset ∷ []),
)
    (simp append-nil)
setup_with_more above (Entry.Shift shift) = rw (
  filter_map-append tool_in above (Entry.Shift shift ∷ []),
  filter_map-append frame_in above (Entry.Shift shift ∷ []),
  filter_map-append shift_in above (Entry.Shift shift ∷ []),
) (simp append-nil)

-- all entries together
abbrev all_together : Result (List Entry) SetupFault → Result SetupValue SetupFault
all_together r = and_then r (λ entries. Ok (setup_with entries))

judged_step : (n : ℕ) (above : List Entry) (e : Entry) (lines : List (List ℕ)) (b : Bool) → is_twice (setup_with above) e ≡ b
    → ((more : List Entry) → setup_behind (length more + 1) (setup_with more) lines ≡ all_together (entries_from more lines))
    → n ≡ length above + 1
    → and_then (line_more n (setup_with above) e) (λ s. setup_behind (n + 1) s lines)
    ≡ all_together (and_then (judged n above (Ok e)) (λ x. entries_from (above ++ x ∷ []) lines))
judged_step n above e lines true t rest m = rw (t) refl
judged_step n above e lines false t rest m =
    let count : length (above ++ e ∷ []) ≡ n = rw (length-append above (e ∷ [])) (sym m) in
    rw (t, ← setup_with_more above e, ← count) (rest (above ++ e ∷ []))

line_step : (above : List Entry) (lines : List (List ℕ)) (r : Result Entry SetupFault)
    → ((more : List Entry) → setup_behind (length more + 1) (setup_with more) lines ≡ all_together (entries_from more lines))
    → and_then (and_then r (line_more (length above + 1) (setup_with above))) (λ s. setup_behind (length above + 1 + 1) s lines)
    ≡ all_together (and_then (judged (length above + 1) above r) (λ x. entries_from (above ++ x ∷ []) lines))
line_step above lines (Err f) rest = refl
line_step above lines (Ok e) rest = judged_step (length above + 1) above e lines (is_twice (setup_with above) e) refl rest refl

-- a setup that has grown so far, after the other lines, is what all lines say
pub grown : (lines : List (List ℕ)) (above : List Entry) → setup_behind (length above + 1) (setup_with above) lines
    ≡ all_together (entries_from above lines)
grown [] above = refl
grown (line ∷ lines) above = line_step above lines (entry_on (length above + 1) line) (λ more. grown lines more)

-- ---- the whole text

pub starts : (text : List ℕ) (s : SetupValue) → s ≡ record { tools = []; frames = []; shifts = [] }
    → setup_behind 1 s (lines text) ≡ setup_of text
unfolding setup_of
starts text s e = rw e (grown (lines text) [])
