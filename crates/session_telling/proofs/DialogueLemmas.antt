-- What one more line at the front adds to what the lines after it say.
use Rattle.std.proofs.Common.{◌≡◌, ◌++◌, ◌∙◌, ℕ, suc, ◌+◌, ◌==◌, arith, Bool, true, false, not, cond, ltb, List, [], ◌∷◌, length, take}
use Rattle.std.proofs.Common.{Option, Some, None, drop, get_or, ap, sym, subst, refl, append_assoc, append-nil}
use Rattle.std.specs.List.{list_any, position, position_or_len}
use Rattle.std.proofs.lemmas.Bool.{eqb-true, ltb-false}
use Rattle.std.proofs.lemmas.Option.{cond_some}
use Rattle.std.proofs.lemmas.List.{take_all, take_more, take-append-drop}
use Rattle.std.proofs.lemmas.List.Quantifiers.{position-Some}
use Rattle.session_telling.specs.Sessions.{Adds, Reports, ReportsNothing}
use Rattle.session_telling.specs.Dialogues.{AllAdd, AllReport, AreCut, Dialogue, Hears, IsUnended, Reported, ReportsLines, Sends, SendsLines, content, ended}
use Rattle.session_telling.specs.Dialogues.AllReport.{ends, passes, reports}
use Rattle.session_telling.specs.declared.sessions.Sent.{Sent}

any_none : (p : ℕ → Bool) (x : ℕ) (ys : List ℕ) → p x ≡ false → list_any p ys ≡ false → list_any p (x ∷ ys) ≡ false
any_none p x ys e none = rw e none

take_first : (n x : ℕ) (xs : List ℕ) → take (1 + n) (x ∷ xs) ≡ x ∷ take n xs
take_first n x xs = let one : 1 + n ≡ suc n = omega arith in rw one refl

-- no byte before the first that passes does
none_before : (p : ℕ → Bool) (xs : List ℕ) → list_any p (take (position_or_len p xs) xs) ≡ false
none_before p [] = refl
none_before p (x ∷ xs) = go (p x) refl (none_before p xs)
  where
    go : (b : Bool) → p x ≡ b → list_any p (take (position_or_len p xs) xs) ≡ false
        → list_any p (take (cond (not b) (1 + position_or_len p xs) 0) (x ∷ xs)) ≡ false
    go true e none = refl
    go false e none = rw (take_first (position_or_len p xs) x xs) (any_none p x (take (position_or_len p xs) xs) e none)

pub unended_before : (bytes : List ℕ) (at : ℕ) → Some at ≡ position (λ b. b == 10) bytes → IsUnended (take at bytes)
unended_before bytes at found =
    let p : ℕ → Bool = λ b. b == 10 in
    let parts = cond_some (ltb (position_or_len p bytes) (length bytes)) (position_or_len p bytes) at (sym found) in
    rw (← parts.1) (none_before p bytes)

pub unended_whole : (bytes : List ℕ) → None ≡ position (λ b. b == 10) bytes → IsUnended bytes
unended_whole bytes none = go (ltb (position_or_len (λ b. b == 10) bytes) (length bytes)) refl none
  where
    go : (t : Bool) → ltb (position_or_len (λ b. b == 10) bytes) (length bytes) ≡ t
        → None ≡ cond t (Some (position_or_len (λ b. b == 10) bytes)) None → IsUnended bytes
    go true is n = absurd cc
    go false is n = subst (λ (ys : List ℕ). list_any (λ (b : ℕ). b == 10) ys ≡ false)
        (take_all (position_or_len (λ (b : ℕ). b == 10) bytes) bytes (ltb-false _ _ is)) (none_before (λ (b : ℕ). b == 10) bytes)

-- a line, its LF, and what follows
pub ended_line : (bytes : List ℕ) (at : ℕ) → Some at ≡ position (λ b. b == 10) bytes
    → bytes ≡ take at bytes ++ 10 ∷ drop (at + 1) bytes
ended_line bytes at found =
    let some = position-Some (λ (b : ℕ). b == 10) bytes at 0 (sym found) in
    let is : get_or bytes at 0 ≡ 10 = eqb-true _ _ some.1 in
    sym (take-append-drop (at + 1) bytes)
    ∙ ap (λ (front : List ℕ). front ++ drop (at + 1) bytes) (take_more bytes at 0 some.0)
    ∙ append_assoc (take at bytes) (get_or bytes at 0 ∷ []) (drop (at + 1) bytes)
    ∙ ap (λ (b : ℕ). take at bytes ++ b ∷ drop (at + 1) bytes) is

-- one more line at the front of bytes that are cut
cut_one : (bytes line after : List ℕ) (lines : List (List ℕ)) (rest : List ℕ) → bytes ≡ line ++ 10 ∷ after → IsUnended line
    → AreCut after lines rest → AreCut bytes (line ∷ lines) rest
cut_one bytes line after lines rest is unended cut = record {
  whole = is ∙ ap (λ (t : List ℕ). line ++ 10 ∷ t) cut.whole ∙ sym (append_assoc line (10 ∷ ended lines) rest);
  lines_end = (unended, cut.lines_end);
  rest_is_open = cut.rest_is_open;
}

cut_none : (bytes : List ℕ) → IsUnended bytes → AreCut bytes [] bytes
cut_none bytes unended = record { whole = refl; lines_end = tt; rest_is_open = unended }

pub sends_one : (bytes line after : List ℕ) (before mid final : List Sent) (rest : List ℕ) → bytes ≡ line ++ 10 ∷ after
    → IsUnended line → Adds (content line) before mid → SendsLines after mid final rest → SendsLines bytes before final rest
sends_one bytes line after before mid final rest is unended adds more = record {
  lines = line ∷ more.lines;
  cut = cut_one bytes line after more.lines rest is unended more.cut;
  added = (mid, adds, more.added);
}

pub sends_none : (bytes : List ℕ) (sent : List Sent) → IsUnended bytes → SendsLines bytes sent sent bytes
sends_none bytes sent unended = record { lines = []; cut = cut_none bytes unended; added = refl }

pub passes_one : (sent : List Sent) (bytes line after : List ℕ) (before final : List Reported) (rest : List ℕ) → bytes ≡ line ++ 10 ∷ after
    → IsUnended line → ReportsNothing (content line) → ReportsLines sent after before final rest → ReportsLines sent bytes before final rest
passes_one sent bytes line after before final rest is unended nothing more = record {
  lines = line ∷ more.lines;
  reports = more.reports;
  cut = cut_one bytes line after more.lines rest is unended more.cut;
  reported = passes line more.lines more.reports nothing more.reported;
  joined = more.joined;
}

pub reports_one : (sent : List Sent) (bytes line after : List ℕ) (before mid final : List Reported) (report : Reported) (rest : List ℕ)
    → bytes ≡ line ++ 10 ∷ after → IsUnended line → Reports sent (content line) report.tag report.about report.text
    → mid ≡ before ++ report ∷ [] → ReportsLines sent after mid final rest → ReportsLines sent bytes before final rest
reports_one sent bytes line after before mid final report rest is unended told same more = record {
  lines = line ∷ more.lines;
  reports = report ∷ more.reports;
  cut = cut_one bytes line after more.lines rest is unended more.cut;
  reported = reports line more.lines report more.reports told more.reported;
  joined = more.joined ∙ ap (λ (r : List Reported). r ++ more.reports) same ∙ append_assoc before (report ∷ []) more.reports;
}

pub reports_none : (sent : List Sent) (bytes : List ℕ) (before : List Reported) → IsUnended bytes
    → ReportsLines sent bytes before before bytes
reports_none sent bytes before unended = record {
  lines = [];
  reports = [];
  cut = cut_none bytes unended;
  reported = ends;
  joined = sym (append-nil before);
}

-- ---- all that came

pub sends_all : (bytes : List ℕ) (old new : Dialogue) (after : List Sent) (rest : List ℕ) → SendsLines (old.sending ++ bytes) old.sent after rest
    → new.sent ≡ after → new.sending ≡ rest → new.hearing ≡ old.hearing → Sends bytes old new
sends_all bytes old new after rest s sent sending other = record {
  lines = s.lines;
  cut = subst (AreCut (old.sending ++ bytes) s.lines) (sym sending) s.cut;
  added = subst (AllAdd s.lines old.sent) (sym sent) s.added;
  other = other;
}

pub hears_all : (bytes : List ℕ) (old new : Dialogue) (all : List Reported) (rest : List ℕ) → ReportsLines old.sent (old.hearing ++ bytes) [] all rest
    → new.hearing ≡ rest → new.sent ≡ old.sent → new.sending ≡ old.sending → Hears bytes old new all
hears_all bytes old new all rest s hearing same other = record {
  lines = s.lines;
  cut = subst (AreCut (old.hearing ++ bytes) s.lines) (sym hearing) s.cut;
  reported = subst (AllReport old.sent s.lines) (sym s.joined) s.reported;
  same = same;
  other = other;
}
