use Rattle.record_text.proofs.Names.{[], ◌++◌, ◌≡◌, ap, arith, codes, First, header, List, none, nothing_kept, None, refl, Second, slice_index, sym, Version, ℕ}
use Rattle.contact_ledger.specs.Lines.{whole_lines}
use Rattle.record_text.proofs.CutTexts.{whole_read}
use Rattle.record_text.proofs.StageReads.{bad_head, unbegun}
use Rattle.record_text.proofs.StageRuns.{bad_first, foreign}
use Rattle.record_text.proofs.laws.either_version_is_read.Goals as goal

pub returns-clause-first : goal.returns-clause-first
returns-clause-first c = whole_read First None [] [] nothing_kept tt tt refl

pub returns-clause-second : goal.returns-clause-second
returns-clause-second c = whole_read Second None [] [] nothing_kept tt tt refl

pub returns-clause-cut : goal.returns-clause-cut
unfolding whole_lines
returns-clause-cut c = unbegun (codes "DME-RECORD ") (none refl (First, codes "1", refl))

pub returns-clause-cut_first : goal.returns-clause-cut_first
unfolding whole_lines
returns-clause-cut_first c = unbegun (codes "DME-RECORD 1") (none refl (First, [], refl))

pub returns-clause-cut_second : goal.returns-clause-cut_second
unfolding whole_lines
returns-clause-cut_second c = unbegun (codes "DME-RECORD 2") (none refl (Second, [], refl))

-- no first line begins so
third : (v : Version) (behind : List ℕ) → header v ≡ codes "DME-RECORD 3" ++ behind → ⊥
third First behind e = let k : 49 ≡ 51 = ap (λ (line : List ℕ). slice_index line 11) e in omega (arith, k)
third Second behind e = let k : 50 ≡ 51 = ap (λ (line : List ℕ). slice_index line 11) e in omega (arith, k)

pub returns-clause-third : goal.returns-clause-third
unfolding whole_lines
returns-clause-third c = bad_head (codes "DME-RECORD 3\n") 1
    (bad_first (codes "DME-RECORD 3\n") [] (codes "DME-RECORD 3") 1 refl refl (λ v e. third v [] (sym e)))

pub returns-clause-cut_third : goal.returns-clause-cut_third
unfolding whole_lines
returns-clause-cut_third c = bad_head (codes "DME-RECORD 3") 1
    (foreign (codes "DME-RECORD 3") 1 refl refl (λ b. third b.0 b.1 b.2))
