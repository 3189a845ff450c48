-- What a refused statement is for: what deleting it would change (the words are those of ISO 22093; the groups are this profile's). One table:
-- coordinate systems are changed by `coordinates` and by each `RECALL` that is refused, motion by `moving`, what is measured by `measuring`
-- and `deciding`, lengths by `compensating`, and nothing of it by `bookkeeping`. Of the statements that are passed
-- over none changes a coordinate system (`Notices`). Any other word, as `DMESW`, `PSTHRU` or `DELETE`, may do anything.
use Rattle.std.specs.Prelude.{ℕ, Bool, true, false, ◌||◌, ◌==◌, List, [], ◌∷◌, codes, if◌then◌else◌}
use Rattle.dmis_program.specs.Keywords.{keyword_of, is_among}
use Rattle.dmis_program.specs.declared.faults.Refusal.{Refusal}
use Rattle.dmis_program.specs.declared.faults.Refusal.TheVariants as refusal
use Rattle.dmis_program.specs.declared.keywords.Keyword.{Keyword}
use Rattle.dmis_program.specs.declared.keywords.Keyword.TheVariants as word
use Rattle.program_review.specs.declared.groups.Group.{Group}
use Rattle.program_review.specs.declared.groups.Group.TheVariants as group

-- words that identify, print, keep or evaluate
abbrev pub bookkeeping : List (List ℕ)
bookkeeping = codes "CLMPID" ∷ (codes "CLMPSN" ∷ (codes "DMEID" ∷ (codes "FIXTID" ∷ (codes "FIXTSN" ∷ (codes "LOTID"
    ∷ (codes "MFGDEV" ∷ (codes "OPERID" ∷ (codes "PARTID" ∷ (codes "PARTRV" ∷ (codes "PARTSN" ∷ (codes "PLANID"
    ∷ (codes "PREVOP" ∷ (codes "PROCID" ∷ (codes "QISDEF" ∷ (codes "BOUND" ∷ (codes "CLOSE" ∷ (codes "CONST"
    ∷ (codes "DECPL" ∷ (codes "DEVICE" ∷ (codes "EVAL" ∷ (codes "GEOALG" ∷ (codes "KEYCHAR" ∷ (codes "OPEN"
    ∷ (codes "RAWDAT" ∷ (codes "REPORT" ∷ (codes "VFORM" ∷ (codes "WRITE" ∷ [])))))))))))))))))))))))))))

-- words that set up, keep or change a coordinate system, or select another carriage, or turn the part
abbrev pub coordinates : List (List ℕ)
coordinates = codes "CRSLCT" ∷ (codes "DATDEF" ∷ (codes "DATSET" ∷ (codes "EQUATE" ∷ (codes "ITERAT" ∷ (codes "LOCATE"
    ∷ (codes "MATDEF" ∷ (codes "ROTAB" ∷ (codes "ROTATE" ∷ (codes "ROTDEF" ∷ (codes "ROTSET" ∷ (codes "SAVE"
    ∷ (codes "TRANS" ∷ []))))))))))))

-- words that measure or calibrate, or say how
abbrev pub measuring : List (List ℕ)
measuring = codes "ALGDEF" ∷ (codes "CALIB" ∷ (codes "FILDEF" ∷ (codes "LITDEF" ∷ (codes "PAMEAS" ∷ (codes "PATH"
    ∷ (codes "PTBUFF" ∷ (codes "RMEAS" ∷ (codes "SCAN" ∷ (codes "SCNMOD" ∷ (codes "SCNPLN" ∷ (codes "SCNSET"
    ∷ (codes "THLDEF" ∷ (codes "WINDEF" ∷ (codes "XTRACT" ∷ []))))))))))))))

-- words that decide which statements come next, or compute what they need
abbrev pub deciding : List (List ℕ)
deciding = codes "BADTST" ∷ (codes "CASE" ∷ (codes "DFTCAS" ∷ (codes "DMIS" ∷ (codes "DO" ∷ (codes "ELSE"
    ∷ (codes "ENDCAS" ∷ (codes "ENDDO" ∷ (codes "ENDIF" ∷ (codes "ENDSEL" ∷ (codes "IF" ∷ (codes "JUMPTO"
    ∷ (codes "RESUME" ∷ (codes "SELECT" ∷ (codes "ASSIGN" ∷ (codes "CALL" ∷ (codes "DECL" ∷ (codes "DMISMD"
    ∷ (codes "ENDMAC" ∷ (codes "ENDXTN" ∷ (codes "ERROR" ∷ (codes "EXTFIL" ∷ (codes "INCLUD" ∷ (codes "MACRO"
    ∷ (codes "OBTAIN" ∷ (codes "PROMPT" ∷ (codes "READ" ∷ (codes "VALUE" ∷ (codes "XTERN" ∷ []))))))))))))))))))))))))))))

-- words that move the machine, or say how it moves
abbrev pub moving : List (List ℕ)
moving = codes "CLRSRF" ∷ (codes "CRMODE" ∷ (codes "CROSCL" ∷ (codes "CZONE" ∷ (codes "CZSLCT" ∷ (codes "ENDGO"
    ∷ (codes "FLY" ∷ (codes "FROM" ∷ (codes "GOHOME" ∷ (codes "GOTARG" ∷ (codes "RAPID"
    ∷ (codes "WRIST" ∷ [])))))))))))

-- words that change measured lengths
abbrev pub compensating : List (List ℕ)
compensating = codes "GECOMP" ∷ (codes "TECOMP" ∷ [])

-- a label to which a program jumps, as `(AGAIN)`; ( is 40
abbrev pub is_jump_label : List ℕ → Bool
is_jump_label [] = false
is_jump_label (first ∷ rest) = first == 40

-- the group of a word that this profile does not read
unfoldable pub word_group : List ℕ → Group
word_group text =
    if is_among text bookkeeping then group.Bookkeeping else
    if is_among text coordinates then group.Coordinates else
    if is_among text measuring then group.Measuring else
    if is_among text deciding || is_jump_label text then group.Flow else
    if is_among text moving then group.Motion else
    if is_among text compensating then group.Lengths else group.Other

-- of a statement that this profile does not read
abbrev pub unsupported_group : Keyword → List ℕ → Group
unsupported_group word.Goto text = group.Motion
unsupported_group word.Ptmeas text = group.Measuring
unsupported_group word.Recall text = group.Coordinates
unsupported_group word.Dmismn text = group.Flow
unsupported_group word.Unknown text = word_group text
unsupported_group _ text = group.Mistake

-- of a statement whose parameters are wrong: a frame that is not selected changes where positions are, a mode who takes the touches
abbrev pub mistaken_group : Keyword → Group
mistaken_group word.Recall = group.Coordinates
mistaken_group word.Mode = group.ByHand
mistaken_group _ = group.Mistake

-- the group of a refused statement of this word
abbrev pub group_of : Refusal → List ℕ → Group
group_of refusal.Unsupported text = unsupported_group (keyword_of text) text
group_of refusal.BadArguments text = mistaken_group (keyword_of text)
group_of refusal.UnknownFrame text = group.Coordinates
group_of refusal.TooFewPoints text = group.Measuring
group_of refusal.NoProgMode text = group.ByHand
group_of refusal.NotMillimetres text = group.Lengths
group_of _ text = group.Mistake
