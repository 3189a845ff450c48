-- What is printed of a judgement (this profile).
use Rattle.std.specs.Prelude.{ℕ, ◌+◌, ◌==◌, List, [], ◌∷◌, ◌++◌, codes, decimal, slice_get, if◌then◌else◌, Option, Some, None}
use Rattle.std.specs.List.{flat_map}
use Rattle.dme_line.specs.Kinds.{kind_name}
use Rattle.dme_line.specs.declared.commands.Kind.{Kind}
use Rattle.session_telling.specs.Visible.{visible}
use Rattle.witness.specs.Counts.{kinds}
use Rattle.witness.specs.declared.judgement.Break.{Break}
use Rattle.witness.specs.declared.judgement.Judgement.{Judgement}
use Rattle.witness.specs.declared.rules.Rule.{Rule}
use Rattle.witness.specs.declared.rules.Rule.TheVariants as rule

abbrev pub rule_name : Rule → List ℕ
rule_name rule.NoTag = codes "NoTag"
rule_name rule.TagInUse = codes "TagInUse"
rule_name rule.UnknownCommand = codes "UnknownCommand"
rule_name rule.WrongTag = codes "WrongTag"
rule_name rule.BadArguments = codes "BadArguments"
rule_name rule.NoSession = codes "NoSession"
rule_name rule.SessionOpen = codes "SessionOpen"
rule_name rule.QueueFull = codes "QueueFull"
rule_name rule.NotResponse = codes "NotResponse"
rule_name rule.UnknownTag = codes "UnknownTag"
rule_name rule.NotSent = codes "NotSent"
rule_name rule.OutOfOrder = codes "OutOfOrder"
rule_name rule.NoData = codes "NoData"
rule_name rule.SecondData = codes "SecondData"
rule_name rule.OtherData = codes "OtherData"
rule_name rule.NotInTurn = codes "NotInTurn"
rule_name rule.NotCleared = codes "NotCleared"
rule_name rule.NoEnd = codes "NoEnd"
rule_name rule.LineTooLong = codes "LineTooLong"
rule_name rule.BadByte = codes "BadByte"

-- a line after a space, as it can be read; nothing of an empty one
abbrev pub line_text : List ℕ → List ℕ
line_text [] = []
line_text (b ∷ line) = codes " " ++ flat_map visible (b ∷ line)

-- the line of an end that breaks a rule
abbrev pub break_text : List ℕ → Break → List ℕ
break_text side b =
    side ++ (codes " LINE " ++ (decimal b.number ++ (codes " " ++ (rule_name b.rule ++ (line_text b.line ++ codes "\n")))))

abbrev pub end_text : List ℕ → Option Break → List ℕ
end_text side None = []
end_text side (Some b) = break_text side b

-- a count with its word, but not that of nothing
abbrev pub count_text : List ℕ → ℕ → List ℕ
count_text word n = if n == 0 then [] else word ++ (codes " " ++ (decimal n ++ codes "\n"))

-- the word of the count at a place: the name of a command, and then that of all others
abbrev pub word_of : Option Kind → List ℕ
word_of (Some k) = kind_name k
word_of None = codes "other"

-- the counts of the lines of the client, from a place on
abbrev pub commands_text : ℕ → List ℕ → List ℕ
commands_text at [] = []
commands_text at (n ∷ ns) = count_text (word_of (slice_get kinds at)) n ++ commands_text (at + 1) ns

-- the counts of the lines of the server, by their marks
abbrev pub marks_text : List ℕ → List ℕ
marks_text (received ∷ given ∷ complete ∷ errors ∷ []) = count_text (codes "&") received
    ++ (count_text (codes "#") given ++ (count_text (codes "%") complete ++ count_text (codes "!") errors))
marks_text _ = []

-- the counts, if no line breaks a rule
abbrev pub counts_text : Judgement → List ℕ
counts_text j = codes "dme: no line breaks the rules\n" ++ (commands_text 0 j.commands.items ++ marks_text j.marks.items)

abbrev pub ends_text : Option Break → Option Break → Judgement → List ℕ
ends_text None None j = counts_text j
ends_text client server j = end_text (codes "CLIENT") client ++ end_text (codes "SERVER") server

-- the text of a judgement
abbrev pub judgement_text : Judgement → List ℕ
judgement_text j = ends_text j.client j.server j

-- the exit status: 3 if a line breaks a rule
abbrev pub ends_status : Option Break → Option Break → ℕ
ends_status None None = 0
ends_status client server = 3

abbrev pub judgement_status : Judgement → ℕ
judgement_status j = ends_status j.client j.server
