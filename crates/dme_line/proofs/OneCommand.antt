-- A line is read as a command in one way.
use Rattle.dme_line.proofs.Names.{◌∙◌, ◌≡◌, ap, arith, Begins, Command, Csy, csy_name, enclosed, Err, HasLengths, is_word, IsCommandText, IsSystem}
use Rattle.dme_line.proofs.Names.{IsTool, IsToolWord, IsTransformation, Kind, kind_name, length, LineFault, List, MachineCsy, map, None, Ok, PartCsy}
use Rattle.dme_line.proofs.Names.{Point, ReadsCommand, refl, Result, Says, Seven, seven_tokens, subst, sym, Tag, to_ascii_lowercase, Token, tokens}
use Rattle.dme_line.proofs.Names.{true, volume_limit, ℕ}
use Rattle.dme_line.specs.declared.commands.Command.TheVariants.{ChangeTool, GoTo, PtMeas, SetCoordSystem, SetCsyTransformation}
use Rattle.dme_line.specs.declared.reading.LineFault.TheVariants.{BadArguments, NoTag, UnknownCommand}
use Rattle.dme_line.proofs.PlaceLemmas.{one_place, one_length, same_point}
use Rattle.dme_line.proofs.ToolLemmas.{same_word, one_tool_word}
use Rattle.dme_line.proofs.CommandLemmas.{same_letters, one_kind, one_front, says_here}

-- one name of a tool
one_tool : (ts : List Token) (a b : List ℕ) → IsTool ts a → IsTool ts b → a ≡ b
one_tool ts a b f g =
    let word = same_word ts f.word g.word f.spelled g.spelled in
    one_tool_word g.word a b (subst (λ (w : List ℕ). IsToolWord w a) word f.reads) g.reads

-- one coordinate system
one_csy : (a b : Csy) → map to_ascii_lowercase (csy_name a) ≡ map to_ascii_lowercase (csy_name b) → a ≡ b
one_csy MachineCsy MachineCsy e = refl
one_csy MachineCsy PartCsy e = absurd (omega (arith, ap (λ (t : List ℕ). length t) e))
one_csy PartCsy MachineCsy e = absurd (omega (arith, ap (λ (t : List ℕ). length t) e))
one_csy PartCsy PartCsy e = refl

one_system : (ts : List Token) (a b : Csy) → IsSystem ts a → IsSystem ts b → a ≡ b
one_system ts a b f g =
    let word = same_word ts f.word g.word f.spelled g.spelled in
    one_csy a b (same_letters (csy_name a) (csy_name b) g.word (subst (λ (w : List ℕ). is_word (csy_name a) w ≡ true) word f.named) g.named)

-- one transformation
same_seven : (s t : Seven) → s.system ≡ t.system → s.x ≡ t.x → s.y ≡ t.y → s.z ≡ t.z → s.a ≡ t.a → s.b ≡ t.b → s.c ≡ t.c → s ≡ t
same_seven s t f x y z a b c = λ n. record { system = f n; x = x n; y = y n; z = z n; a = a n; b = b n; c = c n }

one_seven : (s t : Seven) → enclosed (seven_tokens s) ≡ enclosed (seven_tokens t) → s ≡ t
one_seven s t e = same_seven s t (cc) (cc) (cc) (cc) (cc) (cc) (cc)

one_lengths : (s : Seven) (p q : Point) → HasLengths s p → HasLengths s q → p ≡ q
one_lengths s p q f g = same_point p q (one_length 3 volume_limit s.x p.x q.x f.x g.x) (one_length 3 volume_limit s.y p.y q.y f.y g.y)
    (one_length 3 volume_limit s.z p.z q.z f.z g.z)

one_transformation : (ts : List Token) (p q : Point) → IsTransformation ts p → IsTransformation ts q → p ≡ q
one_transformation ts p q f g = one_lengths g.words p q (subst (λ (s : Seven). HasLengths s p)
    (one_seven f.words g.words (sym f.spelled ∙ g.spelled)) f.lengths) g.lengths

-- tokens say one command of a kind
one_saying : (k : Kind) (ts : List Token) (c d : Command) → Says k ts c → Says k ts d → c ≡ d
one_saying Kind.StartSession ts c d f g = f.1 ∙ sym g.1
one_saying Kind.EndSession ts c d f g = f.1 ∙ sym g.1
one_saying Kind.ClearAllErrors ts c d f g = f.1 ∙ sym g.1
one_saying Kind.IsHomed ts c d f g = f.1 ∙ sym g.1
one_saying Kind.Home ts c d f g = f.1 ∙ sym g.1
one_saying Kind.OnPtMeasReport ts c d f g = f.1 ∙ sym g.1
one_saying Kind.GoTo ts c d f g = f.2 ∙ ap (λ (p : Point). GoTo p) (one_place ts f.0 g.0 None None f.1 g.1).target ∙ sym g.2
one_saying Kind.PtMeas ts c d f g =
    let same = one_place ts f.0 g.0 f.1 g.1 f.2 g.2 in
    f.3 ∙ (λ n. PtMeas (same.target n) (same.ijk n)) ∙ sym g.3
one_saying Kind.ChangeTool ts c d f g = f.2 ∙ ap (λ (n : List ℕ). ChangeTool n) (one_tool ts f.0 g.0 f.1 g.1) ∙ sym g.2
one_saying Kind.SetCsyTransformation ts c d f g = f.2 ∙ ap (λ (p : Point). SetCsyTransformation p) (one_transformation ts f.0 g.0 f.1 g.1)
    ∙ sym g.2
one_saying Kind.SetCoordSystem ts c d f g = f.2 ∙ ap (λ (s : Csy). SetCoordSystem s) (one_system ts f.0 g.0 f.1 g.1) ∙ sym g.2
one_saying Kind.AbortE ts c d f g = f.1 ∙ sym g.1

-- a line stands for one command under one tag
pub record SameCommand (t u : Tag) (c d : Command) : Type 0 where
  pub tag : t ≡ u
  pub command : c ≡ d

pub one_command : (line : List ℕ) (t u : Tag) (c d : Command) → IsCommandText line t c → IsCommandText line u d → SameCommand t u c d
one_command line t u c d f g =
    let front = one_front line t u f.name g.name f.rest g.rest f.begins g.begins in
    let here = says_here line u t g.name g.rest g.kind c g.begins g.known f in
    record { tag = front.tag; command = one_saying g.kind (tokens g.rest) c d here.says g.says }

-- where a line begins with a name, a command that it stands for has a kind of that name, and its tag
known_name : (line : List ℕ) (t u : Tag) (c : Command) (name rest : List ℕ) → IsCommandText line t c → Begins line u name rest → (k : Kind)
    × (is_word (kind_name k) name ≡ true) × (t ≡ u)
known_name line t u c name rest f g =
    let front = one_front line t u f.name name f.rest rest f.begins g in
    (f.kind, subst (λ (n : List ℕ). is_word (kind_name f.kind) n ≡ true) front.name f.known, front.tag)

abbrev Met : Type 0
Met = Result (Tag × Command) LineFault

ok_ok : (line : List ℕ) (t u : Tag) (c d : Command) → IsCommandText line t c → IsCommandText line u d
    → ◌≡◌ {A = Met} (Ok (t, c)) (Ok (u, d))
ok_ok line t u c d f g = let same = one_command line t u c d f g in λ n. Ok (same.tag n, same.command n)

ok_unknown : (line : List ℕ) (t u : Tag) (c : Command) → IsCommandText line t c → ReadsCommand line (Err (UnknownCommand u)) → ⊥
ok_unknown line t u c f g = let k = known_name line t u c g.0 g.1 f g.2 in g.3 k.0 k.1

ok_bad : (line : List ℕ) (t u : Tag) (c : Command) (k : Kind) → IsCommandText line t c → ReadsCommand line (Err (BadArguments u k)) → ⊥
ok_bad line t u c k f g = g.4 c (subst (λ (x : Tag). IsCommandText line x c) (known_name line t u c g.0 g.1 f g.2).2 f)

unknown_bad : (line : List ℕ) (t u : Tag) (k : Kind) → ReadsCommand line (Err (UnknownCommand t))
    → ReadsCommand line (Err (BadArguments u k)) → ⊥
unknown_bad line t u k f g = let front = one_front line u t g.0 f.0 g.1 f.1 g.2 f.2
    in f.3 k (subst (λ (n : List ℕ). is_word (kind_name k) n ≡ true) front.name g.3)

unknown_unknown : (line : List ℕ) (t u : Tag) → ReadsCommand line (Err (UnknownCommand t)) → ReadsCommand line (Err (UnknownCommand u))
    → ◌≡◌ {A = Met} (Err (UnknownCommand t)) (Err (UnknownCommand u))
unknown_unknown line t u f g = let front = one_front line t u f.0 g.0 f.1 g.1 f.2 g.2 in ap (λ (x : Tag). Err (UnknownCommand x)) front.tag

bad_bad : (line : List ℕ) (t u : Tag) (k l : Kind) → ReadsCommand line (Err (BadArguments t k)) → ReadsCommand line (Err (BadArguments u l))
    → ◌≡◌ {A = Met} (Err (BadArguments t k)) (Err (BadArguments u l))
bad_bad line t u k l f g =
    let front = one_front line t u f.0 g.0 f.1 g.1 f.2 g.2 in
    let kinds = one_kind k l g.0 (subst (λ (n : List ℕ). is_word (kind_name k) n ≡ true) front.name f.3) g.3 in
    λ n. Err (BadArguments (front.tag n) (kinds n))

-- a line is read in one way
pub one_command_reading : (line : List ℕ) (x y : Result (Tag × Command) LineFault) → ReadsCommand line x → ReadsCommand line y → x ≡ y
one_command_reading line (Ok (t, c)) (Ok (u, d)) f g = ok_ok line t u c d f g
one_command_reading line (Ok (t, c)) (Err NoTag) f g = absurd (g t f.begins.text f.begins.tagged)
one_command_reading line (Ok (t, c)) (Err (UnknownCommand u)) f g = absurd (ok_unknown line t u c f g)
one_command_reading line (Ok (t, c)) (Err (BadArguments u k)) f g = absurd (ok_bad line t u c k f g)
one_command_reading line (Err NoTag) (Ok (u, d)) f g = absurd (f u g.begins.text g.begins.tagged)
one_command_reading line (Err NoTag) (Err NoTag) f g = refl
one_command_reading line (Err NoTag) (Err (UnknownCommand u)) f g = absurd (f u g.2.text g.2.tagged)
one_command_reading line (Err NoTag) (Err (BadArguments u k)) f g = absurd (f u g.2.text g.2.tagged)
one_command_reading line (Err (UnknownCommand t)) (Ok (u, d)) f g = absurd (ok_unknown line u t d g f)
one_command_reading line (Err (UnknownCommand t)) (Err NoTag) f g = absurd (g t f.2.text f.2.tagged)
one_command_reading line (Err (UnknownCommand t)) (Err (UnknownCommand u)) f g = unknown_unknown line t u f g
one_command_reading line (Err (UnknownCommand t)) (Err (BadArguments u k)) f g = absurd (unknown_bad line t u k f g)
one_command_reading line (Err (BadArguments t k)) (Ok (u, d)) f g = absurd (ok_bad line u t d k g f)
one_command_reading line (Err (BadArguments t k)) (Err NoTag) f g = absurd (g t f.2.text f.2.tagged)
one_command_reading line (Err (BadArguments t k)) (Err (UnknownCommand u)) f g = absurd (unknown_bad line u t k g f)
one_command_reading line (Err (BadArguments t k)) (Err (BadArguments u l)) f g = bad_bad line t u k l f g
