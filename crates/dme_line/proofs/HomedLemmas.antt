-- The answer to IsHomed: read in one way, and what is written reads back.
use Rattle.dme_line.proofs.Names.{[], ◌==◌, ◌∙◌, ◌∷◌, ◌≡◌, ap, arith, Bool, codes, Err, false, false≢true, homed_digit, homed_response, IfOk, inl}
use Rattle.dme_line.proofs.Names.{inr, is_name_part, is_word, IsHomedCall, IsHomedText, IsNamed, IsOneWord, IsTag, IsWireText, IsWritableResponse}
use Rattle.dme_line.proofs.Names.{kind_name, List, NotHomedText, Ok, OnErr, ReadsHomed, refl, Result, subst, sym, Tag, tokens, true, written_homed, ℕ}
use Rattle.dme_line.specs.declared.commands.Kind.TheVariants.{IsHomed}
use Rattle.dme_line.proofs.NameCutLemmas.{SameCut, one_cut}
use Rattle.dme_line.proofs.ToolLemmas.{same_word}
use Rattle.dme_line.proofs.CommandWire.{wire_weaker}

-- a text has one name in front
pub one_name : (text a b r s : List ℕ) → IsNamed text a r → IsNamed text b s → SameCut a b r s
one_name text a b r s f g = one_cut is_name_part a b r s (sym f.parts ∙ g.parts) f.whole g.whole f.stop g.stop

-- what a call says where its name is known
pub record CallHere (name rest : List ℕ) (homed : Bool) : Type 0 where
  pub known : is_word (kind_name IsHomed) name ≡ true
  pub spelled : IsOneWord (tokens rest) (homed_digit homed)

pub call_here : (text name rest : List ℕ) (homed : Bool) → IsNamed text name rest → IsHomedCall text homed → CallHere name rest homed
call_here text name rest homed f h =
    let cut = one_name text h.name name h.rest rest h.named f in
    record {
      known = subst (λ (n : List ℕ). is_word (kind_name IsHomed) n ≡ true) cut.front h.known;
      spelled = subst (λ (r : List ℕ). IsOneWord (tokens r) (homed_digit homed)) cut.behind h.spelled;
    }

neither : (text : List ℕ) → ((homed : Bool) → text ≡ homed_digit homed → ⊥) → ((homed : Bool) → IsHomedCall text homed → ⊥)
    → (homed : Bool) → IsHomedText text homed → ⊥
neither text no_digit no_call homed (inl e) = no_digit homed e
neither text no_digit no_call homed (inr h) = no_call homed h

-- no call: another name, no word in the parentheses, or a word that says nothing
pub other_name : (text name rest : List ℕ) → IsNamed text name rest → is_word (kind_name IsHomed) name ≡ false
    → (homed : Bool) → IsHomedCall text homed → ⊥
other_name text name rest f differs homed h = false≢true (sym differs ∙ (call_here text name rest homed f h).known)

pub no_word : (text name rest : List ℕ) → IsNamed text name rest → ((word : List ℕ) → IsOneWord (tokens rest) word → ⊥)
    → (homed : Bool) → IsHomedCall text homed → ⊥
no_word text name rest f none homed h = none (homed_digit homed) (call_here text name rest homed f h).spelled

other_word : (text name rest word : List ℕ) → IsNamed text name rest → IsOneWord (tokens rest) word
    → ((homed : Bool) → word ≡ homed_digit homed → ⊥) → (homed : Bool) → IsHomedCall text homed → ⊥
other_word text name rest word f spelled none homed h =
    none homed (same_word (tokens rest) word (homed_digit homed) spelled (call_here text name rest homed f h).spelled)

pub not_said : (text name rest word : List ℕ) (r : Result Bool NotHomedText) → IsNamed text name rest → IsOneWord (tokens rest) word
    → OnErr r ((homed : Bool) → word ≡ homed_digit homed → ⊥) → OnErr r ((homed : Bool) → IsHomedCall text homed → ⊥)
not_said text name rest word (Ok b) f spelled none = tt
not_said text name rest word (Err e) f spelled none = other_word text name rest word f spelled none

-- a text that is no digit is read as its call is
pub read_by_call : (text : List ℕ) (r : Result Bool NotHomedText) → ((homed : Bool) → text ≡ homed_digit homed → ⊥)
    → IfOk r (λ homed. IsHomedCall text homed) → OnErr r ((homed : Bool) → IsHomedCall text homed → ⊥) → ReadsHomed text r
read_by_call text (Ok b) no_digit said not_said = inr said
read_by_call text (Err e) no_digit said not_said = neither text no_digit not_said

-- a text with this name in front is the call that it says
pub call_from : (text name rest : List ℕ) (homed : Bool) → IsNamed text name rest → CallHere name rest homed → IsHomedCall text homed
call_from text name rest homed f h = record { name = name; rest = rest; named = f; known = h.known; spelled = h.spelled }

-- ---- a text is read in one way

-- a digit says one thing
is_one : List ℕ → Bool
is_one [] = false
is_one (c ∷ cs) = c == 49

digit_again : (a : Bool) → is_one (homed_digit a) ≡ a
unfolding is_one
digit_again true = refl
digit_again false = refl

pub one_digit : (a b : Bool) → homed_digit a ≡ homed_digit b → a ≡ b
one_digit a b e = sym (digit_again a) ∙ ap is_one e ∙ digit_again b

-- and is no call
digit_named : (a : Bool) → IsNamed (homed_digit a) (homed_digit a) []
digit_named true = record { parts = refl; whole = refl; stop = λ c more e. absurd (cc) }
digit_named false = record { parts = refl; whole = refl; stop = λ c more e. absurd (cc) }

no_name : (a : Bool) → is_word (kind_name IsHomed) (homed_digit a) ≡ false
no_name true = refl
no_name false = refl

pub digit_no_call : (a b : Bool) → IsHomedCall (homed_digit a) b → ⊥
digit_no_call a = other_name (homed_digit a) (homed_digit a) [] (digit_named a) (no_name a)

-- a call says one thing
pub one_call : (text : List ℕ) (a b : Bool) → IsHomedCall text a → IsHomedCall text b → a ≡ b
one_call text a b f g =
    let here = call_here text g.name g.rest a g.named f in
    one_digit a b (same_word (tokens g.rest) (homed_digit a) (homed_digit b) here.spelled g.spelled)

digit_or_call : (text : List ℕ) (a b : Bool) → text ≡ homed_digit a → IsHomedCall text b → ⊥
digit_or_call text a b e h = digit_no_call a b (subst (λ (t : List ℕ). IsHomedCall t b) e h)

-- a text says one thing
pub one_homed : (text : List ℕ) (a b : Bool) → IsHomedText text a → IsHomedText text b → a ≡ b
one_homed text a b (inl e) (inl f) = one_digit a b (sym e ∙ f)
one_homed text a b (inl e) (inr g) = absurd (digit_or_call text a b e g)
one_homed text a b (inr f) (inl e) = absurd (digit_or_call text b a e f)
one_homed text a b (inr f) (inr g) = one_call text a b f g

one_fault : (a b : NotHomedText) → a ≡ b
one_fault a b = λ n. record {}

pub one_homed_reading : (text : List ℕ) (x y : Result Bool NotHomedText) → ReadsHomed text x → ReadsHomed text y → x ≡ y
one_homed_reading text (Ok a) (Ok b) f g = ap (λ (homed : Bool). Ok homed) (one_homed text a b f g)
one_homed_reading text (Ok a) (Err d) f g = absurd (g a f)
one_homed_reading text (Err c) (Ok b) f g = absurd (f b g)
one_homed_reading text (Err c) (Err d) f g = ap (λ (x : NotHomedText). Err x) (one_fault c d)

-- ---- what is written reads back, and can be the text of a response

mark_stops : (text : List ℕ) (c : ℕ) (more : List ℕ) → 40 ∷ text ≡ c ∷ more → is_name_part c ≡ false
mark_stops text c more e = let f : ◌≡◌ {A = ℕ} 40 c = cc in subst (λ (x : ℕ). is_name_part x ≡ false) f refl

written_call : (homed : Bool) → IsHomedCall (written_homed homed) homed
written_call true = record {
  name = codes "IsHomed";
  rest = codes "(1)";
  named = record { parts = refl; whole = refl; stop = mark_stops (codes "1)") };
  known = refl;
  spelled = refl;
}
written_call false = record {
  name = codes "IsHomed";
  rest = codes "(0)";
  named = record { parts = refl; whole = refl; stop = mark_stops (codes "0)") };
  known = refl;
  spelled = refl;
}

pub homed_reads_back : (homed : Bool) → ReadsHomed (written_homed homed) (Ok homed)
homed_reads_back homed = inr (written_call homed)

pub digit_reads_back : (homed : Bool) → ReadsHomed (homed_digit homed) (Ok homed)
digit_reads_back homed = inl refl

pub homed-wire : (homed : Bool) → IsWireText 10 (written_homed homed)
homed-wire true = record { free = refl; short = omega arith }
homed-wire false = record { free = refl; short = omega arith }

pub homed_writable : (tag : Tag) (homed : Bool) → IsTag tag → IsWritableResponse (homed_response tag homed)
homed_writable tag homed h = record {
  tagged = h;
  texts = wire_weaker 10 192 (written_homed homed) (omega arith) (homed-wire homed);
}
