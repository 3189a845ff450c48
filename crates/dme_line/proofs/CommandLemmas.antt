-- A line stands for one command.
use Rattle.dme_line.proofs.Names.{[], ◌*◌, ◌+◌, ◌==◌, ◌∙◌, ◌∷◌, ◌≡◌, ap, Begins, Bool, bytes_eq-Decides, Command, false, if◌then◌else◌, is_name_part}
use Rattle.dme_line.proofs.Names.{is_word, IsCommandText, IsTagOf, Kind, kind_name, length, List, map, not, refl, Says, subst, sym, Tag}
use Rattle.dme_line.proofs.Names.{to_ascii_lowercase, tokens, true, ℕ}
use mathlib.Core.Bool.{beq}
use Rattle.dme_line.specs.declared.commands.Kind.TheVariants.{ClearAllErrors, EndSession, GoTo, Home, IsHomed, OnPtMeasReport, StartSession}
use Rattle.dme_line.specs.declared.commands.Kind.TheVariants.{AbortE, ChangeTool, PtMeas, SetCoordSystem, SetCsyTransformation}
use Rattle.dme_line.proofs.TagLemmas.{one_tag, tag_numbered}
use Rattle.dme_line.proofs.NameCutLemmas.{one_cut}

-- two names that one word is in any case have the same small letters
pub same_letters : (a b word : List ℕ) → is_word a word ≡ true → is_word b word ≡ true → map to_ascii_lowercase a ≡ map to_ascii_lowercase b
same_letters a b word f g = sym ((bytes_eq-Decides (map to_ascii_lowercase word) (map to_ascii_lowercase a)).0 f)
    ∙ (bytes_eq-Decides (map to_ascii_lowercase word) (map to_ascii_lowercase b)).0 g

-- the names of commands differ in their length and first letter
mark_of : List ℕ → ℕ
mark_of [] = 0
mark_of (c ∷ cs) = 100 * c + length cs

kind_by : ℕ → Kind
kind_by n =
    if n == 11511 then StartSession else
    (if n == 10109 then EndSession else
    (if n == 9913 then ClearAllErrors else
    (if n == 10506 then IsHomed else
    (if n == 10403 then Home else
    (if n == 11113 then OnPtMeasReport else
    (if n == 10303 then GoTo else
    (if n == 11205 then PtMeas else
    (if n == 9909 then ChangeTool else
    (if n == 11519 then SetCsyTransformation else
    (if n == 11513 then SetCoordSystem else AbortE))))))))))

kind_again : (k : Kind) → kind_by (mark_of (map to_ascii_lowercase (kind_name k))) ≡ k
unfolding kind_by mark_of
kind_again StartSession = refl
kind_again EndSession = refl
kind_again ClearAllErrors = refl
kind_again IsHomed = refl
kind_again Home = refl
kind_again OnPtMeasReport = refl
kind_again GoTo = refl
kind_again PtMeas = refl
kind_again ChangeTool = refl
kind_again SetCsyTransformation = refl
kind_again SetCoordSystem = refl
kind_again AbortE = refl

-- a word is the name of one kind
pub one_kind : (k l : Kind) (word : List ℕ) → is_word (kind_name k) word ≡ true → is_word (kind_name l) word ≡ true → k ≡ l
one_kind k l word f g = sym (kind_again k) ∙ ap (λ (t : List ℕ). kind_by (mark_of t)) (same_letters (kind_name k) (kind_name l) word f g)
    ∙ kind_again l

-- a line begins in one way
pub record SameFront (t u : Tag) (a b r s : List ℕ) : Type 0 where
  pub tag : t ≡ u
  pub name : a ≡ b
  pub rest : r ≡ s

cons_same : (c : ℕ) (xs ys : List ℕ) → (c ∷ xs) ≡ (c ∷ ys) → xs ≡ ys
cons_same c xs ys e = cc

pub one_front : (line : List ℕ) (t u : Tag) (a b r s : List ℕ) → Begins line t a r → Begins line u b s → SameFront t u a b r s
one_front line t u a b r s f g =
    let tags = one_tag t u (32 ∷ f.text) (32 ∷ g.text) (tag_numbered t f.tagged.numbered) (tag_numbered u g.tagged.numbered)
    (sym f.tagged.parts ∙ g.tagged.parts) in
    let texts = cons_same 32 f.text g.text tags.behind in
    let cut = one_cut is_name_part a b r s (sym f.named.parts ∙ texts ∙ g.named.parts) f.named.whole g.named.whole f.named.stop g.named.stop
    in
    record { tag = tags.tag; name = cut.front; rest = cut.behind }

-- what a line says where its name and kind are known
pub record SaysHere (tag : Tag) (kind : Kind) (rest : List ℕ) (command : Command) : Type 0 where
  pub fits : IsTagOf kind tag
  pub says : Says kind (tokens rest) command

pub says_here : (line : List ℕ) (tag other : Tag) (name rest : List ℕ) (kind : Kind) (command : Command) → Begins line tag name rest
    → is_word (kind_name kind) name ≡ true → IsCommandText line other command → SaysHere tag kind rest command
says_here line tag other name rest kind command f known h =
    let front = one_front line other tag h.name name h.rest rest h.begins f in
    let kinds = one_kind h.kind kind name (subst (λ (n : List ℕ). is_word (kind_name h.kind) n ≡ true) front.name h.known) known in
    let fits = subst (λ (k : Kind). IsTagOf k other) kinds h.fits in
    let says = subst (λ (k : Kind). Says k (tokens h.rest) command) kinds h.says in
    record {
      fits = subst (λ (t : Tag). IsTagOf kind t) front.tag fits;
      says = subst (λ (r : List ℕ). Says kind (tokens r) command) front.rest says;
    }

pub wrong_sort : (a b : Bool) → a ≡ b → not (beq a b) ≡ true → ⊥
wrong_sort true true e h = cc
wrong_sort true false e h = cc
wrong_sort false true e h = cc
wrong_sort false false e h = cc
