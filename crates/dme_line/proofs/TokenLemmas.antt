-- The tokens of a text, from its front.
use Rattle.dme_line.proofs.Names.{[], ◌++◌, ◌+◌, ◌<◌, ◌==◌, ◌||◌, ◌↔◌, ◌∙◌, ◌∷◌, ◌≡◌, ◌≢◌, ◌⊎◌, and_parts, ap, arith, begins_word, Bool, Close, Comma}
use Rattle.dme_line.proofs.Names.{cond, drop, eqb-true, false, false≢true, inl, inr, is_mark, is_word_byte, IsTrue, length, length-prefix_len, List}
use Rattle.dme_line.proofs.Names.{list_all, longer_word, mark_token, ne_eqb, not, not-true, Open, or_cases, prefix_len, refl, subst, suc, sym, take}
use Rattle.dme_line.proofs.Names.{take-append-drop, Token, tokens, tokens_behind, true, true≢false, Word, ℕ}

-- one element more on a front
one_more : (n : ℕ) → 1 + n ≡ suc n
one_more n = omega arith

-- a byte of a word is no space and no mark
pub record IsPlain (c : ℕ) : Type 0 where
  pub no_space : (c == 32) ≡ false
  pub no_mark : is_mark c ≡ false

pub plain_from_test : (c : ℕ) → is_word_byte c ≡ true → IsPlain c
plain_from_test c h =
    let p = and_parts (not (c == 32)) (not (is_mark c)) h in
    record { no_space = not-true _ p.0; no_mark = not-true _ p.1 }

-- what follows a word byte, a mark and a space
pub behind_plain : (c : ℕ) (joins : Bool) (ts : List Token) → IsPlain c
    → tokens_behind c joins ts ≡ cond joins (longer_word c ts) (Word (c ∷ []) ∷ ts)
behind_plain c joins ts h = rw (h.no_space, h.no_mark) refl

behind_mark : (c : ℕ) (joins : Bool) (ts : List Token) → (c == 32) ≡ false → is_mark c ≡ true → tokens_behind c joins ts ≡ mark_token c ∷ ts
behind_mark c joins ts h m = rw (h, m) refl

-- a word, with what cannot belong to it after it
pub tokens-word : (w rest : List ℕ) → list_all is_word_byte w ≡ true → 0 < length w → begins_word rest ≡ false
    → tokens (w ++ rest) ≡ Word w ∷ tokens rest
tokens-word [] rest all some stop = absurd (omega arith)
tokens-word (c ∷ []) rest all some stop =
    let p = and_parts (is_word_byte c) true all in
    behind_plain c (begins_word rest) (tokens rest) (plain_from_test c p.0) ∙ rw stop refl
tokens-word (c ∷ d ∷ w) rest all some stop =
    let p = and_parts (is_word_byte c) (list_all is_word_byte (d ∷ w)) all in
    let q = and_parts (is_word_byte d) (list_all is_word_byte w) p.1 in
    let more = tokens-word (d ∷ w) rest p.1 (omega arith) stop in
    behind_plain c (is_word_byte d) (tokens (d ∷ (w ++ rest))) (plain_from_test c p.0) ∙ rw (q.0, more) refl

-- a longer word is a word
pub record StartsWithWord (ts : List Token) : Type 0 where
  pub word : List ℕ
  pub more : List Token
  pub is : ts ≡ Word word ∷ more

longer-word : (c : ℕ) (ts : List Token) → StartsWithWord (longer_word c ts)
longer-word c [] = record { word = c ∷ []; more = []; is = refl }
longer-word c (Open ∷ ts) = record { word = c ∷ []; more = Open ∷ ts; is = refl }
longer-word c (Close ∷ ts) = record { word = c ∷ []; more = Close ∷ ts; is = refl }
longer-word c (Comma ∷ ts) = record { word = c ∷ []; more = Comma ∷ ts; is = refl }
longer-word c (Word v ∷ ts) = record { word = c ∷ v; more = ts; is = refl }

-- a word byte in front begins a word
plain_word : (c : ℕ) (joins : Bool) (ts : List Token) → IsPlain c → StartsWithWord (tokens_behind c joins ts)
plain_word c true ts h = let l = longer-word c ts in record { word = l.word; more = l.more; is = behind_plain c true ts h ∙ l.is }
plain_word c false ts h = record { word = c ∷ []; more = ts; is = behind_plain c false ts h }

-- the three marks
abbrev IsThisMark : ℕ → Type 0
IsThisMark c = ((c ≡ 40) × (mark_token c ≡ Open)) ⊎ (((c ≡ 41) × (mark_token c ≡ Close)) ⊎ ((c ≡ 44) × (mark_token c ≡ Comma)))

this_mark : (c : ℕ) → is_mark c ≡ true → IsThisMark c
this_mark c h =
    elim (or_cases (c == 40) ((c == 41) || (c == 44)) h) [
      | inl p ↦ inl (eqb-true c 40 p, rw p refl)
      | inr q ↦
          elim (or_cases (c == 41) (c == 44) q) [
            | inl p ↦ let e = eqb-true c 41 p in inr (inl (e, rw e refl))
            | inr p ↦ let e = eqb-true c 44 p in inr (inr (e, rw e refl))
          ]
    ]

-- two marks with one token are one
one_mark : (c d : ℕ) → IsThisMark c → IsThisMark d → mark_token c ≡ mark_token d → c ≡ d
one_mark c d (inl p) (inl q) e = p.0 ∙ sym q.0
one_mark c d (inl p) (inr (inl q)) e = absurd cc
one_mark c d (inl p) (inr (inr q)) e = absurd cc
one_mark c d (inr (inl p)) (inl q) e = absurd cc
one_mark c d (inr (inl p)) (inr (inl q)) e = p.0 ∙ sym q.0
one_mark c d (inr (inl p)) (inr (inr q)) e = absurd cc
one_mark c d (inr (inr p)) (inl q) e = absurd cc
one_mark c d (inr (inr p)) (inr (inl q)) e = absurd cc
one_mark c d (inr (inr p)) (inr (inr q)) e = p.0 ∙ sym q.0

-- a mark is no word
mark_no_word : (c : ℕ) (w : List ℕ) → IsThisMark c → mark_token c ≡ Word w → ⊥
mark_no_word c w (inl p) e = cc
mark_no_word c w (inr (inl p)) e = cc
mark_no_word c w (inr (inr p)) e = cc

-- no space comes first
abbrev pub IsFlush : List ℕ → Type 0
IsFlush text = (c : ℕ) (more : List ℕ) → text ≡ c ∷ more → c ≢ 32

first_mark : (c : ℕ) (joins m : Bool) (us ts : List Token) (mark : ℕ) → c ≢ 32 → is_mark c ≡ m → is_mark mark ≡ true
    → tokens_behind c joins us ≡ mark_token mark ∷ ts → c ≡ mark
first_mark c joins true us ts mark flush m h e =
    let f = behind_mark c joins us (ne_eqb c 32 flush) m in
    let same : mark_token c ≡ mark_token mark = cc in
    one_mark c mark (this_mark c m) (this_mark mark h) same
first_mark c joins false us ts mark flush m h e =
    let w = plain_word c joins us (record { no_space = ne_eqb c 32 flush; no_mark = m }) in
    let same : mark_token mark ≡ Word w.word = (let f = w.is in cc) in
    absurd (mark_no_word mark w.word (this_mark mark h) same)

-- a text whose first token is a mark begins with it
pub mark_first : (c : ℕ) (cs : List ℕ) (mark : ℕ) (ts : List Token) → c ≢ 32 → is_mark mark ≡ true → tokens (c ∷ cs) ≡ mark_token mark ∷ ts
    → c ≡ mark
mark_first c cs mark ts flush h e = first_mark c (begins_word cs) (is_mark c) (tokens cs) ts mark flush refl h e

-- a text that begins with a mark
pub tokens-mark : (mark : ℕ) (cs : List ℕ) → is_mark mark ≡ true → tokens (mark ∷ cs) ≡ mark_token mark ∷ tokens cs
tokens-mark mark cs h =
    let no_space : (mark == 32) ≡ false = ne_eqb mark 32 (λ e. false≢true (rw e at h)) in
    behind_mark mark (begins_word cs) (tokens cs) no_space h

-- a text without tokens that begins with no space is empty
none_behind : (c : ℕ) (joins m : Bool) (us : List Token) → c ≢ 32 → is_mark c ≡ m → tokens_behind c joins us ≡ [] → ⊥
none_behind c joins true us flush m e = let f = behind_mark c joins us (ne_eqb c 32 flush) m in cc
none_behind c joins false us flush m e =
    let w = plain_word c joins us (record { no_space = ne_eqb c 32 flush; no_mark = m }) in
    let f = w.is in cc

pub no_tokens : (text : List ℕ) → IsFlush text → tokens text ≡ [] → text ≡ []
no_tokens [] flush e = refl
no_tokens (c ∷ cs) flush e = absurd (none_behind c (begins_word cs) (is_mark c) (tokens cs) (flush c cs refl) refl e)

-- a text that begins with a space or a mark begins with no word
word_behind : (c : ℕ) (joins m : Bool) (us ts : List Token) (w : List ℕ) → c ≢ 32 → is_mark c ≡ m → is_word_byte c ≡ false
    → tokens_behind c joins us ≡ Word w ∷ ts → ⊥
word_behind c joins true us ts w flush m no_word e =
    let f = behind_mark c joins us (ne_eqb c 32 flush) m in
    let same : mark_token c ≡ Word w = cc in
    mark_no_word c w (this_mark c m) same
word_behind c joins false us ts w flush m no_word e = true≢false (rw (ne_eqb c 32 flush, m) at no_word)

prefix_none : (c : ℕ) (cs : List ℕ) (b : Bool) → is_word_byte c ≡ b → prefix_len is_word_byte (c ∷ cs) ≡ 0 → b ≡ false
prefix_none c cs true e h = let k = rw e at h in absurd (omega (arith, k))
prefix_none c cs false e h = refl

pub no_word_first : (text w : List ℕ) (ts : List Token) → IsFlush text → prefix_len is_word_byte text ≡ 0 → tokens text ≡ Word w ∷ ts → ⊥
no_word_first [] w ts flush none e = cc
no_word_first (c ∷ cs) w ts flush none e = word_behind c (begins_word cs) (is_mark c) (tokens cs) ts w (flush c cs refl) refl
    (prefix_none c cs (is_word_byte c) refl none) e

-- the front that passes, and what stops it
front_step : (p : ℕ → Bool) (c : ℕ) (cs : List ℕ) (b : Bool) → p c ≡ b → list_all p (take (prefix_len p cs) cs) ≡ true
    → list_all p (take (cond b (1 + prefix_len p cs) 0) (c ∷ cs)) ≡ true
front_step p c cs true e all = rw (one_more (prefix_len p cs), e) all
front_step p c cs false e all = refl

pub list_all-front : (p : ℕ → Bool) (xs : List ℕ) → list_all p (take (prefix_len p xs) xs) ≡ true
list_all-front p [] = refl
list_all-front p (c ∷ cs) = front_step p c cs (p c) refl (list_all-front p cs)

-- whether a text begins with a byte that passes
abbrev pub begins : (ℕ → Bool) → List ℕ → Bool
begins p [] = false
begins p (c ∷ cs) = p c

behind_step : (p : ℕ → Bool) (c : ℕ) (cs : List ℕ) (b : Bool) → p c ≡ b → begins p (drop (prefix_len p cs) cs) ≡ false
    → begins p (drop (cond b (1 + prefix_len p cs) 0) (c ∷ cs)) ≡ false
behind_step p c cs true e stop = rw (one_more (prefix_len p cs)) stop
behind_step p c cs false e stop = e

pub begins-behind : (p : ℕ → Bool) (xs : List ℕ) → begins p (drop (prefix_len p xs) xs) ≡ false
begins-behind p [] = refl
begins-behind p (c ∷ cs) = behind_step p c cs (p c) refl (begins-behind p cs)

begins_word-is : (text : List ℕ) → begins is_word_byte text ≡ false → begins_word text ≡ false
begins_word-is [] h = refl
begins_word-is (c ∷ cs) h = h

pub word_first : (text : List ℕ) → prefix_len is_word_byte text ≢ 0
    → tokens text ≡ Word (take (prefix_len is_word_byte text) text) ∷ tokens (drop (prefix_len is_word_byte text) text)
word_first text some =
    let n = prefix_len is_word_byte text in
    let whole = take-append-drop n text in
    let long : 0 < length (take n text) = omega (arith, length-prefix_len is_word_byte text) in
    subst (λ (t : List ℕ). tokens t ≡ Word (take n text) ∷ tokens (drop n text)) whole
    (tokens-word (take n text) (drop n text) (list_all-front is_word_byte text) long
    (begins_word-is (drop n text) (begins-behind is_word_byte text)))

-- ---- likewise for a text whose spaces in front were skipped

pub mark_first_of : (bytes text : List ℕ) (c : ℕ) (cs : List ℕ) (mark : ℕ) (ts : List Token) → tokens text ≡ tokens bytes → IsFlush text
    → text ≡ c ∷ cs → is_mark mark ≡ true → tokens bytes ≡ mark_token mark ∷ ts → c ≡ mark
mark_first_of bytes text c cs mark ts same flush is h e =
    let here : tokens (c ∷ cs) ≡ mark_token mark ∷ ts = ap tokens (sym is) ∙ same ∙ e in
    mark_first c cs mark ts (flush c cs is) h here

long : (c : ℕ) (cs : List ℕ) → (length (c ∷ cs) == 0) ≡ false
long c cs = ne_eqb (length (c ∷ cs)) 0 (λ e. absurd (omega (arith, e)))

cons_empty : (c : ℕ) (cs : List ℕ) → (c ∷ cs) ≡ [] → ⊥
cons_empty c cs e = cc

pub is_end_by : (bytes text : List ℕ) (b : Bool) → tokens text ≡ tokens bytes → IsFlush text → b ≡ (length text == 0) → IsTrue b
    ↔ (tokens bytes ≡ [])
is_end_by bytes [] b same flush is = (λ h. sym same, λ e. is)
is_end_by bytes (c ∷ cs) b same flush is = (
  λ h. absurd (false≢true (sym (is ∙ long c cs) ∙ h)),
  λ e. absurd (cons_empty c cs (no_tokens (c ∷ cs) flush (same ∙ e))),
)
