-- A line is read as a response in one way.
use Rattle.dme_line.proofs.Names.{[], ◌∙◌, ◌∷◌, ◌≡◌, Ack, ap, arith, Done, Err, Error, Given, inl, inr, IsMarkText, IsResponseLine, List, Mark}
use Rattle.dme_line.proofs.Names.{NotResponse, Ok, ReadsResponse, refl, Response, Result, subst, sym, ℕ}
use Rattle.dme_line.proofs.TagLemmas.{one_tag}

-- what a mark begins with
first : (a b : ℕ) (xs ys text : List ℕ) → text ≡ a ∷ xs → text ≡ b ∷ ys → a ≡ b
first a b xs ys text e f = cc

behind : (a b : ℕ) (xs ys text : List ℕ) → text ≡ a ∷ xs → text ≡ b ∷ ys → xs ≡ ys
behind a b xs ys text e f = cc

-- the byte of a mark
abbrev byte_of : Mark → ℕ
byte_of Ack = 38
byte_of (Given text) = 35
byte_of Done = 37
byte_of (Error text) = 33

begins_with : (text : List ℕ) (m : Mark) → IsMarkText text m → (rest : List ℕ) × (text ≡ byte_of m ∷ rest)
begins_with text Ack h = (h.0, h.1)
begins_with text (Given given) h = (32 ∷ given, h)
begins_with text Done h = (h.0, h.1)
begins_with text (Error given) (inl h) = (32 ∷ given, h)
begins_with text (Error given) (inr h) = ([], h.0)

same_byte : (text : List ℕ) (m n : Mark) → IsMarkText text m → IsMarkText text n → byte_of m ≡ byte_of n
same_byte text m n f g =
    let p = begins_with text m f in
    let q = begins_with text n g in
    first (byte_of m) (byte_of n) p.0 q.0 text p.1 q.1

error_text_of : (text a b : List ℕ) → IsMarkText text (Error a) → IsMarkText text (Error b) → a ≡ b
error_text_of text a b (inl f) (inl g) = cc
error_text_of text a b (inl f) (inr g) = let e = g.0 in absurd cc
error_text_of text a b (inr f) (inl g) = let e = f.0 in absurd cc
error_text_of text a b (inr f) (inr g) = f.1 ∙ sym g.1

one_mark : (text : List ℕ) (m n : Mark) → IsMarkText text m → IsMarkText text n → byte_of m ≡ byte_of n → m ≡ n
one_mark text Ack Ack f g e = refl
one_mark text Ack (Given b) f g e = absurd (omega (arith, e))
one_mark text Ack Done f g e = absurd (omega (arith, e))
one_mark text Ack (Error b) f g e = absurd (omega (arith, e))
one_mark text (Given a) Ack f g e = absurd (omega (arith, e))
one_mark text (Given a) (Given b) f g e = let same : a ≡ b = cc in ap (λ (t : List ℕ). Given t) same
one_mark text (Given a) Done f g e = absurd (omega (arith, e))
one_mark text (Given a) (Error b) f g e = absurd (omega (arith, e))
one_mark text Done Ack f g e = absurd (omega (arith, e))
one_mark text Done (Given b) f g e = absurd (omega (arith, e))
one_mark text Done Done f g e = refl
one_mark text Done (Error b) f g e = absurd (omega (arith, e))
one_mark text (Error a) Ack f g e = absurd (omega (arith, e))
one_mark text (Error a) (Given b) f g e = absurd (omega (arith, e))
one_mark text (Error a) Done f g e = absurd (omega (arith, e))
one_mark text (Error a) (Error b) f g e = ap (λ (t : List ℕ). Error t) (error_text_of text a b f g)

same_response : (r s : Response) → r.tag ≡ s.tag → r.mark ≡ s.mark → r ≡ s
same_response r s t m = λ n. record { tag = t n; mark = m n }

cons_same : (c : ℕ) (xs ys : List ℕ) → (c ∷ xs) ≡ (c ∷ ys) → xs ≡ ys
cons_same c xs ys e = cc

-- a line stands for one response
pub one_response : (line : List ℕ) (r s : Response) → IsResponseLine line r → IsResponseLine line s → r ≡ s
one_response line r s f g =
    let tags = one_tag r.tag s.tag (32 ∷ f.text) (32 ∷ g.text) f.tagged g.tagged (sym f.parts ∙ g.parts) in
    let texts = cons_same 32 f.text g.text tags.behind in
    let marked = subst (λ (t : List ℕ). IsMarkText t r.mark) texts f.marked in
    same_response r s tags.tag (one_mark g.text r.mark s.mark marked g.marked (same_byte g.text r.mark s.mark marked g.marked))

one_refusal : (a b : NotResponse) → a ≡ b
one_refusal a b = λ n. record {}

-- a line is read in one way
pub one_response_reading : (line : List ℕ) (x y : Result Response NotResponse) → ReadsResponse line x → ReadsResponse line y → x ≡ y
one_response_reading line (Ok r) (Ok s) f g = ap (λ (t : Response). Ok t) (one_response line r s f g)
one_response_reading line (Ok r) (Err b) f g = absurd (g r f)
one_response_reading line (Err a) (Ok s) f g = absurd (f s g)
one_response_reading line (Err a) (Err b) f g = ap (λ (x : NotResponse). Err x) (one_refusal a b)
