-- The bytes of all connections, as the lines that they carry.
use Rattle.protocol_model.proofs.Names.{[], ◌++◌, ◌<◌, ◌∙◌, ◌∷◌, ◌≡◌, ◌≤◌, ap, append_assoc, arith, Bool, command_bytes, drop, eqb, eqb-false}
use Rattle.protocol_model.proofs.Names.{eqb-true, false, false≢true, length, Line, Link, link_of, List, no_link, refl, Reply, reply_bytes, subst, suc}
use Rattle.protocol_model.proofs.Names.{sym, take, take-append-drop, true, with_link, ℕ}
use Rattle.protocol_model.proofs.whole_run.Links.{link_same, link_other, link_long, link_old, link_new}
use Rattle.protocol_model.proofs.written_lines.Writable.{AreWritable, writable_join, command_bytes_more, AreReplies}

-- bytes are whole lines of commands that can be written
pub record IsWhole (bytes : List ℕ) : Type 0 where
  pub lines : List Line
  pub writable : AreWritable lines
  pub is : bytes ≡ command_bytes lines

-- n connections were made, and the client is on the last one, or on none; m were taken, and the server is on the last of these, or on none;
-- up are the lines that the server has not read of the last one, and down the replies that the client has not read there
pub record IsWired (links : List Link) (n : ℕ) (client_on : Bool) (heard : List ℕ) (m : ℕ) (server_on : Bool) (read : List ℕ)
    (up : List Line) (down : List Reply) : Type 0 where
  pub made : length links ≡ n
  pub numbers : m ≤ n
  pub first : client_on ≡ true → 1 ≤ n
  pub taken : server_on ≡ true → 1 ≤ m
  pub lines : AreWritable up
  pub replies : AreReplies down
  pub down_is : client_on ≡ true → heard ++ (link_of links n).down ≡ reply_bytes down
  pub newest_waits : m < n → (link_of links n).up ≡ command_bytes up
  pub newest_serves : server_on ≡ true → m ≡ n → read ++ (link_of links n).up ≡ command_bytes up
  pub waits : (k : ℕ) → m < k → k ≤ n → IsWhole (link_of links k).up
  pub serves : server_on ≡ true → IsWhole (read ++ (link_of links m).up)

-- ---- connections

no_lines : IsWhole []
no_lines = record { lines = []; writable = tt; is = refl }

-- the client makes one connection more: it is on that one, and neither lines nor replies are on their way there
pub wired_connect : (links : List Link) (n : ℕ) (client_on : Bool) (heard : List ℕ) (m : ℕ) (server_on : Bool) (read : List ℕ)
    (up : List Line) (down : List Reply)
    → IsWired links n client_on heard m server_on read up down → IsWired (links ++ no_link ∷ []) (suc n) true [] m server_on read [] []
wired_connect links n client_on heard m server_on read up down h = record {
  made = length_one links h.made;
  numbers = omega (arith, h.numbers);
  first = λ e. omega arith;
  taken = h.taken;
  lines = tt;
  replies = tt;
  down_is = λ e. ap (λ (l : Link). l.down) new_one;
  newest_waits = λ lt. ap (λ (l : Link). l.up) new_one;
  newest_serves = λ e same. absurd (too_far h.numbers same);
  waits = λ k lt le. waits_for k lt le (eqb k (suc n)) refl;
  serves = λ e. subst (λ (l : Link). IsWhole (read ++ l.up))
      (sym (link_old links m no_link (h.taken e) (subst (λ (i : ℕ). m ≤ i) (sym h.made) h.numbers))) (h.serves e);
}
  where
    new_one : link_of (links ++ no_link ∷ []) (suc n) ≡ no_link
    new_one = ap (λ (i : ℕ). link_of (links ++ no_link ∷ []) (suc i)) (sym h.made) ∙ link_new links no_link

    length_one : (l : List Link) → {k : ℕ} → length l ≡ k → length (l ++ no_link ∷ []) ≡ suc k
    length_one [] e = ap suc e
    length_one (x ∷ xs) {k} e = ap suc (length_one xs refl) ∙ ap suc e

    too_far : m ≤ n → m ≡ suc n → ⊥
    too_far le e = omega arith

    waits_for : (k : ℕ) → m < k → k ≤ suc n → (b : Bool) → eqb k (suc n) ≡ b → IsWhole (link_of (links ++ no_link ∷ []) k).up
    waits_for k lt le true same = subst (λ (i : ℕ). IsWhole (link_of (links ++ no_link ∷ []) i).up) (sym (eqb-true k (suc n) same))
        (subst (λ (l : Link). IsWhole l.up) (sym new_one) no_lines)
    waits_for k lt le false other =
        let apart : k ≡ suc n → ⊥ = eqb-false k (suc n) other in
        let small : k ≤ n = omega arith in
        subst (λ (l : Link). IsWhole l.up) (sym (link_old links k no_link (omega arith) (subst (λ (i : ℕ). k ≤ i) (sym h.made) small)))
        (h.waits k lt small)

-- the server takes a later connection that was made, of which it has read no byte: the lines and replies stay the same
pub wired_accept : (links : List Link) (n : ℕ) (client_on : Bool) (heard : List ℕ) (m k : ℕ) (server_on : Bool) (read : List ℕ)
    (up : List Line) (down : List Reply)
    → IsWired links n client_on heard m server_on read up down → m < k → k ≤ n → IsWired links n client_on heard k true [] up down
wired_accept links n client_on heard m k server_on read up down h lt le = record {
  made = h.made;
  numbers = le;
  first = h.first;
  taken = λ e. omega (arith, lt);
  lines = h.lines;
  replies = h.replies;
  down_is = h.down_is;
  newest_waits = λ below. h.newest_waits (omega (arith, lt, below));
  newest_serves = λ e same. h.newest_waits (omega (arith, lt, same));
  waits = λ j below to. h.waits j (omega (arith, lt, below)) to;
  serves = λ e. h.waits k lt le;
}

-- the client is on no connection any more, and keeps no byte: the lines and replies stay the same
pub wired_left : (links : List Link) (n : ℕ) (client_on : Bool) (heard : List ℕ) (m : ℕ) (server_on : Bool) (read : List ℕ) (up : List Line)
    (down : List Reply)
    → IsWired links n client_on heard m server_on read up down → IsWired links n false [] m server_on read up down
wired_left links n client_on heard m server_on read up down h = record {
  made = h.made;
  numbers = h.numbers;
  first = λ e. absurd (false≢true e);
  taken = h.taken;
  lines = h.lines;
  replies = h.replies;
  down_is = λ e. absurd (false≢true e);
  newest_waits = h.newest_waits;
  newest_serves = h.newest_serves;
  waits = h.waits;
  serves = h.serves;
}

-- the server is on no connection any more, and keeps no byte: the lines and replies stay the same
pub wired_gone : (links : List Link) (n : ℕ) (client_on : Bool) (heard : List ℕ) (m : ℕ) (server_on : Bool) (read : List ℕ) (up : List Line)
    (down : List Reply)
    → IsWired links n client_on heard m server_on read up down → IsWired links n client_on heard m false [] up down
wired_gone links n client_on heard m server_on read up down h = record {
  made = h.made;
  numbers = h.numbers;
  first = h.first;
  taken = λ e. absurd (false≢true e);
  lines = h.lines;
  replies = h.replies;
  down_is = h.down_is;
  newest_waits = h.newest_waits;
  newest_serves = λ e same. absurd (false≢true e);
  waits = h.waits;
  serves = λ e. absurd (false≢true e);
}

-- ---- what is written

whole_join : (bytes : List ℕ) (ls : List Line) → IsWhole bytes → AreWritable ls → IsWhole (bytes ++ command_bytes ls)
whole_join bytes ls h w = record {
  lines = h.lines ++ ls;
  writable = writable_join h.lines ls h.writable w;
  is = ap (λ (b : List ℕ). b ++ command_bytes ls) h.is ∙ sym (command_bytes_more h.lines ls);
}

-- the client's lines join those that are unread, and their bytes join those up on its connection
pub wired_writes : (links : List Link) (n : ℕ) (heard : List ℕ) (m : ℕ) (server_on : Bool) (read : List ℕ) (up : List Line)
    (down : List Reply) (ls : List Line)
    → IsWired links n true heard m server_on read up down → AreWritable ls
    → IsWired (with_link links n (record { up = (link_of links n).up ++ command_bytes ls; down = (link_of links n).down })) n true heard m
    server_on read (up ++ ls) down
wired_writes links n heard m server_on read up down ls h w = record {
  made = link_long links n new ∙ h.made;
  numbers = h.numbers;
  first = h.first;
  taken = h.taken;
  lines = writable_join up ls h.lines w;
  replies = h.replies;
  down_is = λ e. ap (λ (l : Link). heard ++ l.down) here ∙ h.down_is e;
  newest_waits = λ lt. ap (λ (l : Link). l.up) here ∙ (ap (λ (b : List ℕ). b ++ command_bytes ls) (h.newest_waits lt)
      ∙ sym (command_bytes_more up ls));
  newest_serves = λ e same. ap (λ (l : Link). read ++ l.up) here
      ∙ (sym (append_assoc read (link_of links n).up (command_bytes ls))
      ∙ (ap (λ (b : List ℕ). b ++ command_bytes ls) (h.newest_serves e same) ∙ sym (command_bytes_more up ls)));
  waits = λ k lt le. waits_for k lt le (eqb k n) refl;
  serves = λ e. serves_for e (eqb m n) refl;
}
  where
    new : Link
    new = record { up = (link_of links n).up ++ command_bytes ls; down = (link_of links n).down }

    here : link_of (with_link links n new) n ≡ new
    here = link_same links n new (h.first refl) (subst (λ (i : ℕ). n ≤ i) (sym h.made) (omega arith))

    waits_for : (k : ℕ) → m < k → k ≤ n → (b : Bool) → eqb k n ≡ b → IsWhole (link_of (with_link links n new) k).up
    waits_for k lt le true same =
        let equal : k ≡ n = eqb-true k n same in
        let old : IsWhole (link_of links n).up = subst (λ (i : ℕ). IsWhole (link_of links i).up) equal (h.waits k lt le) in
        subst (λ (i : ℕ). IsWhole (link_of (with_link links n new) i).up) (sym equal)
        (subst (λ (l : Link). IsWhole l.up) (sym here) (whole_join (link_of links n).up ls old w))
    waits_for k lt le false other = subst (λ (l : Link). IsWhole l.up)
        (sym (link_other links n k new (h.first refl) (omega arith) (eqb-false k n other))) (h.waits k lt le)

    serves_for : server_on ≡ true → (b : Bool) → eqb m n ≡ b → IsWhole (read ++ (link_of (with_link links n new) m).up)
    serves_for e true same =
        let equal : m ≡ n = eqb-true m n same in
        let old : IsWhole (read ++ (link_of links n).up) = subst (λ (i : ℕ). IsWhole (read ++ (link_of links i).up)) equal (h.serves e) in
        subst (λ (i : ℕ). IsWhole (read ++ (link_of (with_link links n new) i).up)) (sym equal)
        (subst (λ (l : Link). IsWhole (read ++ l.up)) (sym here)
        (subst IsWhole (append_assoc read (link_of links n).up (command_bytes ls))
        (whole_join (read ++ (link_of links n).up) ls old w)))
    serves_for e false other = subst (λ (l : Link). IsWhole (read ++ l.up))
        (sym (link_other links n m new (h.first refl) (h.taken e) (eqb-false m n other))) (h.serves e)

-- what the server writes changes no list of bytes to itself
pub up_stays : (links : List Link) (m k : ℕ) (l : Link) → 1 ≤ m → m ≤ length links → 1 ≤ k → l.up ≡ (link_of links m).up
    → (link_of (with_link links m l) k).up ≡ (link_of links k).up
up_stays links m k l from to also same = go (eqb k m) refl
  where
    go : (b : Bool) → eqb k m ≡ b → (link_of (with_link links m l) k).up ≡ (link_of links k).up
    go true is = let equal : k ≡ m = eqb-true k m is in ap (λ (i : ℕ). (link_of (with_link links m l) i).up) equal
        ∙ (ap (λ (x : Link). x.up) (link_same links m l from to) ∙ (same ∙ ap (λ (i : ℕ). (link_of links i).up) (sym equal)))
    go false other = ap (λ (x : Link). x.up) (link_other links m k l from also (eqb-false k m other))

-- bytes of the server join those down: they add replies if it is on the client's last connection, and nothing elsewhere
pub wired_answers : (links : List Link) (n : ℕ) (client_on : Bool) (heard : List ℕ) (m : ℕ) (read : List ℕ) (up : List Line)
    (down now : List Reply) (more : List ℕ)
    → IsWired links n client_on heard m true read up down → AreReplies now
    → (m ≡ n → reply_bytes now ≡ reply_bytes down ++ more) → ((m ≡ n → ⊥) → now ≡ down)
    → IsWired (with_link links m (record { up = (link_of links m).up; down = (link_of links m).down ++ more })) n client_on heard m true
    read up now
wired_answers links n client_on heard m read up down now more h w same_one other_one = record {
  made = link_long links m new ∙ h.made;
  numbers = h.numbers;
  first = h.first;
  taken = h.taken;
  lines = h.lines;
  replies = w;
  down_is = λ e. heard_by e (eqb n m) refl;
  newest_waits = λ lt. stays n (positive lt) ∙ h.newest_waits lt;
  newest_serves = λ e same. ap (λ (b : List ℕ). read ++ b) (stays n (subst (λ (i : ℕ). 1 ≤ i) same (h.taken refl)))
      ∙ h.newest_serves e same;
  waits = λ k lt le. subst IsWhole (sym (stays k (positive lt))) (h.waits k lt le);
  serves = λ e. subst (λ (b : List ℕ). IsWhole (read ++ b)) (sym (stays m (h.taken refl))) (h.serves e);
}
  where
    new : Link
    new = record { up = (link_of links m).up; down = (link_of links m).down ++ more }

    within : m ≤ length links
    within = subst (λ (i : ℕ). m ≤ i) (sym h.made) h.numbers

    positive : {k : ℕ} → m < k → 1 ≤ k
    positive lt = omega arith

    stays : (k : ℕ) → 1 ≤ k → (link_of (with_link links m new) k).up ≡ (link_of links k).up
    stays k from = up_stays links m k new (h.taken refl) within from refl

    heard_by : client_on ≡ true → (b : Bool) → eqb n m ≡ b → heard ++ (link_of (with_link links m new) n).down ≡ reply_bytes now
    heard_by e true is =
        let equal : n ≡ m = eqb-true n m is in
        let there : link_of (with_link links m new) n ≡ new = ap (λ (i : ℕ). link_of (with_link links m new) i) equal
        ∙ link_same links m new (h.taken refl) within in
        ap (λ (l : Link). heard ++ l.down) there
        ∙ (sym (append_assoc heard (link_of links m).down more)
        ∙ (ap (λ (i : ℕ). (heard ++ (link_of links i).down) ++ more) (sym equal)
        ∙ (ap (λ (b : List ℕ). b ++ more) (h.down_is e) ∙ sym (same_one (sym equal)))))
    heard_by e false other =
        let apart : n ≡ m → ⊥ = eqb-false n m other in
        ap (λ (l : Link). heard ++ l.down) (link_other links m n new (h.taken refl) (h.first e) apart)
        ∙ (h.down_is e ∙ ap reply_bytes (sym (other_one (λ (s : m ≡ n). apart (sym s)))))

-- ---- bytes that move

split_moves : (a b : List ℕ) (k : ℕ) → (a ++ take k b) ++ drop k b ≡ a ++ b
split_moves a b k = append_assoc a (take k b) (drop k b) ∙ ap (λ (c : List ℕ). a ++ c) (take-append-drop k b)

-- the first k bytes up move to the server: the lines that it has not read stay the same
pub wired_up : (links : List Link) (n : ℕ) (client_on : Bool) (heard : List ℕ) (m : ℕ) (read : List ℕ) (up : List Line) (down : List Reply)
    (k : ℕ)
    → IsWired links n client_on heard m true read up down
    → IsWired (with_link links m (record { up = drop k (link_of links m).up; down = (link_of links m).down })) n client_on heard m true
    (read ++ take k (link_of links m).up) up down
wired_up links n client_on heard m read up down k h = record {
  made = link_long links m new ∙ h.made;
  numbers = h.numbers;
  first = h.first;
  taken = h.taken;
  lines = h.lines;
  replies = h.replies;
  down_is = λ e. ap (λ (b : List ℕ). heard ++ b) (down_stays (h.first e) (eqb n m) refl) ∙ h.down_is e;
  newest_waits = λ lt. ap (λ (l : Link). l.up) (link_other links m n new (h.taken refl) (positive lt) (above lt)) ∙ h.newest_waits lt;
  newest_serves = λ e same. ap (λ (i : ℕ). (read ++ take k (link_of links m).up) ++ (link_of (with_link links m new) i).up) (sym same)
      ∙ (ap (λ (l : Link). (read ++ take k (link_of links m).up) ++ l.up) here
      ∙ (split_moves read (link_of links m).up k ∙ (ap (λ (i : ℕ). read ++ (link_of links i).up) same ∙ h.newest_serves e same)));
  waits = λ j lt le. subst (λ (l : Link). IsWhole l.up) (sym (link_other links m j new (h.taken refl) (positive lt) (above lt)))
      (h.waits j lt le);
  serves = λ e. subst IsWhole (sym (ap (λ (l : Link). (read ++ take k (link_of links m).up) ++ l.up) here
      ∙ split_moves read (link_of links m).up k)) (h.serves e);
}
  where
    new : Link
    new = record { up = drop k (link_of links m).up; down = (link_of links m).down }

    within : m ≤ length links
    within = subst (λ (i : ℕ). m ≤ i) (sym h.made) h.numbers

    here : link_of (with_link links m new) m ≡ new
    here = link_same links m new (h.taken refl) within

    positive : {j : ℕ} → m < j → 1 ≤ j
    positive lt = omega arith

    above : {j : ℕ} → m < j → j ≡ m → ⊥
    above lt e = omega arith

    down_stays : 1 ≤ n → (b : Bool) → eqb n m ≡ b → (link_of (with_link links m new) n).down ≡ (link_of links n).down
    down_stays from true is = let equal : n ≡ m = eqb-true n m is in ap (λ (i : ℕ). (link_of (with_link links m new) i).down) equal
        ∙ (ap (λ (l : Link). l.down) here ∙ ap (λ (i : ℕ). (link_of links i).down) (sym equal))
    down_stays from false other = ap (λ (l : Link). l.down) (link_other links m n new (h.taken refl) from (eqb-false n m other))

-- the first k bytes down move to the client: the replies that it has not read stay the same
pub wired_down : (links : List Link) (n : ℕ) (heard : List ℕ) (m : ℕ) (server_on : Bool) (read : List ℕ) (up : List Line)
    (down : List Reply) (k : ℕ)
    → IsWired links n true heard m server_on read up down
    → IsWired (with_link links n (record { up = (link_of links n).up; down = drop k (link_of links n).down })) n true (heard
    ++ take k (link_of links n).down) m server_on read up down
wired_down links n heard m server_on read up down k h = record {
  made = link_long links n new ∙ h.made;
  numbers = h.numbers;
  first = h.first;
  taken = h.taken;
  lines = h.lines;
  replies = h.replies;
  down_is = λ e. ap (λ (l : Link). (heard ++ take k (link_of links n).down) ++ l.down) here
      ∙ (split_moves heard (link_of links n).down k ∙ h.down_is e);
  newest_waits = λ lt. stays n (h.first refl) ∙ h.newest_waits lt;
  newest_serves = λ e same. ap (λ (b : List ℕ). read ++ b) (stays n (h.first refl)) ∙ h.newest_serves e same;
  waits = λ j lt le. subst IsWhole (sym (stays j (positive lt))) (h.waits j lt le);
  serves = λ e. subst (λ (b : List ℕ). IsWhole (read ++ b)) (sym (stays m (h.taken e))) (h.serves e);
}
  where
    new : Link
    new = record { up = (link_of links n).up; down = drop k (link_of links n).down }

    within : n ≤ length links
    within = subst (λ (i : ℕ). n ≤ i) (sym h.made) (omega arith)

    here : link_of (with_link links n new) n ≡ new
    here = link_same links n new (h.first refl) within

    positive : {j : ℕ} → m < j → 1 ≤ j
    positive lt = omega arith

    stays : (j : ℕ) → 1 ≤ j → (link_of (with_link links n new) j).up ≡ (link_of links j).up
    stays j from = up_stays links n j new (h.first refl) within from refl
