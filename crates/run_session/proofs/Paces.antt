-- How far the record has followed its client.
use Rattle.run_session.proofs.Names.{[], ◌∙◌, ◌≡◌, ◌≤◌, ◌⊎◌, Abort, Act, ap, Bool, ClientEnd, cond, done_by, drop, Err, false, Filed, Follows, HasFiled}
use Rattle.run_session.proofs.Names.{HasFollowed, HasTold, IsTold, IfErr, inl, inr, IsAt, length, List, Ok, OnOk, pace, Pace, Told}
use Rattle.run_session.proofs.Names.{FollowsGoing, FollowsTold, Going, refl, Result, Send, Stage, State, subst, sym, true, ℕ}
use Rattle.std.proofs.lemmas.List.{drop_all}
use Rattle.run_session.proofs.Names.{◌&&◌, ap₂, Apart, false≢true, FollowsApart, HasAll, HasEnded, is_some, not}
use Rattle.std.specs.Prelude.{◌||◌, nat_lt}
use Rattle.run_session.specs.Evidence.{has_due, Notes}
use Rattle.run_session.specs.Records.{is_due, is_filed, Open, Unknown}
use Rattle.client_core.specs.Refusals.{IsSendRefused}
use Rattle.client_core.specs.declared.faults.ClientFault.{ClientFault}
use Rattle.dme_line.specs.declared.tags.Tag.{Tag}
use Rattle.protocol_model.specs.Client.{next_number}
use Rattle.record_text.proofs.Views.{aborts_view, sends_view, View}

-- ---- the file has all of the text

none_or : (lost : Bool) (xs : List ℕ) → xs ≡ [] → cond lost [] xs ≡ []
none_or true xs is = refl
none_or false xs is = is

pub enough_filed : (s : State) → length s.pair.recording.text ≤ s.book.filed → HasFiled s
enough_filed s few = none_or s.book.lost (drop s.book.filed s.pair.recording.text) (drop_all s.book.filed s.pair.recording.text few)

pub lost_files : (s : State) → s.book.lost ≡ true → HasFiled s
lost_files s is = ap (λ (b : Bool). cond b [] (drop s.book.filed s.pair.recording.text)) is

-- ---- calls that count nothing

abbrev pub CountsNone : ClientEnd → ClientEnd → Type 0
CountsNone e f = f.client.table.tally.counted ≡ e.client.table.tally.counted

pub same_counts : (e f g : ClientEnd) → f ≡ g → CountsNone e g → CountsNone e f
same_counts e f g is none = ap (λ (x : ClientEnd). x.client.table.tally.counted) is ∙ none

pub send_counts : (e : ClientEnd) → CountsNone e (done_by Send e)
send_counts e = ap (λ (v : View). v.counted)
    (sends_view e.client e.client.table.tally.unsent (next_number Tag.Std e.client.table.standard e.client.drawn))

pub abort_counts : (e : ClientEnd) → CountsNone e (done_by Abort e)
abort_counts e = ap (λ (v : View). v.counted) (aborts_view e.client (next_number Tag.Event e.client.table.event e.client.event_drawn))

refused_counts : (why : ClientFault) (b : Bool) (e f g : ClientEnd) → CountsNone e g → IsSendRefused b e f g why → CountsNone e f
refused_counts ClientFault.NotNow b e f g none r = same_counts e f e r.0 refl
refused_counts (ClientFault.Faulted cause) b e f g none (inl r) = same_counts e f e r.1 refl
refused_counts (ClientFault.Faulted cause) b e f g none (inr r) = same_counts e f g r.1 none
refused_counts ClientFault.Memory b e f g none r = same_counts e f e r refl

pub writes_count : {A : Type 0} (r : Result A ClientFault) (b : Bool) (e f g : ClientEnd) → CountsNone e g → OnOk r (f ≡ g)
    → IfErr r (λ why. IsSendRefused b e f g why) → CountsNone e f
writes_count (Ok a) b e f g none done refused = same_counts e f g done none
writes_count (Err why) b e f g none done refused = refused_counts why b e f g none refused

pub stays : (v s : State) (f : ClientEnd) → v ≡ s → CountsNone v.pair.end f → HasTold s
    → IsTold v.book.keeps v.reports.named v.pair.recording.told v.reports.told (length f.client.table.tally.counted)
stays v s f is none has = subst (IsTold v.book.keeps v.reports.named v.pair.recording.told v.reports.told)
    (sym (ap (λ (l : List Act). length l) none)) (subst HasTold (sym is) has)

-- ---- what is due

or_none : (o d e : Bool) → (not o || (d || e)) ≡ false → (not o || (d || false)) ≡ false
or_none true true e is = is
or_none true false e is = refl
or_none false d e is = is

-- what is not due at any moment is not due before the end
pub undue : (n : Notes) (complete : ℕ) (over : Bool) → has_due n complete over ≡ false → has_due n complete false ≡ false
undue n complete over is = go (is_some n.given) is
  where
    go : (g : Bool) → (g && (not n.opened || (nat_lt n.dated complete || (over && not n.left)))) ≡ false
        → (g && (not n.opened || (nat_lt n.dated complete || (false && not n.left)))) ≡ false
    go true is = or_none n.opened (nat_lt n.dated complete) (over && not n.left) is
    go false is = refl

-- ---- after an answer

further : (p : Pace) (s t : State) → pace s.stage ≡ p → t.book.short ≡ s.book.short → (IsAt p s → HasFollowed t) → HasFollowed s → HasFollowed t
further p s t at short follows has = λ long. follows (subst (λ (x : Pace). IsAt x s) at (has (sym short ∙ long))) long

pub on_filed : {A E : Type 0} (r : Result A E) (v s t : State) → v ≡ s → pace v.stage ≡ Filed → t.book.short ≡ s.book.short → OnOk r (Follows s t)
    → OnOk r (HasFollowed s → HasFollowed t)
on_filed (Ok a) v s t is filed short f = further Filed s t (ap (λ (x : State). pace x.stage) (sym is) ∙ filed) short (λ at. f at.0 at.1)
on_filed (Err e) v s t is filed short f = tt

pub on_going : {A E : Type 0} (r : Result A E) (v s t : State) → v ≡ s → pace v.stage ≡ Going → t.book.short ≡ s.book.short → OnOk r (FollowsGoing s t)
    → OnOk r (HasFollowed s → HasFollowed t)
on_going (Ok a) v s t is going short f = further Going s t (ap (λ (x : State). pace x.stage) (sym is) ∙ going) short (λ at. f at.0.0 at.0.1 at.1)
on_going (Err e) v s t is going short f = tt

pub on_apart : {A E : Type 0} (r : Result A E) (v s t : State) → v ≡ s → pace v.stage ≡ Apart → t.book.short ≡ s.book.short → OnOk r (FollowsApart s t)
    → OnOk r (HasFollowed s → HasFollowed t)
on_apart (Ok a) v s t is apart short f = further Apart s t (ap (λ (x : State). pace x.stage) (sym is) ∙ apart) short (λ at. f at.0 at.1)
on_apart (Err e) v s t is apart short f = tt

pub on_told : {A E : Type 0} (r : Result A E) (v s t : State) → v ≡ s → pace v.stage ≡ Told → t.book.short ≡ s.book.short → OnOk r (FollowsTold s t)
    → OnOk r (HasFollowed s → HasFollowed t)
on_told (Ok a) v s t is told short f = further Told s t (ap (λ (x : State). pace x.stage) (sym is) ∙ told) short f
on_told (Err e) v s t is told short f = tt

pub also_going : {A E : Type 0} (r : Result A E) (s t : State) → OnOk r (FollowsTold s t) → OnOk r (FollowsGoing s t)
also_going (Ok a) s t f = λ told filed going. f told
also_going (Err e) s t f = tt

-- its file has it at each of these paces
pub filed_at : (p : Pace) (s : State) → is_filed p ≡ true → IsAt p s → HasTold s × HasFiled s
filed_at Unknown s is at = absurd (false≢true is)
filed_at Told s is at = absurd (false≢true is)
filed_at Filed s is at = (at.0, ap (λ (o : Open). o.lacks) at.1)
filed_at Going s is at = (at.0.0, ap (λ (o : Open). o.lacks) at.0.1)
filed_at Apart s is at = (at.0, ap (λ (o : Open). o.lacks) at.1)

-- ---- nothing is lacking, and nothing is due

all_even : (s : State) (over : Bool) → HasFiled s → is_due s over ≡ false → HasAll s
all_even s over filed none = ap₂ (λ (l : List ℕ) (d : Bool). record { lacks = l; due = d }) filed
    (undue s.book.noted s.pair.recording.telling.counted.features over none)

pub told_on : {A E : Type 0} (r : Result A E) (s t : State) (over : Bool) → HasFiled s → is_due s over ≡ false → OnOk r (Follows s t)
    → OnOk r (FollowsTold s t)
told_on (Ok a) s t over filed none f = λ has. f has (all_even s over filed none)
told_on (Err e) s t over filed none f = tt

and_false : (b c : Bool) → c ≡ false → (b && c) ≡ false
and_false true c is = is
and_false false c is = refl

pub ends_on : {A E : Type 0} (r : Result A E) (s t : State) → is_due s true ≡ false → OnOk r (FollowsApart s t) → OnOk r (Follows s t)
ends_on (Ok a) s t none f = λ has all. f has (ap₂ (λ (l : List ℕ) (d : Bool). record { lacks = l; due = d })
    (ap (λ (o : Open). o.lacks) all) (and_false s.book.noted.opened (is_due s true) none))
ends_on (Err e) s t none f = tt

pub unopened : (s : State) → length s.pair.recording.text ≤ s.book.filed → s.book.noted.opened ≡ false → HasEnded s
unopened s few none = ap₂ (λ (l : List ℕ) (d : Bool). record { lacks = l; due = d }) (enough_filed s few)
    (ap (λ (b : Bool). b && is_due s true) none)

-- ---- the pace of a stage

pub is_paced : (p : Pace) (st a : Stage) → pace a ≡ p → st ≡ a → pace st ≡ p
is_paced p st a h e = ap pace e ∙ h

pub or_paced : {X : Type 0} (p : Pace) (st a : Stage) → pace a ≡ p → (X → pace st ≡ p) → (st ≡ a) ⊎ X → pace st ≡ p
or_paced p st a h f (inl e) = ap pace e ∙ h
or_paced p st a h f (inr x) = f x
