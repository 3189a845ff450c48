-- A relay reads as far as it may.
use Rattle.watched_ends.proofs.Names.{[], ◌++◌, ◌≡◌, all, are_too_many, down_of, down_sent, drop, due_of, false, inl, inr, IsFirstPast, IsRead}
use Rattle.watched_ends.proofs.Names.{IsStop, KeepsFew, Limited, limited, List, None, none, Option, refl, reports, Some, some, subst, sym}
use Rattle.watched_ends.proofs.Names.{true, up_of, up_sent, Watching, without_due, ℕ}
use Rattle.witness.specs.Relaying.{IsClientRead, IsServerRead, Reads, untold}
use Rattle.witness.specs.Texts.{told_lines}

pub stop_first : (old w : Watching) → IsFirstPast 10000 old w → IsStop old w
stop_first old w first = inl first

pub stop_read : (old w : Watching) → IsClientRead w → IsServerRead w → IsStop old w
stop_read old w client server = inr (client, server)

-- ---- what is there, whether it is past the limit or not

pub due_there : (n : ℕ) (o : Option Watching) (up down due : List ℕ) → due_of (limited n o up down due) ≡ due
due_there n (Some w) up down due = refl
due_there n None up down due = refl

pub up_there : (n : ℕ) (o : Option Watching) (up down due : List ℕ) → up_of (limited n o up down due) ≡ up
up_there n (Some w) up down due = refl
up_there n None up down due = refl

pub down_there : (n : ℕ) (o : Option Watching) (up down due : List ℕ) → down_of (limited n o up down due) ≡ down
down_there n (Some w) up down due = refl
down_there n None up down due = refl

pub due_written : (n : ℕ) (o : Option Watching) (up down due : List ℕ) → limited n o up down [] ≡ without_due (limited n o up down due)
due_written n (Some w) up down due = refl
due_written n None up down due = refl

pub ups_sent : (n count : ℕ) (o : Option Watching) (up down due : List ℕ)
    → limited n o (drop count up) down due ≡ up_sent count (limited n o up down due)
ups_sent n count (Some w) up down due = refl
ups_sent n count None up down due = refl

pub downs_sent : (n count : ℕ) (o : Option Watching) (up down due : List ℕ)
    → limited n o up (drop count down) due ≡ down_sent count (limited n o up down due)
downs_sent n count (Some w) up down due = refl
downs_sent n count None up down due = refl

-- ---- reading

pub none_read : (n : ℕ) (o : Option Watching) (up down due : List ℕ) → o ≡ None → IsRead (limited n o up down due) (limited n o up down due)
none_read n o up down due is =
    subst (λ (r : Option Watching). IsRead (limited n r up down due) (limited n r up down due)) (sym is) (none up down due)

pub all_read : (n : ℕ) (o : Option Watching) (up down due due_now : List ℕ) (w read taken : Watching) → o ≡ Some w
    → Reads w read → IsClientRead read → IsServerRead read → KeepsFew read → are_too_many read.dialogue.uses ≡ false
    → due_now ≡ due ++ told_lines n read.dialogue.reported → taken ≡ untold read
    → IsRead (limited n o up down due) (limited n (Some taken) up down due_now)
all_read n o up down due due_now w read taken is reads client server few within due_is taken_is =
    subst (λ (x : Option Watching). IsRead (limited n x up down due) (limited n (Some taken) up down due_now)) (sym is)
    (subst (λ (t : List ℕ). IsRead (limited n (Some w) up down due) (limited n (Some taken) up down t)) (sym due_is)
    (subst (λ (x : Watching). IsRead (limited n (Some w) up down due)
    (limited n (Some x) up down (due ++ told_lines n read.dialogue.reported))) (sym taken_is)
    (all (record { connection = n; watching = w; up = up; down = down; due = due }) read reads client server few within)))

pub over_read : (n : ℕ) (o : Option Watching) (up down due past : List ℕ) (w read : Watching) → o ≡ Some w
    → Reads w read → IsStop w read → are_too_many read.dialogue.uses ≡ true → past ≡ due ++ reports true n read.dialogue
    → IsRead (limited n o up down due) (limited n None up down past)
over_read n o up down due past w read is reads stop over past_is =
    subst (λ (x : Option Watching). IsRead (limited n x up down due) (limited n None up down past)) (sym is)
    (subst (λ (t : List ℕ). IsRead (limited n (Some w) up down due) (limited n None up down t)) (sym past_is)
    (some (record { connection = n; watching = w; up = up; down = down; due = due }) read reads stop over))
