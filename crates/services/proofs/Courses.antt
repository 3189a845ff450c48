-- Within its limit, the relay of `watch` has a course with the same traffic.
use Rattle.std.proofs.Common.{◌≤◌, refl, sym, ap, ◌∙◌, ℕ, Bool, true, false, List, [], ◌++◌, arith}
use Rattle.std.specs.Prelude.{⊤, take, drop, min, length}
use Rattle.std.proofs.lemmas.List.{take_min, drop_min}
use Rattle.effects.specs.declared.vocabulary.Peer.{Peer}
use Rattle.effects.specs.declared.vocabulary.Peer.TheVariants.{Client, Server}
use Rattle.watched_ends.specs.Limits.{Limited, Within, Past, up_of, up_sent, down_of, down_sent, due_of, without_due, IsTold, IsRead, all, some, none}
use Rattle.witness.specs.Relaying as moves
use Rattle.witness.specs.Relaying.{Relaying, moved, with_move}
use Rattle.services.specs.Relays.{RelayTraffic, HasCourse, came, heard, told_more, up_passed, down_passed, nothing_passed, Relayed, begins, hears, tells, loses, ups, downs}

abbrev CourseAt : ℕ → Bool → RelayTraffic → Limited → Type 0
CourseAt number true f (Within r) = HasCourse number f r
CourseAt number true f (Past up down due) = ⊤
CourseAt number false f r = ⊤

came_course : (number : ℕ) (peer : Peer) (bytes : List ℕ) (f : RelayTraffic) (r : Limited) → CourseAt number true f r
    → CourseAt number true (heard peer bytes f) (came peer r bytes)
came_course number Client bytes f (Within r) h = record {
  course = with_move h.course r (moves.FromClient bytes);
  is = moved h.course r (moves.client_came r bytes) (moves.FromClient bytes) h.is refl;
  from_client = ap (λ (l : List ℕ). l ++ bytes) h.from_client;
  to_server = h.to_server;
  from_server = h.from_server;
  to_client = h.to_client;
  told = h.told;
}
came_course number Server bytes f (Within r) h = record {
  course = with_move h.course r (moves.FromServer bytes);
  is = moved h.course r (moves.server_came r bytes) (moves.FromServer bytes) h.is refl;
  from_client = h.from_client;
  to_server = h.to_server;
  from_server = ap (λ (l : List ℕ). l ++ bytes) h.from_server;
  to_client = h.to_client;
  told = h.told;
}
came_course number Client bytes f (Past up down due) h = tt
came_course number Server bytes f (Past up down due) h = tt

read_course : (number : ℕ) (f : RelayTraffic) (r read : Limited) → CourseAt number true f r → IsRead r read → CourseAt number true f read
read_course number f _ _ h (all r w reads client server few within) =
    let seen : Relaying = record r { watching = w } in record {
      course = with_move (with_move h.course r moves.Read) seen moves.MakeDue;
      is = moved (with_move h.course r moves.Read) seen (moves.made_due seen) moves.MakeDue (moved h.course r seen moves.Read h.is (reads, refl)) refl;
      from_client = h.from_client;
      to_server = h.to_server;
      from_server = h.from_server;
      to_client = h.to_client;
      told = h.told;
    }
read_course number f _ _ h (some r w reads stop over) = tt
read_course number f _ _ h (none up down due) = tt

hears_course : (number : ℕ) (is_told : Bool) (peer : Peer) (bytes : List ℕ) (f : RelayTraffic) (r read : Limited) → CourseAt number is_told f r
    → IsRead (came peer r bytes) read → CourseAt number is_told (heard peer bytes f) read
hears_course number true peer bytes f r read h is =
    read_course number (heard peer bytes f) (came peer r bytes) read (came_course number peer bytes f r h) is
hears_course number false peer bytes f r read h is = tt

tells_course : (number : ℕ) (is_told : Bool) (f : RelayTraffic) (r : Limited) → CourseAt number is_told f r
    → CourseAt number is_told (told_more (due_of r) f) (without_due r)
tells_course number true f (Within r) h = record {
  course = with_move h.course r moves.Write;
  is = moved h.course r (record r { due = [] }) moves.Write h.is refl;
  from_client = h.from_client;
  to_server = h.to_server;
  from_server = h.from_server;
  to_client = h.to_client;
  told = ap (λ (l : List ℕ). l ++ r.due) h.told;
}
tells_course number true f (Past up down due) h = tt
tells_course number false f r h = tt

within_least : (n m : ℕ) → min n m ≤ m
within_least n m = omega arith

ups_course : (number : ℕ) (is_told : Bool) (n : ℕ) (f : RelayTraffic) (r : Limited) → CourseAt number is_told f r
    → CourseAt number is_told (up_passed (take n (up_of r)) f) (up_sent n r)
ups_course number true n f (Within r) h =
    let most : ℕ = min n (length r.up) in record {
      course = with_move h.course r (moves.ToServer most);
      is = moved h.course r (record r { up = drop n r.up }) (moves.ToServer most) h.is
          (within_least n (length r.up), ap (λ (l : List ℕ). record r { up = l }) (sym (drop_min n r.up)));
      from_client = h.from_client;
      to_server = ap (λ (l : List ℕ). l ++ take most r.up) h.to_server ∙ ap (λ (l : List ℕ). f.to_server ++ l) (take_min n r.up);
      from_server = h.from_server;
      to_client = h.to_client;
      told = h.told;
    }
ups_course number true n f (Past up down due) h = tt
ups_course number false n f r h = tt

downs_course : (number : ℕ) (is_told : Bool) (n : ℕ) (f : RelayTraffic) (r : Limited) → IsTold r → CourseAt number is_told f r
    → CourseAt number is_told (down_passed (take n (down_of r)) f) (down_sent n r)
downs_course number true n f (Within r) may h =
    let most : ℕ = min n (length r.down) in record {
      course = with_move h.course r (moves.ToClient most);
      is = moved h.course r (record r { down = drop n r.down }) (moves.ToClient most) h.is
          (may, within_least n (length r.down), ap (λ (l : List ℕ). record r { down = l }) (sym (drop_min n r.down)));
      from_client = h.from_client;
      to_server = h.to_server;
      from_server = h.from_server;
      to_client = ap (λ (l : List ℕ). l ++ take most r.down) h.to_client ∙ ap (λ (l : List ℕ). f.to_client ++ l) (take_min n r.down);
      told = h.told;
    }
downs_course number true n f (Past up down due) may h = tt
downs_course number false n f r may h = tt

begins_course : (number : ℕ) (is_told : Bool) → CourseAt number is_told nothing_passed (Within (moves.fresh number))
begins_course number true = record {
  course = moves.no_course;
  is = moves.begun;
  from_client = refl;
  to_server = refl;
  from_server = refl;
  to_client = refl;
  told = refl;
}
begins_course number false = tt

all_courses : (number : ℕ) (is_told : Bool) (f : RelayTraffic) (r : Limited) → Relayed number is_told f r → CourseAt number is_told f r
all_courses number _ _ _ (begins is_told) = begins_course number is_told
all_courses number _ _ _ (hears is_told peer bytes f r read h is) =
    hears_course number is_told peer bytes f r read (all_courses number is_told f r h) is
all_courses number _ _ _ (tells is_told f r h) = tells_course number is_told f r (all_courses number is_told f r h)
all_courses number _ _ _ (loses is_told f r h) = tt
all_courses number _ _ _ (ups is_told n f r h) = ups_course number is_told n f r (all_courses number is_told f r h)
all_courses number _ _ _ (downs is_told n f r h may) = downs_course number is_told n f r may (all_courses number is_told f r h)

pub has_course : (number : ℕ) (f : RelayTraffic) (r : Relaying) → Relayed number true f (Within r) → HasCourse number f r
has_course number f r h = all_courses number true f (Within r) h
