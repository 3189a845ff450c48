-- One part of a schedule after another.
use Rattle.link_world.proofs.Names.{[], ◌++◌, ◌||◌, ◌∙◌, ◌≡◌, ap, Bool, Err, Event, false, false≢true, IfSome, inl, inr, IsErr, List, Makes, None, Ok}
use Rattle.link_world.proofs.Names.{Option, PlaysPart, refl, Result, rules, Some, Staged, subst, sym, Tells, Then, true, World}
use Rattle.link_world.specs.Parts.{is_any}
use Rattle.link_world.proofs.EventLists.{leads_more, any_append}

-- whether there was any event in two parts
abbrev pub either : Bool → Option Bool → Option Bool
either a None = None
either a (Some b) = Some (a || b)

either_told : (a : Bool) (told : Option Bool) (es fs : List Event) → a ≡ is_any es → IfSome told (λ busy. busy ≡ is_any fs)
    → IfSome (either a told) (λ busy. busy ≡ is_any (es ++ fs))
either_told a None es fs first then = tt
either_told a (Some b) es fs first then =
    ap (λ (x : Bool). x || b) first ∙ (ap (λ (x : Bool). is_any es || x) then ∙ sym (any_append es fs))

pub then_more : (A B : Bool → World → List Event → Type 0) (cut a : Bool) (told : Option Bool) (l k m : Staged)
    → Makes A false (Some a) l k → Makes B cut told k m → Makes (Then A B) cut (either a told) l m
then_more A B cut a told l k m first then = record {
  events = first.events ++ then.events;
  made = record {
    front = first.events;
    back = then.events;
    whole = refl;
    parts = inl (first.made, subst (λ (x : Staged). B cut x.world then.events) first.leads.is then.made);
  };
  leads = leads_more l k m first.events then.events first.leads then.leads;
  told_is = either_told a told first.events then.events first.told_is then.told_is;
}

pub then_cut : (A B : Bool → World → List Event → Type 0) (l m : Staged) → Makes A true None l m
    → Makes (Then A B) true None l m
then_cut A B l m h = record {
  events = h.events;
  made = record { front = h.events; back = []; whole = sym (nothing_behind h.events); parts = inr (refl, h.made, refl) };
  leads = h.leads;
  told_is = tt;
}
  where
    nothing_behind : (es : List Event) → es ++ [] ≡ es
    nothing_behind es = search rules

-- ---- a call that was cut

pub tells_cut : {E : Type 0} (r : Result Bool E) (are : Bool → World → List Event → Type 0) (l m : Staged) → IsErr r
    → Makes are true None l m → Tells r are l m
tells_cut (Ok b) are l m is h = absurd (false≢true is)
tells_cut (Err fault) are l m is h = h

pub part_cut : {E : Type 0} (r : Result (Unit {0}) E) (are : Bool → World → List Event → Type 0) (l m : Staged) → IsErr r
    → Makes are true None l m → PlaysPart r are l m
part_cut (Ok b) are l m is h = absurd (false≢true is)
part_cut (Err fault) are l m is h = h

-- ---- six parts

pub any_of_six : (a b c d e f : Bool) → (a || (b || (c || (d || (e || f))))) ≡ (((((a || b) || c) || d) || e) || f)
any_of_six true b c d e f = refl
any_of_six false true c d e f = refl
any_of_six false false true d e f = refl
any_of_six false false false true e f = refl
any_of_six false false false false e f = refl
