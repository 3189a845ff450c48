-- Lists of events one after another, and an event that is repeated.
use Rattle.link_world.proofs.Names.{[], ◌++◌, ◌||◌, ◌∙◌, ◌∷◌, ◌≡◌, after, ap, append-nil, append_assoc, AreWhile, Bool, can, cond, Event, false}
use Rattle.link_world.proofs.Names.{false≢true, happens, Leading, List, Makes, refl, run_of, SetupValue, Some, Staged, staged, standing, subst, sym}
use Rattle.link_world.proofs.Names.{traced, Traces, TracesAll, TraceValue, true, unwatched, with_world, World, WorldValue, ℕ}
use Rattle.link_world.specs.Parts.{is_any}
use Rattle.link_world.specs.Traces.{shown}
use Rattle.link_world.proofs.Undisturbed.{after_can}

-- ---- lists of events

pub run_append : (es fs : List Event) (w : World)
    → run_of (es ++ fs) w ≡ run_of fs (run_of es w)
run_append [] fs w = refl
run_append (e ∷ es) fs w = run_append es fs (after e w)

pub any_append : (es fs : List Event) → is_any (es ++ fs) ≡ (is_any es || is_any fs)
any_append [] fs = refl
any_append (e ∷ es) fs = refl

pub any_more : (es : List Event) (e : Event) → true ≡ is_any (es ++ e ∷ [])
any_more [] e = refl
any_more (f ∷ es) e = refl

pub none_there : (es : List Event) → false ≡ is_any es → es ≡ []
none_there [] is = refl
none_there (e ∷ es) is = absurd (cc)

-- a world and a trace
abbrev pub stage : SetupValue → World → TraceValue → Staged
stage s w t = record { setup = s; world = w; trace = t }

-- ---- the rows of lists of events

traced_append : (es fs : List Event) (w : World) → traced (es ++ fs) w ≡ traced es w ++ traced fs (run_of es w)
traced_append [] fs w = refl
traced_append (e ∷ es) fs w =
    ap (λ (xs : List ℕ). now ++ xs) (traced_append es fs (after e w))
    ∙ sym (append_assoc now (traced es (after e w)) (traced fs (run_of es (after e w))))
  where
    now : List ℕ
    now = cond (can e w) (shown e (standing w) (happens e w)) []

traces_more : (es fs : List Event) (w : World) (t u v : TraceValue) → Traces es w t u → Traces fs (run_of es w) u v
    → Traces (es ++ fs) w t v
traces_more es fs w t u v first then kept =
    let two = then kept in
    let one = first two.0 in (
      one.0,
      λ last.
          let a : TracesAll es w t u = one.1 last in
          let b : TracesAll fs (run_of es w) u v = two.1 a.taken in record {
            taken = b.taken ∙ ap (λ (x : World). x.server.server.last) (sym (run_append es fs w));
            text = b.text ∙ (ap (λ (xs : List ℕ). xs ++ traced fs (run_of es w)) a.text
                ∙ (append_assoc t.text (traced es w) (traced fs (run_of es w))
                ∙ ap (λ (xs : List ℕ). t.text ++ xs) (sym (traced_append es fs w))));
          },
    )

pub traces_none : (w : World) (t : TraceValue) → Traces [] w t t
traces_none w t kept = (kept, λ last. record { taken = last; text = sym (append-nil t.text) })

-- ---- what events lead to

pub leads_none : (l : Staged) → Leading [] l l
leads_none l = record { is = refl; traces = traces_none l.world l.trace }

-- the world after more events
pub leads_more : (l k m : Staged) (es fs : List Event) → Leading es l k → Leading fs k m → Leading (es ++ fs) l m
leads_more l k m es fs first then = record {
  is = then.is
      ∙ (ap (λ (x : Staged). stage x.setup (run_of fs x.world) m.trace) first.is
      ∙ ap (λ (x : World). stage l.setup x m.trace) (sym (run_append es fs l.world)));
  traces = traces_more es fs l.world l.trace k.trace m.trace first.traces
      (subst (λ (x : World). Traces fs x k.trace m.trace) (ap (λ (x : Staged). x.world) first.is) then.traces);
}

-- the world alone
pub leads_world : (es : List Event) (l m : Staged) → Leading es l m → m.world ≡ run_of es l.world
leads_world es l m h = ap (λ (x : Staged). x.world) h.is

pub leads_value : (es : List Event) (l m : WorldValue) (t u : TraceValue) → Leading es (staged l t) (staged m u)
    → m ≡ with_world l (run_of es l.world)
leads_value es l m t u h = ap (λ (x : Staged). worldly x) h.is
  where
    worldly : Staged → WorldValue
    worldly x = record { setup = x.setup; world = x.world }

-- without a trace
pub leads_unwatched : (es : List Event) (l m : WorldValue) → m ≡ with_world l (run_of es l.world) → Leading es (unwatched l) (unwatched m)
leads_unwatched es l m is = record {
  is = ap (λ (x : WorldValue). unwatched x) is;
  traces = λ kept. absurd (false≢true kept);
}

-- ---- an event while it can happen

pub done_now : (e : Event) (w : World) → can e w ≡ true → after e w ≡ happens e w
done_now e w may = after_can e w (can e w) refl may

not_done_by : (e : Event) (w : World) (b : Bool) → b ≡ false → cond b (happens e w) w ≡ w
not_done_by e w true never = absurd (false≢true (sym never))
not_done_by e w false never = refl

pub not_done : (e : Event) (w : World) → can e w ≡ false → after e w ≡ w
not_done e w never = not_done_by e w (can e w) never

-- one event that happens, or cannot
pub leads_one : (e : Event) (l m : WorldValue) (t u : TraceValue) → can e l.world ≡ true → m ≡ with_world l (happens e l.world)
    → Traces (e ∷ []) l.world t u → Leading (e ∷ []) (staged l t) (staged m u)
leads_one e l m t u may is traces = record {
  is = ap (λ (x : WorldValue). staged x u) is ∙ ap (λ (x : World). stage l.setup x u) (sym (done_now e l.world may));
  traces = traces;
}

not_traced : (e : Event) (w : World) → can e w ≡ false → traced (e ∷ []) w ≡ []
not_traced e w never =
    append-nil (cond (can e w) (shown e (standing w) (happens e w)) [])
    ∙ ap (λ (b : Bool). cond b (shown e (standing w) (happens e w)) []) never

pub leads_refused : (e : Event) (l m : WorldValue) (t u : TraceValue) → can e l.world ≡ false → m ≡ l → u ≡ t
    → Leading (e ∷ []) (staged l t) (staged m u)
leads_refused e l m t u never is same = record {
  is = ap (λ (x : WorldValue). staged x u) is ∙ ap (λ (x : World). stage l.setup x u) (sym (not_done e l.world never));
  traces = λ kept. (
    sym (ap (λ (x : TraceValue). x.is_kept) same) ∙ kept,
    λ last. record {
      taken = ap (λ (x : TraceValue). x.taken) same ∙ (last ∙ ap (λ (x : World). x.server.server.last) (sym (not_done e l.world never)));
      text = ap (λ (x : TraceValue). x.text) same ∙ (sym (append-nil t.text)
          ∙ ap (λ (xs : List ℕ). t.text ++ xs) (sym (not_traced e l.world never)));
    },
  );
}

pub same_stage : (l m : WorldValue) (t u : TraceValue) → m ≡ l → u ≡ t → staged m u ≡ staged l t
same_stage l m t u is same = ap (λ (x : WorldValue). staged x u) is ∙ ap (λ (x : TraceValue). staged l x) same

-- what cannot happen leads nowhere
pub leads_still : (e : Event) (k m : Staged) → can e k.world ≡ false → Leading (e ∷ []) k m → Leading [] k m
leads_still e k m never h = record {
  is = h.is ∙ ap (λ (x : World). stage k.setup x m.trace) (not_done e k.world never);
  traces = λ kept. let one = h.traces kept in (
    one.0,
    λ last.
        let all : TracesAll (e ∷ []) k.world k.trace m.trace = one.1 last in record {
          taken = all.taken ∙ ap (λ (x : World). x.server.server.last) (not_done e k.world never);
          text = all.text ∙ ap (λ (xs : List ℕ). k.trace.text ++ xs) (not_traced e k.world never);
        },
  );
}

pub leads_end : (l k m : Staged) (es : List Event) → Leading es l k → Leading [] k m → Leading es l m
leads_end l k m es first then = subst (λ (xs : List Event). Leading xs l m) (no_more es) (leads_more l k m es [] first then)
  where
    no_more : (xs : List Event) → xs ++ [] ≡ xs
    no_more xs = append-nil xs

-- so far
abbrev pub Going : Event → Bool → World → List Event → Type 0
Going e cut w es = AreWhile e true w es

-- the world after the first of them
first : (e f : Event) (w : World) → f ≡ e → can e w ≡ true → after f w ≡ happens e w
first e f w is may = ap (λ (x : Event). after x w) is ∙ done_now e w may

while_more : (e : Event) (w : World) (es : List Event) → AreWhile e true w es
    → can e (run_of es w) ≡ true → AreWhile e true w (es ++ e ∷ [])
while_more e w [] h may = (refl, may, tt)
while_more e w (f ∷ fs) h may = (
  h.0,
  h.1,
  while_more e (happens e w) fs h.2
      (subst (λ (x : World). can e (run_of fs x) ≡ true) (first e f w h.0 h.1) may),
)

while_ends : (e : Event) (w : World) (es : List Event) → AreWhile e true w es
    → can e (run_of es w) ≡ false → AreWhile e false w es
while_ends e w [] h never = never
while_ends e w (f ∷ fs) h never = (
  h.0,
  h.1,
  while_ends e (happens e w) fs h.2
      (subst (λ (x : World). can e (run_of fs x) ≡ false) (first e f w h.0 h.1) never),
)

pub going_more : (e : Event) (b : Bool) (l k m : Staged) → Makes (Going e) false (Some b) l k
    → can e k.world ≡ true → Leading (e ∷ []) k m → Makes (Going e) false (Some true) l m
going_more e b l k m h may is = record {
  events = h.events ++ e ∷ [];
  made = while_more e l.world h.events h.made (subst (λ (x : Staged). can e x.world ≡ true) h.leads.is may);
  leads = leads_more l k m h.events (e ∷ []) h.leads is;
  told_is = any_more h.events e;
}

pub going_ends : (e : Event) (b : Bool) (l k m : Staged) → Makes (Going e) false (Some b) l k
    → can e k.world ≡ false → Leading (e ∷ []) k m → Makes (AreWhile e) false (Some b) l m
going_ends e b l k m h never is = record {
  events = h.events;
  made = while_ends e l.world h.events h.made (subst (λ (x : Staged). can e x.world ≡ false) h.leads.is never);
  leads = leads_end l k m h.events h.leads (leads_still e k m never is);
  told_is = h.told_is;
}
