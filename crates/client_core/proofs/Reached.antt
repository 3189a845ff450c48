-- What a client's calls lead to.
use Rattle.client_core.proofs.Names.{[], ◌++◌, ◌∙◌, ◌∷◌, ◌≡◌, ◌≤◌, Abort, after_next, AllByRecursion, ap, are_ours, behind_call, behind_calls, Bool}
use Rattle.client_core.proofs.Names.{Call, CanBeWritten, Client, client_aborted, client_connected, client_left, client_restarted, client_resumed}
use Rattle.client_core.proofs.Names.{client_sent, ClientEnd, command_bytes, cond, Connected, connection_most, count_open, done_by, drop, due}
use Rattle.client_core.proofs.Names.{end_read, false, false≢true, Feature, fed, Feed, FitsState, Framing, FramingFault, front_read, HaveOrigins}
use Rattle.client_core.proofs.Names.{is_faulted, is_some, IsConnection, IsProgram, IsQuiet, IsReached, le-leb, Leave, length, line_read, List}
use Rattle.client_core.proofs.Names.{may_abort, may_connect, may_read, may_resume, Meaning, new_client, new_client_end, next_of, no_bytes, None, Ok}
use Rattle.client_core.proofs.Names.{plans_begun, possible, ReadOne, refl, response_of, Restart, Resume, Send, Sent, Some, subst, sym, true, ℕ}
use Rattle.client_core.proofs.Always.{IsSteady, IsSound, sound, Reads, reads_by}
use Rattle.client_core.proofs.Fits.{ours_writable}
use Rattle.client_core.proofs.Runs.{behind_holds, Holds}

-- ---- one call more

calls_more : (calls : List Call) (call : Call) (e : ClientEnd)
    → behind_calls (calls ++ call ∷ []) e ≡ behind_call call (behind_calls calls e)
calls_more [] call e = refl
calls_more (x ∷ calls) call e = calls_more calls call (behind_call x e)

called : (call : Call) (e : ClientEnd) (b : Bool) → possible call e ≡ b → b ≡ true
    → cond b (done_by call e) e ≡ done_by call e
called call e true is may = refl
called call e false is may = absurd (false≢true may)

pub reached_more : (e f : ClientEnd) (call : Call) → IsReached e → possible call e ≡ true
    → (f ≡ done_by call e) → IsReached f
reached_more e f call h may is =
    subst IsReached (sym (is)) (record {
      program = h.program;
      is_program = h.is_program;
      kept = h.kept;
      ours = h.ours;
      window = h.window;
      some = h.some;
      few = h.few;
      calls = h.calls ++ call ∷ [];
      reached =
          sym (called call e (possible call e) refl may)
          ∙ (ap (behind_call call) h.reached ∙ sym (calls_more h.calls call
          (new_client_end h.program h.kept h.window)));
    })

-- a client and its bytes
abbrev pub end_of : Client → Framing → List ℕ → ClientEnd
end_of client input out = record { client = client; input = input; out = out }

parts_are : (client after : Client) (input now : Framing) (out written : List ℕ) → after ≡ client → now ≡ input → written ≡ out
    → end_of after now written ≡ end_of client input out
parts_are client after input now out written c i o = ap (λ (x : Client). end_of x now written) c
    ∙ (ap (λ (x : Framing). end_of client x written) i ∙ ap (λ (x : List ℕ). end_of client input x) o)

-- ---- each call

pub new_reached : (program : Meaning) (kept : List Feature) (window : ℕ) (client : Client) (input : Framing) (out : List ℕ)
    → IsProgram program → are_ours program.features kept ≡ true → 1 ≤ window → window ≤ 16
    → client ≡ new_client program kept window → input ≡ no_bytes → out ≡ [] → IsReached (end_of client input out)
new_reached program kept window client input out is_program ours some few c i o =
    subst IsReached (sym (parts_are (new_client program kept window) client no_bytes input [] out c i o)) (record {
      program = program;
      is_program = is_program;
      kept = kept;
      ours = ours;
      window = window;
      some = some;
      few = few;
      calls = [];
      reached = refl;
    })

pub same_reached : (client after : Client) (input now : Framing) (out written : List ℕ) → IsReached (end_of client input out)
    → after ≡ client → now ≡ input → written ≡ out → IsReached (end_of after now written)
same_reached client after input now out written h c i o = subst IsReached (sym (parts_are client after input now out written c i o)) h

pub connected_reached : (number : ℕ) (client after : Client) (input now : Framing) (out written : List ℕ)
    → IsReached (end_of client input out) → may_connect number client ≡ true
    → after ≡ client_connected number client → now ≡ no_bytes → written ≡ [] → IsReached (end_of after now written)
connected_reached number client after input now out written h may c i o =
    reached_more (end_of client input out) (end_of after now written) (Connected number) h may
    (parts_are (client_connected number client) after no_bytes now [] written c i o)

pub sent_reached : (client after : Client) (input : Framing) (out written : List ℕ) → IsReached (end_of client input out)
    → is_some (due client) ≡ true
    → after ≡ (client_sent client).client → written ≡ out ++ command_bytes (client_sent client).lines
    → IsReached (end_of after input written)
sent_reached client after input out written h may c o =
    reached_more (end_of client input out) (end_of after input written) Send h may
    (parts_are (client_sent client).client after input input (out ++ command_bytes (client_sent client).lines) written c refl
    o)

pub aborted_reached : (client after : Client) (input : Framing) (out written : List ℕ) → IsReached (end_of client input out)
    → may_abort client.state ≡ true
    → after ≡ (client_aborted client).client → written ≡ out ++ command_bytes (client_aborted client).lines
    → IsReached (end_of after input written)
aborted_reached client after input out written h may c o =
    reached_more (end_of client input out) (end_of after input written) Abort h may
    (parts_are (client_aborted client).client after input input (out ++ command_bytes (client_aborted client).lines) written
    c refl o)

pub fed_reached : (bytes : List ℕ) (client : Client) (input now : Framing) (out : List ℕ) → IsReached (end_of client input out)
    → may_read client ≡ true
    → now ≡ fed input bytes → IsReached (end_of client now out)
fed_reached bytes client input now out h may i =
    reached_more (end_of client input out) (end_of client now out) (Feed bytes) h may
    (ap (λ (x : Framing). end_of client x out) i)

pub read_reached : (client : Client) (input : Framing) (out : List ℕ) (f : ClientEnd) → IsReached (end_of client input out)
    → may_read client ≡ true
    → (f ≡ end_read (end_of client input out)) → IsReached f
read_reached client input out f h may is = reached_more (end_of client input out) f ReadOne h may is

-- a line is read
pub line_reached : (client after : Client) (input now : Framing) (out line rest : List ℕ) → IsReached (end_of client input out)
    → may_read client ≡ true
    → next_of input.rest ≡ Ok (Some (line, rest)) → (after ≡ line_read client (response_of line))
    → now ≡ after_next input → IsReached (end_of after now out)
line_reached client after input now out line rest h may front is left =
    read_reached client input out (end_of after now out) h may
    (parts_are (front_read client (next_of input.rest)) after (after_next input) now out out
    (is ∙ ap (front_read client) (sym front)) left refl)

pub resumed_reached : (client after : Client) (input : Framing) (out : List ℕ) → IsReached (end_of client input out)
    → may_resume client client.state ≡ true
    → after ≡ client_resumed client → IsReached (end_of after input out)
resumed_reached client after input out h may c =
    reached_more (end_of client input out) (end_of after input out) Resume h may (ap (λ (x : Client). end_of x input out) c)

pub left_reached : (client after : Client) (input now : Framing) (out written : List ℕ) → IsReached (end_of client input out)
    → after ≡ client_left client → now ≡ no_bytes → written ≡ [] → IsReached (end_of after now written)
left_reached client after input now out written h c i o =
    reached_more (end_of client input out) (end_of after now written) Leave h refl
    (parts_are (client_left client) after no_bytes now [] written c i o)

pub restarted_reached : (count : ℕ) (client after : Client) (input now : Framing) (out written : List ℕ)
    → IsReached (end_of client input out) → count ≤ length client.table.tally.features
    → after ≡ client_restarted count client → now ≡ no_bytes → written ≡ [] → IsReached (end_of after now written)
restarted_reached count client after input now out written h le c i o =
    reached_more (end_of client input out) (end_of after now written) (Restart count) h
    (le-leb count (length client.table.tally.features) le)
    (parts_are (client_restarted count client) after no_bytes now [] written c i o)

pub taken_reached : (count : ℕ) (client : Client) (input : Framing) (out written : List ℕ) → IsReached (end_of client input out)
    → count ≤ length out
    → written ≡ drop count out → IsReached (end_of client input written)
taken_reached count client input out written h le o =
    reached_more (end_of client input out) (end_of client input written) (Sent count) h (le-leb count (length out) le)
    (ap (λ (x : List ℕ). end_of client input x) o)

-- ---- what holds at any time

pub fits_state : (e : ClientEnd) → IsReached e → FitsState e.client.state e.client.on
fits_state e h = IsSteady.connected (IsSound.steady (sound e h))

pub has_cause : (e : ClientEnd) → IsReached e → is_some e.client.cause ≡ is_faulted e.client.state
has_cause e h = IsSteady.cause (IsSound.steady (sound e h))

pub window_some : (e : ClientEnd) → IsReached e → 1 ≤ e.client.window
window_some e h = IsSteady.some (IsSound.steady (sound e h))

pub window_few : (e : ClientEnd) → IsReached e → e.client.window ≤ 16
window_few e h = IsSteady.few (IsSound.steady (sound e h))

pub last_within : (e : ClientEnd) → IsReached e → e.client.last ≤ connection_most
last_within e h = IsSteady.last (IsSound.steady (sound e h))

-- where it reads, its connection has a number
pub reads_numbered : (client : Client) (input : Framing) (out : List ℕ) → IsReached (end_of client input out) → may_read client ≡ true
    → IsConnection client.last
reads_numbered client input out h may = (
  IsSteady.numbered (IsSound.steady (sound (end_of client input out) h)) (Reads.on (reads_by client may)),
  last_within (end_of client input out) h,
)

pub open_within : (e : ClientEnd) → IsReached e → count_open e.client.table.standard ≤ e.client.window
open_within e h = IsSteady.opened (IsSound.steady (sound e h))

pub off_is_quiet : (e : ClientEnd) → IsReached e → e.client.on ≡ false → IsQuiet e
off_is_quiet e h = IsSound.quiet (sound e h)

pub no_fault_unmet : (e : ClientEnd) → IsReached e → is_faulted e.client.state ≡ false → e.input.fault ≡ None
no_fault_unmet e h = IsSound.unmet (sound e h)

-- where it reads, no fault was met in its bytes
pub never_met : (client : Client) (input : Framing) (out : List ℕ) (fault : FramingFault) → IsReached (end_of client input out)
    → may_read client ≡ true → input.fault ≡ Some fault → ⊥
never_met client input out fault h may met = let none = no_fault_unmet (end_of client input out) h (Reads.awake (reads_by client may))
    in let is : None ≡ Some fault = sym none ∙ met in absurd (cc)

holds : (e : ClientEnd) → (h : IsReached e) → Holds h.program e.client (plans_begun h.calls h.program h.kept h.window)
holds e h = subst (λ (c : Client). Holds h.program c (plans_begun h.calls h.program h.kept h.window))
    (sym (ap (λ (x : ClientEnd). x.client) h.reached))
    (behind_holds h.program h.kept h.window h.calls h.is_program h.ours)

pub features_ours : (e : ClientEnd) → IsReached e → are_ours e.client.program.features e.client.table.tally.features ≡ true
features_ours e h = Holds.ours (holds e h)

pub features_writable : (e : ClientEnd) → IsReached e → HaveOrigins e.client.table.tally.features
    → AllByRecursion CanBeWritten e.client.table.tally.features
features_writable e h origins = ours_writable e.client.program.features e.client.table.tally.features
    (IsProgram.features (subst IsProgram (sym (Holds.same (holds e h))) h.is_program)) (features_ours e h) origins
