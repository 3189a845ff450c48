-- What callers see of a client: when each call is possible, and whose features it may keep (this profile).
use Rattle.std.specs.Prelude.{ℕ, ◌==◌, nat_lt, nat_le, Bool, true, false, not, ◌&&◌, List, [], ◌∷◌, length, bytes_eq}
use Rattle.contact_ledger.specs.Ledgers.{connection_most}
use Rattle.contact_ledger.specs.declared.features.Feature.{Feature}
use Rattle.dmis_program.specs.declared.features.Wanted.{Wanted}
use Rattle.protocol_model.specs.Client.{Client}
use Rattle.protocol_model.specs.declared.states.State.{State}

-- a feature has the label of a wanted one, and as many points as that has touches
abbrev pub is_ours : Wanted → Feature → Bool
is_ours w f = bytes_eq f.label w.label && (length f.points == length w.touches)

-- features are the first of the wanted ones, by labels and counts
abbrev pub are_ours : List Wanted → List Feature → Bool
are_ours ws [] = true
are_ours [] (f ∷ fs) = false
are_ours (w ∷ ws) (f ∷ fs) = is_ours w f && are_ours ws fs

-- how many commands a client may keep open at most
abbrev pub window_most : ℕ
window_most = 16

-- a window is from 1 to that
abbrev pub is_window : ℕ → Bool
is_window window = nat_le 1 window && nat_le window window_most

abbrev pub is_faulted : State → Bool
is_faulted State.Faulted = true
is_faulted _ = false

abbrev pub is_apart : State → Bool
is_apart State.Apart = true
is_apart _ = false

-- a client comes to a connection while it is apart, and to each number once, in rising order
abbrev pub may_connect : ℕ → Client → Bool
may_connect n c = is_apart c.state && (nat_lt c.last n && nat_le n connection_most)

-- a client reads while it is on a connection that it has not left
abbrev pub may_read : Client → Bool
may_read c = c.on && not (is_faulted c.state)
