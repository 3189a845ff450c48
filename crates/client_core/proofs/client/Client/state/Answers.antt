use Rattle.client_core.proofs.Names.{◌≡◌, ◌≤◌, are_ours, ClientEnd, connection_most, count_open, false, FitsState, is_faulted, is_some, IsQuiet}
use Rattle.client_core.proofs.Names.{IsReached, None, subst, true}
use Rattle.client_core.proofs.Reached.{fits_state, has_cause, window_some, window_few, open_within, last_within, features_ours}
use Rattle.client_core.proofs.Reached.{off_is_quiet, no_fault_unmet}
use Rattle.client_core.proofs.client.Client.state.Goals as goal

pub returns-clause-reached : goal.returns-clause-reached
returns-clause-reached c = subst IsReached c.self.view_is c.self.invariant

pub returns-clause-on : goal.returns-clause-on
returns-clause-on c = subst (λ (e : ClientEnd). FitsState e.client.state e.client.on) c.self.view_is (fits_state _ c.self.invariant)

pub returns-clause-cause : goal.returns-clause-cause
returns-clause-cause c = subst (λ (e : ClientEnd). is_some e.client.cause ≡ is_faulted e.client.state) c.self.view_is
    (has_cause _ c.self.invariant)

pub returns-clause-window_some : goal.returns-clause-window_some
returns-clause-window_some c = subst (λ (e : ClientEnd). 1 ≤ e.client.window) c.self.view_is (window_some _ c.self.invariant)

pub returns-clause-window_few : goal.returns-clause-window_few
returns-clause-window_few c = subst (λ (e : ClientEnd). e.client.window ≤ 16) c.self.view_is (window_few _ c.self.invariant)

pub returns-clause-open : goal.returns-clause-open
returns-clause-open c = subst (λ (e : ClientEnd). count_open e.client.table.standard ≤ e.client.window) c.self.view_is
    (open_within _ c.self.invariant)

pub returns-clause-last : goal.returns-clause-last
returns-clause-last c = subst (λ (e : ClientEnd). e.client.last ≤ connection_most) c.self.view_is (last_within _ c.self.invariant)

pub returns-clause-ours : goal.returns-clause-ours
returns-clause-ours c = subst (λ (e : ClientEnd). are_ours e.client.program.features e.client.table.tally.features ≡ true) c.self.view_is
    (features_ours _ c.self.invariant)

pub returns-clause-quiet : goal.returns-clause-quiet
returns-clause-quiet c = subst (λ (e : ClientEnd). e.client.on ≡ false → IsQuiet e) c.self.view_is (off_is_quiet _ c.self.invariant)

pub returns-clause-unmet : goal.returns-clause-unmet
returns-clause-unmet c = subst (λ (e : ClientEnd). is_faulted e.client.state ≡ false
    → e.input.fault ≡ None) c.self.view_is (no_fault_unmet _ c.self.invariant)
