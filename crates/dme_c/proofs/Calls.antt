-- What a call does follows from the three equations that handles and numbers give.
use Rattle.dme_c.proofs.Names.{◌≡◌, CalledBoth, ClientEnd, Option, RecordValue, Result, Some, subst, sym}
use Rattle.dme_c.specs.Calls.{Called}
use Rattle.client_core.specs.declared.faults.ClientFault.{ClientFault}

pub called : {E A : Type 0} (Did : E → E → A → Type 0) {o n : Option E} {d : Option A} {old new : E} {answer : A}
    → o ≡ Some old → n ≡ Some new → d ≡ Some answer → Did old new answer → Called o n d Did
called Did {n = n} {d = d} {old = old} {new = new} o_is n_is d_is did =
    subst (λ o'. Called o' n d Did) (sym o_is) (subst (λ n'. Called (Some old) n' d Did) (sym n_is)
    (subst (λ d'. Called (Some old) (Some new) d' Did) (sym d_is) did))

-- likewise if the call borrowed what the handle held
pub called_lent : {E A : Type 0} (Did : E → E → A → Type 0) {o n : Option E} {d : Option A} {old lent new : E} {answer : A}
    → o ≡ Some old → lent ≡ old → n ≡ Some new → d ≡ Some answer → Did lent new answer → Called o n d Did
called_lent Did {new = new} {answer = answer} o_is lent_is n_is d_is did =
    called Did o_is n_is d_is (subst (λ old'. Did old' new answer) lent_is did)

-- likewise for a call with a client and its record
pub called_both : (Did : ClientEnd → ClientEnd → RecordValue → RecordValue → Result (Unit {0}) ClientFault → Type 0)
    → {o n : Option ClientEnd} {ro rn : Option RecordValue} {d : Option (Result (Unit {0}) ClientFault)}
    {old lent new : ClientEnd} {r_old r_lent r_new : RecordValue} {answer : Result (Unit {0}) ClientFault}
    → o ≡ Some old → lent ≡ old → n ≡ Some new → ro ≡ Some r_old → r_lent ≡ r_old → rn ≡ Some r_new → d ≡ Some answer
    → Did lent new r_lent r_new answer → CalledBoth o n ro rn d Did
called_both Did {o} {n} {ro} {rn} {d} {old} {lent} {new} {r_old} {r_lent} {r_new} {answer} o_is lent_is n_is ro_is r_lent_is rn_is d_is did =
    subst (λ x. CalledBoth x n ro rn d Did) (sym o_is) (subst (λ x. CalledBoth (Some old) x ro rn d Did) (sym n_is)
    (subst (λ x. CalledBoth (Some old) (Some new) x rn d Did) (sym ro_is)
    (subst (λ x. CalledBoth (Some old) (Some new) (Some r_old) x d Did) (sym rn_is)
    (subst (λ x. CalledBoth (Some old) (Some new) (Some r_old) (Some r_new) x Did) (sym d_is)
    (subst (λ x. Did x new r_old r_new answer) lent_is (subst (λ x. Did lent new x r_new answer) r_lent_is did))))))
