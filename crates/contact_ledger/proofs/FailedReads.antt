-- A fault that is handed on is the fault of the whole text.
use Rattle.contact_ledger.proofs.Names.{◌≡◌, Err, IsErr, IsErrAnd, Ok, ReadsFault, ReadsText, Result, subst, sym, TextFault, ℕ}

pub failed_read : {A : Type 0} (r : Result A TextFault) (fault : TextFault) (Is : A → Type 0) (IsDue : ℕ → Type 0) → IsErr r
    → IsErrAnd r (λ e. e ≡ fault) → ReadsFault IsDue fault → ReadsText Is IsDue r
failed_read (Ok x) fault Is IsDue e s h = absurd cc
failed_read (Err f) fault Is IsDue e s h = subst (λ (x : TextFault). ReadsFault IsDue x) (sym s) h
