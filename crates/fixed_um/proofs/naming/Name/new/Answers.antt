use Rattle.fixed_um.proofs.Names.{◌≡◌, and_from, folded, is_name_byte, is_name_text, le-leb, length, list_all, rules, true}
use Rattle.fixed_um.proofs.NameLemmas.{name-from_folded}
use Rattle.fixed_um.proofs.naming.Name.new.Goals as goal

pub invariant_of-result : goal.invariant_of-result
invariant_of-result c =
    let text = c.args.text.now in
    let found : (c.in-Some.bytes.items ≡ folded text) × (list_all is_name_byte text ≡ true) = search rules in
    let named : is_name_text text ≡ true =
    and_from _ _ (le-leb 1 (length text) c.if-text-lt1.false) (and_from _ _ (le-leb (length text) 64 c.if-text-gt64.false) found.1) in
    rw (c.in_ok-bytes-2.ensures, found.0) (name-from_folded text named)
