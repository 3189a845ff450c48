use Rattle.std.proofs.Common.{◌≡◌, ◌++◌, drop, map}
use Rattle.contact_ledger.specs.Lines.{text_of}
use Rattle.contact_ledger.specs.ContactTexts.{act_line}
use Rattle.services.specs.Files.{AreSame}
use Rattle.services.proofs.contacts.Contacts.follow.Given as goal

-- what is to be written, and the lines that are left
abbrev pub invariant-loop-connection : goal.invariant-loop-connection
invariant-loop-connection l = record {
  text : l.self.text.items ++ text_of (map act_line (drop l.connection-index l.connection-items))
      ≡ l.fn.self.text.items ++ text_of (map act_line l.connection-items);
  same : AreSame l.fn.self l.self;
}
