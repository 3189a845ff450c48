use Rattle.dme_orders.proofs.Names.{◌∙◌, ◌≡◌, false, inl, inr, List, refl, rules, string_bytes, subst}
use Rattle.client_core.specs.Clients.{are_ours}
use Rattle.contact_ledger.specs.declared.features.Feature.{Feature}
use Rattle.dme_orders.proofs.OrderLemmas.{first_why, no_room, refuses, stops_at, torn_as}
use Rattle.dme_orders.proofs.reporting.report_record.Goals as goal

pub returns-in_err-ranges : goal.returns-in_err-ranges
returns-in_err-ranges g c = stops_at _ _ _ _ c.in_err-ranges.field-0.0 c.from_residual.result (search rules) (inl c.in_err-ranges.ensures.err) refl

pub returns-in_err-of_program : goal.returns-in_err-of_program
returns-in_err-of_program g c = refuses _ _ _ _ c.in_err-of_program.field-0.0 c.from_residual-in_err-of_program.result (search rules) (record {
  limits = c.in_ok-ranges.ranges;
  input = record {
    seals = c.in_ok-ranges.seals;
    digest = string_bytes c.in_ok-ranges.digest;
    files = record { setup = c.in_ok-ranges.ensures.ok.0; held = c.in_ok-ranges.held; program = c.in_ok-ranges.program };
  };
})
    c.in_ok-ranges.ensures.ok.1 refl (first_why (λ no. inr (inl (record {
      label = no.0;
      is = no.1;
      input = record { setup = c.in_ok-ranges.ensures.ok.0; held = c.in_ok-ranges.held; program = c.in_ok-ranges.program };
      read = c.in_ok-ranges.ensures.ok.1.1.read;
      other = no.2;
    }))) c.in_err-of_program.ensures.other)

pub returns-in_err-texts : goal.returns-in_err-texts
returns-in_err-texts g c = no_room _ _ _ _ c.from_residual-in_err-texts.result (search rules) (record {
  limits = c.in_ok-ranges.ranges;
  input = record {
    seals = c.in_ok-ranges.seals;
    digest = string_bytes c.in_ok-ranges.digest;
    files = record { setup = c.in_ok-ranges.ensures.ok.0; held = c.in_ok-ranges.held; program = c.in_ok-ranges.program };
  };
})
    c.in_ok-ranges.ensures.ok.1 refl

pub returns-in_err-missing : goal.returns-in_err-missing
returns-in_err-missing g c = refuses _ _ _ _ c.in_err-missing.field-0.0 c.from_residual-in_err-missing.result (search rules) (record {
  limits = c.in_ok-ranges.ranges;
  input = record {
    seals = c.in_ok-ranges.seals;
    digest = string_bytes c.in_ok-ranges.digest;
    files = record { setup = c.in_ok-ranges.ensures.ok.0; held = c.in_ok-ranges.held; program = c.in_ok-ranges.program };
  };
})
    c.in_ok-ranges.ensures.ok.1 refl (first_why (λ no. inr (inr (record {
      is = no.0;
      input = record { setup = c.in_ok-ranges.ensures.ok.0; held = c.in_ok-ranges.held; program = c.in_ok-ranges.program };
      read = c.in_ok-ranges.ensures.ok.1.1.read;
      not_ours = subst (λ (fs : List Feature). are_ours c.in_ok-ranges.program.features fs ≡ false)
          (c.list.ensures.0 ∙ c.parts_of-features.ensures.features) no.1;
    }))) c.in_err-missing.ensures.refused)

pub returns-in_err-write_text : goal.returns-in_err-write_text
returns-in_err-write_text g c = torn_as _ _ _ _ c.from_residual-in_err-write_text.result (search rules) (record {
  input = record {
    limits = c.in_ok-ranges.ranges;
    input = record {
      seals = c.in_ok-ranges.seals;
      digest = string_bytes c.in_ok-ranges.digest;
      files = record { setup = c.in_ok-ranges.ensures.ok.0; held = c.in_ok-ranges.held; program = c.in_ok-ranges.program };
    };
  };
  read = c.in_ok-ranges.ensures.ok.1;
  end = c.in_ok-missing.missing;
  text = c.as_slice.result.now;
  leaves = record { same = search rules; is = search rules; lacks = search rules };
  front = search rules;
  fails = search rules;
})

pub returns : goal.returns
returns g c = record {
  input = record {
    limits = c.in_ok-ranges.ranges;
    input = record {
      seals = c.in_ok-ranges.seals;
      digest = string_bytes c.in_ok-ranges.digest;
      files = record { setup = c.in_ok-ranges.ensures.ok.0; held = c.in_ok-ranges.held; program = c.in_ok-ranges.program };
    };
  };
  read = c.in_ok-ranges.ensures.ok.1;
  text = c.as_slice.result.now;
  leaves = record { same = search rules; is = search rules; lacks = search rules };
  written = search rules;
  works = inl (search rules);
}
