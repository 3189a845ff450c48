use Rattle.dmis_text.proofs.elements.Text.element.Goals as goal

pub is_as_handed_out-requires : goal.is_as_handed_out-requires
is_as_handed_out-requires c = λ capitals. c.trimmed-kept.ensures.folded (c.requires capitals)
