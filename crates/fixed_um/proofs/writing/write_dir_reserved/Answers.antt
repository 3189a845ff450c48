use Rattle.fixed_um.proofs.Names.{◌∙◌, ◌≡◌, ap, append_assoc, Direction, FitsSigned, of_z, refl, rules, to_z, to_z-of_z, w32, w64, ℤ}
use Rattle.fixed_um.proofs.writing.write_dir_reserved.Goals as goal

-- a component that is widened and handed on is the component
widened : (wide narrow component : ℤ) → FitsSigned w64 wide → FitsSigned w32 narrow → wide ≡ to_z w32 (of_z w32 narrow)
    → narrow ≡ component → to_z w64 (of_z w64 wide) ≡ component
widened wide narrow component fits fits_narrow is same =
    to_z-of_z w64 wide fits ∙ is ∙ to_z-of_z w32 narrow fits_narrow ∙ same

pub returns-clause-text : goal.returns-clause-text
returns-clause-text c =
    let is_i = widened _ _ _ (search rules) (search rules) c.from.ensures (ap (λ (d : Direction). d.i) c.direction.view_is) in
    let is_j = widened _ _ _ (search rules) (search rules) c.from-2.ensures (ap (λ (d : Direction). d.j) c.direction.view_is) in
    let is_k = widened _ _ _ (search rules) (search rules) c.from-3.ensures (ap (λ (d : Direction). d.k) c.direction.view_is) in
    rw (
      c.write_component_reserved-3.ensures.text,
      c.extend_from_slice-2.ensures.items,
      c.unwrap-2.ensures,
      c.write_component_reserved-2.ensures.text,
      c.extend_from_slice.ensures.items,
      c.unwrap.ensures,
      c.write_component_reserved.ensures.text,
    )
    (simp (append_assoc, is_i, is_j, is_k) refl)
