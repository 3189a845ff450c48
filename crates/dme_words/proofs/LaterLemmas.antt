-- Which values the last ten subcommands have, by their names.
use Rattle.dme_words.proofs.Names.{[], ◌∷◌, ◌≡◌, App, bytes_eq, codes, find, Has, inl, inr, IsLaterAskable, List, lower_line, None, Option, report_line}
use Rattle.dme_words.proofs.Names.{Row, run_line, serve_line, Some, subst, sym, Text, watch_line}

abbrev HasIfThere : Option App → List Row → Type 0
HasIfThere None rows = Unit {0}
HasIfThere (Some line) rows = Has line rows

-- what the subcommand of this name has, if it is one of five
abbrev HasNamed : List Row → Text → Type 0
HasNamed rows name = HasIfThere (find (λ (line : App). bytes_eq line.top.name name) (serve_line ∷ run_line ∷ watch_line ∷ lower_line ∷ report_line ∷ [])) rows

by_name : (p : Text × List Row) → IsLaterAskable p → HasNamed p.1 p.0
by_name p (inl (is, has)) = subst (HasNamed p.1) (sym is) has
by_name p (inr (inl (is, has))) = subst (HasNamed p.1) (sym is) has
by_name p (inr (inr (inl (is, has)))) = subst (HasNamed p.1) (sym is) tt
by_name p (inr (inr (inr (inl (is, has))))) = subst (HasNamed p.1) (sym is) tt
by_name p (inr (inr (inr (inr (inl is))))) = subst (HasNamed p.1) (sym is) tt
by_name p (inr (inr (inr (inr (inr (inl (is, has))))))) = subst (HasNamed p.1) (sym is) tt
by_name p (inr (inr (inr (inr (inr (inr (inl (is, has)))))))) = subst (HasNamed p.1) (sym is) tt
by_name p (inr (inr (inr (inr (inr (inr (inr (inl (is, has))))))))) = subst (HasNamed p.1) (sym is) has
by_name p (inr (inr (inr (inr (inr (inr (inr (inr (inl (is, has)))))))))) = subst (HasNamed p.1) (sym is) has
by_name p (inr (inr (inr (inr (inr (inr (inr (inr (inr (is, has)))))))))) = subst (HasNamed p.1) (sym is) has

pub has_service : (p : Text × List Row) → IsLaterAskable p → p.0 ≡ codes "serve" → Has serve_line p.1
has_service p askable serve = subst (HasNamed p.1) serve (by_name p askable)

pub has_run : (p : Text × List Row) → IsLaterAskable p → p.0 ≡ codes "run" → Has run_line p.1
has_run p askable run = subst (HasNamed p.1) run (by_name p askable)

pub has_watch : (p : Text × List Row) → IsLaterAskable p → p.0 ≡ codes "watch" → Has watch_line p.1
has_watch p askable watch = subst (HasNamed p.1) watch (by_name p askable)

pub has_lower : (p : Text × List Row) → IsLaterAskable p → p.0 ≡ codes "lower" → Has lower_line p.1
has_lower p askable lower = subst (HasNamed p.1) lower (by_name p askable)

pub has_report : (p : Text × List Row) → IsLaterAskable p → p.0 ≡ codes "report" → Has report_line p.1
has_report p askable report = subst (HasNamed p.1) report (by_name p askable)
