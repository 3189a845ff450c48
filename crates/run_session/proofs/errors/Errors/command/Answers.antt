use Rattle.run_session.proofs.Names.{◌++◌, ◌∙◌, ◌≡◌, ap, codes, drop, length, List, None, Option, Some, subst, sym, ℕ}
use Rattle.std.specs.Prelude.{IfOk, min, string_bytes}
use Rattle.run_session.proofs.Touches.{drop_min}
use Rattle.dme_line.specs.Kinds.{kind_name}
use Rattle.dmis_program.specs.declared.features.Wanted.{Wanted}
use Rattle.run_session.specs.Errors.{command_text, statement_text, Talk, touch_of}
use Rattle.session_telling.specs.Places.{line_of}
use Rattle.session_telling.specs.declared.sessions.Sent.{Sent}
use Rattle.run_session.proofs.errors.Errors.command.Goals as goal

-- the text about a command with the line of a statement, or without one
about : (fs : List Wanted) (lines at : List (Option ℕ)) (o : Option Sent) (s : Sent) (line read : Option ℕ) → o ≡ Some s → at ≡ lines
    → read ≡ line_of at s → read ≡ line
    → command_text fs lines o ≡ statement_text line (touch_of fs s.kind s.touches) (kind_name s.kind ++ codes " refused: ")
about fs lines at o s line read is same reads gives = ap (command_text fs lines) is
    ∙ ap (λ (l : Option ℕ). statement_text l (touch_of fs s.kind s.touches) (kind_name s.kind ++ codes " refused: "))
    (ap (λ (l : List (Option ℕ)). line_of l s) (sym same) ∙ (sym reads ∙ gives))

asked : (fs out : List Wanted) (k n kept : ℕ) → out ≡ drop k fs → k ≡ min n (length fs) → n ≡ kept → out ≡ drop kept fs
asked fs out k n kept is least same = is ∙ ap (λ (k : ℕ). drop k fs) least ∙ drop_min n fs ∙ ap (λ (k : ℕ). drop k fs) same

pub returns-in_default-line_of : goal.returns-in_default-line_of
returns-in_default-line_of c = subst (λ (x : List ℕ). IfOk c.format.result (λ text. string_bytes text ≡ x))
    (ap (λ (k : List ℕ). k ++ codes " refused: ") c.kind_text-kind.ensures
    ∙ sym (about (drop c.args.self.now.kept c.args.program.now) c.args.self.now.lines c.as_slice.result.now c.args.about c.in-Some.sent None c.line_of.result
    c.in-Some.is (c.as_slice.ensures.value ∙ ap (λ (t : Talk). t.lines) c.self.view_is) c.line_of.ensures c.in_default-line_of.is)) c.format.ensures.ok

pub returns : goal.returns
returns c = subst (λ (x : List ℕ). IfOk c.format-2.result (λ text. string_bytes text ≡ x))
    (ap (λ (t : List ℕ). statement_text (Some c.in-Some-line_of.line) t (c.kind_text-kind.result.now ++ codes " refused: "))
    (c.in_ok-touch.ensures ∙ ap (λ (fs : List Wanted). touch_of fs c.in-Some.sent.kind c.in-Some.sent.touches)
    (asked c.args.program.now c.split_at.result.1.now c.min.result c.self.inside.kept c.args.self.now.kept c.split_at.ensures.back c.min.ensures
    (ap (λ (t : Talk). t.kept) c.self.view_is)))
    ∙ (ap (λ (k : List ℕ). statement_text (Some c.in-Some-line_of.line)
    (touch_of (drop c.args.self.now.kept c.args.program.now) c.in-Some.sent.kind c.in-Some.sent.touches) (k ++ codes " refused: ")) c.kind_text-kind.ensures
    ∙ sym (about (drop c.args.self.now.kept c.args.program.now) c.args.self.now.lines c.as_slice.result.now c.args.about c.in-Some.sent
    (Some c.in-Some-line_of.line) c.line_of.result
    c.in-Some.is (c.as_slice.ensures.value ∙ ap (λ (t : Talk). t.lines) c.self.view_is) c.line_of.ensures c.in-Some-line_of.is))) c.format-2.ensures.ok
