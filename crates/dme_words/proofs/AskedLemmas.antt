-- Words of `dme` without a fault name one of its subcommands, with the values that it cannot do without.
use Rattle.dme_words.proofs.Names.{[], ◌||◌, ◌∷◌, ◌≡◌, answers_to, ap, App, argument_words, arith, audit_line, Bool, built, bytes_eq}
use Rattle.dme_words.proofs.Names.{bytes_eq-Decides, check_line, codes, cond, entered, entered_fault, explain_line, export_line, false, fault_of}
use Rattle.dme_words.proofs.Names.{find, Has, inl, inr, is_some, IsAskable, IsSomeAnd, judge_line, label_of, leaf, ledger_line, level_fault, List}
use Rattle.dme_words.proofs.Names.{loop_line, lower_line, names_of, None, none-some, nothing_held, Option, option_map, option_map_or, refl, rows_after, rows_at}
use Rattle.dme_words.proofs.Names.{report_line, run_line, serve_line, Shape, simulate_line, Some, subcommand_of, sym, Text, true, true≢false, walk, walk_fault}
use Rattle.dme_words.proofs.Names.{walk_from, watch_line, whole_line}
use Rattle.dme_words.proofs.HelpLemmas.{NotAtHelp, entered_there, first_none, second_none, walk_stops}
use Rattle.dme_words.proofs.FoundLemmas.{level_has}

-- each of these subcommands may be asked for where it answers to the word and has no fault
abbrev Serve : Text → List Text → List Shape → Type 0
Serve word words [] = Unit {0}
Serve word words (s ∷ rest) = (answers_to word (label_of s) ≡ true → level_fault s [] nothing_held words false [] ≡ [] → IsAskable (rows_at s words))
    × Serve word words rest

chosen : (word : Text) (words : List Text) (subs : List Shape) → Serve word words subs
    → is_some (option_map (λ s. rows_at s words) (find (λ s. answers_to word (label_of s)) subs)) ≡ true
    → option_map_or (λ s. level_fault s [] nothing_held words false []) (find (λ s. answers_to word (label_of s)) subs) [] ≡ []
    → IsSomeAnd (option_map (λ s. rows_at s words) (find (λ s. answers_to word (label_of s)) subs)) IsAskable
chosen word words [] serve there none = absurd (true≢false (sym there))
chosen word words (s ∷ rest) serve there none = go (answers_to word (label_of s)) refl there none (chosen word words rest serve.1)
  where
    go : (b : Bool) → answers_to word (label_of s) ≡ b
        → is_some (option_map (λ s. rows_at s words) (cond b (Some s) (find (λ s. answers_to word (label_of s)) rest))) ≡ true
        → option_map_or (λ s. level_fault s [] nothing_held words false []) (cond b (Some s) (find (λ s. answers_to word (label_of s)) rest)) [] ≡ []
        → (is_some (option_map (λ s. rows_at s words) (find (λ s. answers_to word (label_of s)) rest)) ≡ true
        → option_map_or (λ s. level_fault s [] nothing_held words false []) (find (λ s. answers_to word (label_of s)) rest) [] ≡ []
        → IsSomeAnd (option_map (λ s. rows_at s words) (find (λ s. answers_to word (label_of s)) rest)) IsAskable)
        → IsSomeAnd (option_map (λ s. rows_at s words) (cond b (Some s) (find (λ s. answers_to word (label_of s)) rest))) IsAskable
    go true answers there none behind = serve.0 answers none
    go false answers there none behind = behind there none

-- the word of the last subcommand, which is `help`, was not met
no_help : (word : Text) (words : List Text) → NotAtHelp (Some (word, words)) → (bytes_eq (codes "help") word || false) ≡ true → ⊥
no_help word words free answers = go (bytes_eq (codes "help") word) refl answers
  where
    go : (b : Bool) → bytes_eq (codes "help") word ≡ b → (b || false) ≡ true → ⊥
    go true is answers = free words (ap (λ (name : Text). Some (name, words)) (sym ((bytes_eq-Decides (codes "help") word).0 is)))
    go false is answers = true≢false (sym answers)

-- words without a fault give the subcommand what it cannot do without
abbrev Finds : App → Type 0
Finds line = (words : List Text) → level_fault (leaf line) [] nothing_held words false [] ≡ [] → Has line (rows_after (leaf line).rules [] words)

checked : Finds check_line
checked words none = level_has (leaf check_line) words refl
    ((refl, inl (refl, refl)), ((refl, inr (inl (refl, omega arith))), ((refl, inl (refl, refl)), ((refl, inr (inr (inl refl))), tt))))
    none

simulation : Finds simulate_line
simulation words none = level_has (leaf simulate_line) words refl
    ((refl, inl (refl, refl)), ((refl, inl (refl, refl)), ((refl, inl (refl, refl)), ((refl, inr (inl (refl, omega arith))), ((refl, inr (inl (refl, omega arith))), ((refl, inl (refl, refl)), ((refl, inr (inr (inl refl))), tt)))))))
    none

audit : Finds audit_line
audit words none = level_has (leaf audit_line) words refl
    ((refl, inl (refl, refl)), ((refl, inl (refl, refl)), ((refl, inl (refl, refl)), ((refl, inl (refl, refl)), ((refl, inl (refl, refl)), ((refl, inr (inl (refl, omega arith))), ((refl, inl (refl, refl)), ((refl, inr (inr (inl refl))), tt))))))))
    none

loop : Finds loop_line
loop words none = level_has (leaf loop_line) words refl
    ((refl, inl (refl, refl)), ((refl, inl (refl, refl)), ((refl, inr (inl (refl, omega arith))), ((refl, inr (inl (refl, omega arith))), ((refl, inr (inl (refl, omega arith))), ((refl, inl (refl, refl)), ((refl, inr (inr (inl refl))), tt)))))))
    none

service : Finds serve_line
service words none = level_has (leaf serve_line) words refl
    ((refl, inl (refl, refl)), ((refl, inl (refl, refl)), ((refl, inl (refl, refl)), ((refl, inl (refl, refl)), ((refl, inr (inl (refl, omega arith))), ((refl, inl (refl, refl)), ((refl, inr (inl (refl, omega arith))), ((refl, inr (inl (refl, omega arith))), ((refl, inl (refl, refl)), ((refl, inl (refl, refl)), ((refl, inl (refl, refl)), ((refl, inr (inl (refl, omega arith))), ((refl, inr (inr (inl refl))), tt)))))))))))))
    none

driven : Finds run_line
driven words none = level_has (leaf run_line) words refl
    ((refl, inl (refl, refl)), ((refl, inl (refl, refl)), ((refl, inl (refl, refl)), ((refl, inl (refl, refl)), ((refl, inl (refl, refl)), ((refl, inl (refl, refl)), ((refl, inl (refl, refl)), ((refl, inl (refl, refl)), ((refl, inl (refl, refl)), ((refl, inl (refl, refl)), ((refl, inl (refl, refl)), ((refl, inl (refl, refl)), ((refl, inr (inl (refl, omega arith))), ((refl, inr (inl (refl, omega arith))), ((refl, inl (refl, refl)), ((refl, inl (refl, refl)), ((refl, inl (refl, refl)), ((refl, inl (refl, refl)), ((refl, inr (inl (refl, omega arith))), ((refl, inr (inl (refl, omega arith))), ((refl, inr (inl (refl, omega arith))), ((refl, inl (refl, refl)), ((refl, inr (inr (inl refl))), tt)))))))))))))))))))))))
    none

explained : Finds explain_line
explained words none = level_has (leaf explain_line) words refl
    ((refl, inl (refl, refl)), ((refl, inr (inr (inl refl))), tt))
    none

export : Finds export_line
export words none = level_has (leaf export_line) words refl
    ((refl, inl (refl, refl)), ((refl, inl (refl, refl)), ((refl, inl (refl, refl)), ((refl, inl (refl, refl)), ((refl, inl (refl, refl)), ((refl, inl (refl, refl)), ((refl, inl (refl, refl)), ((refl, inr (inl (refl, omega arith))), ((refl, inr (inl (refl, omega arith))), ((refl, inl (refl, refl)), ((refl, inr (inr (inl refl))), tt)))))))))))
    none

witnessed : Finds ledger_line
witnessed words none = level_has (leaf ledger_line) words refl
    ((refl, inl (refl, refl)), ((refl, inl (refl, refl)), ((refl, inl (refl, refl)), ((refl, inr (inr (inl refl))), tt))))
    none

judged : Finds judge_line
judged words none = level_has (leaf judge_line) words refl
    ((refl, inl (refl, refl)), ((refl, inl (refl, refl)), ((refl, inr (inr (inl refl))), tt)))
    none

relayed : Finds watch_line
relayed words none = level_has (leaf watch_line) words refl
    ((refl, inl (refl, refl)), ((refl, inl (refl, refl)), ((refl, inl (refl, refl)), ((refl, inl (refl, refl)), ((refl, inl (refl, refl)), ((refl, inl (refl, refl)), ((refl, inr (inl (refl, omega arith))), ((refl, inr (inl (refl, omega arith))), ((refl, inl (refl, refl)), ((refl, inl (refl, refl)), ((refl, inr (inr (inl refl))), tt)))))))))))
    none

lowered : Finds lower_line
lowered words none = level_has (leaf lower_line) words refl
    ((refl, inl (refl, refl)), ((refl, inr (inl (refl, omega arith))), ((refl, inr (inl (refl, omega arith))), ((refl, inr (inl (refl, omega arith))), ((refl, inr (inl (refl, omega arith))), ((refl, inr (inl (refl, omega arith))), ((refl, inr (inr (inr (refl, refl)))), ((refl, inr (inl (refl, omega arith))), ((refl, inl (refl, refl)), ((refl, inr (inr (inl refl))), tt))))))))))
    none

reported : Finds report_line
reported words none = level_has (leaf report_line) words refl
    ((refl, inl (refl, refl)), ((refl, inl (refl, refl)), ((refl, inl (refl, refl)), ((refl, inl (refl, refl)), ((refl, inr (inl (refl, omega arith))), ((refl, inl (refl, refl)), ((refl, inr (inr (inl refl))), tt)))))))
    none

-- each subcommand of `dme` may be asked for, and `help` was not met
serves : (p : Text × List Text) → NotAtHelp (Some p) → Serve p.0 p.1 (built whole_line).subs
serves p free = (
  λ answers none. inl (refl, checked p.1 none),
  (
    λ answers none. inr (inl (refl, simulation p.1 none)),
    (
      λ answers none. inr (inr (inl (refl, audit p.1 none))),
      (
        λ answers none. inr (inr (inr (inl (refl, loop p.1 none)))),
        (
          λ answers none. inr (inr (inr (inr (inr (inl (refl, service p.1 none)))))),
          (
            λ answers none. inr (inr (inr (inr (inr (inr (inl (refl, driven p.1 none))))))),
            (
              λ answers none. inr (inr (inr (inr (inr (inr (inr (inl (refl, explained p.1 none)))))))),
              (
                λ answers none. inr (inr (inr (inr (inr (inr (inr (inr (inl (refl, export p.1 none))))))))),
                (
                  λ answers none. inr (inr (inr (inr (inr (inr (inr (inr (inr (inl refl))))))))),
                  (
                    λ answers none. inr (inr (inr (inr (inr (inr (inr (inr (inr (inr (inl (refl, witnessed p.1 none))))))))))),
                    (
                      λ answers none. inr (inr (inr (inr (inr (inr (inr (inr (inr (inr (inr (inl (refl, judged p.1 none)))))))))))),
                      (
                        λ answers none. inr (inr (inr (inr (inr (inr (inr (inr (inr (inr (inr (inr (inl (refl, relayed p.1 none))))))))))))),
                        (
                          λ answers none. inr (inr (inr (inr (inr (inr (inr (inr (inr (inr (inr (inr (inr (inl (refl, lowered p.1 none)))))))))))))),
                          (
                            λ answers none. inr (inr (inr (inr (inr (inr (inr (inr (inr (inr (inr (inr (inr (inr (refl, reported p.1 none)))))))))))))),
                            (
                              λ answers none. inr (inr (inr (inr (inl refl)))),
                              (λ answers none. absurd (no_help p.0 p.1 free answers), tt),
                            ),
                          ),
                        ),
                      ),
                    ),
                  ),
                ),
              ),
            ),
          ),
        ),
      ),
    ),
  ),
)

-- the subcommand at which a walk has stopped
served : (stop : Option (Text × List Text)) → NotAtHelp stop → is_some (entered (built whole_line) stop) ≡ true
    → entered_fault (built whole_line) stop ≡ [] → IsSomeAnd (entered (built whole_line) stop) IsAskable
served None free there none = absurd (true≢false (sym there))
served (Some p) free there none = chosen p.0 p.1 (built whole_line).subs (serves p free) there none

-- words of `dme` without a fault
pub asked : (words : List Text) → fault_of whole_line words ≡ [] → IsSomeAnd (subcommand_of whole_line words) IsAskable
asked words none =
    let a : App = built whole_line in
    let given : List Text = argument_words whole_line words in
    let stop : Option (Text × List Text) = (walk a.top.rules (names_of a) nothing_held given).stopped in
    let level : level_fault a.top (names_of a) nothing_held given (is_some (entered a stop)) (entered_fault a stop) ≡ [] = none in
    served stop
    (walk_stops a.top (names_of a) (walk_from nothing_held) given refl (λ rest e. none-some _ e)
    (first_none (walk_fault a.top (names_of a) (walk_from nothing_held) given) _ level))
    (entered_there a nothing_held given (entered a stop) (entered_fault a stop) refl refl level)
    (first_none _ _ (second_none (walk_fault a.top (names_of a) (walk_from nothing_held) given) _ level))
