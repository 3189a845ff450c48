-- The labels of features: each name at its line, with a line to what it names, and its peak.
use Rattle.std.specs.Prelude.{◌≡◌, ℕ, Bool, true, false, Option, Some, None, List, [], ◌∷◌, ◌++◌, ◌+◌, ◌-◌, ◌*◌, ◌≤◌, ◌<◌, ⊤, min, max, length, take, codes, decimal, slice_get, IsPermutation, IsSorted, ◌==◌, if◌then◌else◌}
use Rattle.std.specs.List.{AllZip}
use Rattle.std.specs.Ordering.{nat_cmp, ordering_then}
use Rattle.std.specs.declared.cmp.Ordering.{Ordering}
use Rattle.dmis_program.specs.declared.features.Wanted.{Wanted}
use Rattle.drawings.specs.Marks.{spot_of}
use Rattle.drawings.specs.Peaks.{greatest_peak, peak_text}
use Rattle.drawings.specs.Pictures.{spot}
use Rattle.drawings.specs.Sheet.{Spot}
use Rattle.drawings.specs.Texts.{markup, disc_text, line_text, text_start, text_end, shown_name}
use Rattle.drawings.specs.declared.views.View.{View}
use Rattle.drawings.specs.declared.marks.Mark.{Mark}

-- a measured feature has a black disc, one that is not measured a hollow disc
abbrev pub bullet_start : Bool → List ℕ
bullet_start true = markup (codes "<g fill=\"#000\">")
bullet_start false = markup (codes "<g fill=\"#fff\" stroke=\"#000\" stroke-width=\"0.25\" stroke-dasharray=\"none\">")

unfoldable pub bullet_text : Bool → ℕ → List ℕ
bullet_text is_measured down = bullet_start is_measured ++ (disc_text (record { across = 224500; down = down }) 800
    ++ markup (codes "</g>\n"))

-- a name at its line, escaped
unfoldable pub name_text : List ℕ → ℕ → List ℕ
name_text name line = markup (codes "<g stroke=\"none\" font-family=\"monospace\">")
    ++ (text_start (record { across = 227000; down = line }) ++ (shown_name name ++ (text_end ++ markup (codes "</g>\n"))))

-- the leader of a label, from the place that it names: level as far as the frame's right edge, and from there straight to the label
unfoldable pub leader_text : Spot → ℕ → List ℕ
leader_text from middle = line_text from (spot 217000 from.down) ++ line_text (spot 217000 from.down) (spot 222500 middle)

-- a label: its leader, its disc, its name, and its peak in a part with this greatest one
unfoldable pub label_text : View → ℕ → Mark → List ℕ → ℕ → List ℕ
label_text plan most mark name line = leader_text (spot_of plan mark.place) (line - 900)
    ++ (bullet_text mark.is_measured (line - 900) ++ (name_text name line ++ peak_text most mark.peak line))

-- at most 33 labels fit, each on a line of its own, 4.8 mm below the one above it
abbrev pub most_labels : ℕ
most_labels = 33

-- the desired position of a label: the line whose middle is as far down as what it names, how far across that is, and its feature's number
abbrev pub Anchor : Type 0
Anchor = ℕ × ℕ × ℕ

abbrev pub anchor_of : View → ℕ → Mark → Anchor
anchor_of plan number mark = ((spot_of plan mark.place).down + 900, (spot_of plan mark.place).across, number)

-- the desired positions of marks, which are numbered from here on
abbrev pub anchors_from : View → ℕ → List Mark → List Anchor
anchors_from plan number [] = []
anchors_from plan number (mark ∷ marks) = anchor_of plan number mark ∷ anchors_from plan (number + 1) marks

-- from top to bottom, at equal height from left to right, and at the same place by their numbers
abbrev pub by_height : Anchor → Anchor → Ordering
by_height a b = ordering_then (ordering_then (nat_cmp a.0 b.0) (nat_cmp a.1 b.1)) (nat_cmp a.2 b.2)

-- the first labels in this order
pub record AreOrdered (plan : View) (marks : List Mark) (order : List Anchor) : Type 0 where
  pub same : IsPermutation (anchors_from plan 0 (take most_labels marks)) order
  pub sorted : IsSorted by_height order

-- the lowest line of a label that leaves room for that many below it, and the line of a label if lines are free from a given line on
abbrev pub lowest_line : ℕ → ℕ
lowest_line later = 186000 - later * 4800

abbrev pub line_for : ℕ → ℕ → ℕ → ℕ
line_for highest wanted later = max (min wanted (lowest_line later)) highest

-- lines on which labels may be placed: none above the highest free line; each at least a label's height below the one above it; and none
-- above what it names, unless the labels below it need the room
abbrev pub MayStand : ℕ → List Anchor → List ℕ → Type 0
MayStand highest [] [] = ⊤
MayStand highest [] (line ∷ lines) = ⊥
MayStand highest (a ∷ order) [] = ⊥
MayStand highest (a ∷ order) (line ∷ lines) = (highest ≤ line) × (min a.0 (lowest_line (length order)) ≤ line)
    × MayStand (line + 4800) order lines

-- the highest of such lines: each is as near to what it names as these rules allow
pub record AreHighest (order : List Anchor) (lines : List ℕ) : Type 0 where
  pub may : MayStand 26000 order lines
  pub highest : (others : List ℕ) → MayStand 26000 order others → AllZip (λ line other. line ≤ other) lines others

-- leaders that end at these lines and are at these heights before, all below a height and a line: each is not above the one before it at
-- the frame's edge, and below it at the labels, so none crosses another
abbrev pub DoNotCross : ℕ → ℕ → List Anchor → List ℕ → Type 0
DoNotCross height above [] [] = ⊤
DoNotCross height above [] (line ∷ lines) = ⊥
DoNotCross height above (a ∷ order) [] = ⊥
DoNotCross height above (a ∷ order) (line ∷ lines) = (height ≤ a.0) × (above < line) × DoNotCross a.0 line order lines

-- the label of a number at a line
abbrev pub label_at : View → ℕ → Option Mark → Option Wanted → ℕ → List ℕ
label_at plan most (Some mark) (Some w) line = label_text plan most mark w.label line
label_at plan most (Some mark) None line = []
label_at plan most None w line = []

-- the labels from top to bottom, each at its line
abbrev pub labels_at : View → List Mark → List Wanted → List Anchor → List ℕ → List ℕ
labels_at plan marks wanted [] lines = []
labels_at plan marks wanted (a ∷ order) [] = []
labels_at plan marks wanted (a ∷ order) (line ∷ lines) = label_at plan (greatest_peak marks) (slice_get marks a.2) (slice_get wanted a.2) line
    ++ labels_at plan marks wanted order lines

-- the labels in this order, each on its line
pub record AreOnLines (plan : View) (marks : List Mark) (wanted : List Wanted) (order : List Anchor) (text : List ℕ) : Type 0 where
  pub lines : List ℕ
  pub highest : AreHighest order lines
  pub are : text ≡ labels_at plan marks wanted order lines

-- how many labels have no line
unfoldable pub more_text : ℕ → List ℕ
more_text more = text_start (spot 227000 190800) ++ (codes "and " ++ (decimal more ++ (codes " more" ++ text_end)))

abbrev pub more_if_any : ℕ → List ℕ
more_if_any more = if more == 0 then [] else more_text more

-- labels, and how many more there are
unfoldable pub labels_text : List ℕ → ℕ → List ℕ
labels_text labels more = markup (codes "<g font-size=\"2.5\" stroke=\"#999\" stroke-width=\"0.15\" stroke-dasharray=\"1 0.7\">\n")
    ++ (labels ++ (markup (codes "</g>\n") ++ more_if_any more))

-- the labels of the features that a program asks for
pub record AreLabels (plan : View) (marks : List Mark) (wanted : List Wanted) (text : List ℕ) : Type 0 where
  pub order : List Anchor
  pub ordered : AreOrdered plan marks order
  pub labels : List ℕ
  pub on_lines : AreOnLines plan marks wanted order labels
  pub are : text ≡ labels_text labels (length marks - most_labels)
