-- Filling a chart row by row: what the inner functions ask and promise. A row is made from those of the halves: for each left length at
-- which a span can be cut, the products of the halves' totals over the pair rules.
-- Assumes nothing: these are definitions.
use Rattle.std.specs.Prelude.{◌≡◌, true, false, cond, ◌&&◌, List, [], ℕ, ◌+◌, ◌-◌, ◌*◌, ◌≤◌, ◌<◌, eqb, length, get_or, set, replicate}
use Rattle.lists.specs.Joined.{◌∈◌, sum_over}
use Rattle.lists.specs.Searched.{times}
use Rattle.lists.specs.Inner.Tables.{entry, Wide}
use Rattle.sets.specs.Inner.Sets.{member, members}
use Rattle.grammar.specs.Inner.Rules.{word_from, count_in, words_in, pairs_in, Ruled, ruled}
use Rattle.grammar.specs.Inner.Links.{Linked}
use Rattle.counting.specs.Totals.{total}
use Rattle.counting.specs.Refusals.{most}
use Rattle.counting.specs.Inner.Counted.{Asked}
use Rattle.counting.specs.Inner.Letters.{any}
use Rattle.charts.specs.Inner.Letters.{letter_at, weight_by}
use Rattle.charts.specs.Inner.Maps.{row_at, total_at, Span}
use Rattle.charts.specs.Inner.Plan.{cuts, spots, wanted, partners, needed}
use Rattle.charts.specs.Inner.Chart.{Beside, Fills}

-- ---- a row that is cleared

-- a row that is 0 outside a set
abbrev pub Zero : (totals : List (List ℕ)) (row set : ℕ) → Type 0
Zero totals row set = (A : ℕ) → A < 32 → member set A ≡ false → entry totals row A ≡ 0

pub record Clears (set row : ℕ) (totals : List (List ℕ)) : Type 0 where
  pub wide : Wide totals 32
  pub inside : row < length totals
  pub zero : Zero totals row set

-- the row is all 0
abbrev pub blanked : (totals : List (List ℕ)) (row : ℕ) → List (List ℕ)
blanked totals row = set totals row (replicate 32 0)

-- ---- what is added

-- v for a member A of the set, else nothing
abbrev pub only : (set A v : ℕ) → ℕ
only set A v = cond (member set A) v 0

-- over A's pair rules: v for each (b, c); for each with the left nonterminal b the product of x and the right one's y; all products
abbrev pub tie_sum : (rules : List (List ℕ)) (v b c A : ℕ) → ℕ
tie_sum rules v b c A = sum_over (λ (e : ℕ × ℕ). cond (eqb e.0 b && eqb e.1 c) v 0) (pairs_in rules A)

abbrev pub side_sum : (rules : List (List ℕ)) (x : ℕ) (y : ℕ → ℕ) (b A : ℕ) → ℕ
side_sum rules x y b A = sum_over (λ (e : ℕ × ℕ). cond (eqb e.0 b) (x * y e.1) 0) (pairs_in rules A)

abbrev pub pair_sum : (rules : List (List ℕ)) (x y : ℕ → ℕ) (A : ℕ) → ℕ
pair_sum rules x y A = sum_over (λ (e : ℕ × ℕ). x e.0 * y e.1) (pairs_in rules A)

-- what the left length k adds to A's total over a span, and all at which it can be cut
abbrev pub cut_sum : (rules map totals : List (List ℕ)) (p m A k : ℕ) → ℕ
cut_sum rules map totals p m A k = pair_sum rules (λ B. total_at totals map p B k) (λ C. total_at totals map (p + k) C (m - k)) A

abbrev pub cuts_sum : (rules plan map totals : List (List ℕ)) (p m A : ℕ) → ℕ
cuts_sum rules plan map totals p m A = sum_over (cut_sum rules map totals p m A) (members (cuts plan m))

-- ---- a row that grows

-- A row has grown from `before`, and what `rest` says is still to come: then its entries below `count` will have grown by f. None outside
-- the set has changed, and no other row.
pub record Growing (row count : ℕ) (f : ℕ → ℕ) (before now : List (List ℕ)) (rest : ℕ → ℕ) (set : ℕ) : Type 0 where
  pub long : length now ≡ length before
  pub wide : Wide now 32
  pub due : (A : ℕ) → A < count → entry now row A + rest A ≡ entry before row A + f A
  pub others : (r : ℕ) → (r ≡ row → ⊥) → get_or now r [] ≡ get_or before r []
  pub covers : (A : ℕ) → A < 32 → member set A ≡ false → entry now row A ≡ entry before row A

-- it has grown
abbrev pub GrownAs : (row count : ℕ) (f : ℕ → ℕ) (before after : List (List ℕ)) (set : ℕ) → Type 0
GrownAs row count f before after set = Growing row count f before after (λ A. 0) set

-- what growing by f asks
pub record Adds (rules totals : List (List ℕ)) (row : ℕ) (f : ℕ → ℕ) : Type 0 where
  pub table : Ruled rules
  pub linked : Linked rules
  pub wide : Wide totals 32
  pub inside : row < length totals
  pub fits : (A : ℕ) → A < count_in rules → entry totals row A + f A ≤ most

-- ---- single positions

-- how many words A has, and how often the word x is among them
abbrev pub word_count : (rules : List (List ℕ)) (A : ℕ) → ℕ
word_count rules A = word_from rules (A + 1) - word_from rules A

abbrev pub word_times : (rules : List (List ℕ)) (x A : ℕ) → ℕ
word_times rules x A = times x (words_in rules A)

-- a row of zeros to begin with
pub record Clear (rules totals : List (List ℕ)) (row : ℕ) : Type 0 where
  pub table : Ruled rules
  pub linked : Linked rules
  pub wide : Wide totals 32
  pub inside : row < length totals
  pub zeros : (A : ℕ) → A < 32 → entry totals row A ≡ 0

-- ---- two positions or more

-- adding for the pair rules (b, c) the products of the rows `left` and `right`
pub record AddsPair (rules : List (List ℕ)) (wanted row left right b c : ℕ) (totals : List (List ℕ)) : Type 0 where
  pub adds : Adds rules totals row (λ A. only wanted A (tie_sum rules (entry totals left b * entry totals right c) b c A))
  pub left_inside : left < length totals
  pub right_inside : right < length totals
  pub b_low : b < 32
  pub c_low : c < 32

-- the right nonterminals of each left one
abbrev pub Partners : (rules plan : List (List ℕ)) → Type 0
Partners rules plan = (A B C : ℕ) → A < count_in rules → (B, C) ∈ pairs_in rules A → member (partners plan B) C ≡ true

-- for all with the left nonterminal b; the row `right` is 0 outside `rights`
pub record AddsLeft (rules plan : List (List ℕ)) (wanted row left right b rights : ℕ) (totals : List (List ℕ)) : Type 0 where
  pub adds : Adds rules totals row (λ A. only wanted A (side_sum rules (entry totals left b) (entry totals right) b A))
  pub left_inside : left < length totals
  pub right_inside : right < length totals
  pub b_low : b < 32
  pub zero : Zero totals right rights
  pub pairs : Partners rules plan
  pub apart : (left ≡ row → ⊥) × (right ≡ row → ⊥)

-- for all
pub record AddsSplit (rules plan : List (List ℕ)) (wanted row left right : ℕ) (sets : List ℕ) (totals : List (List ℕ)) : Type 0 where
  pub adds : Adds rules totals row (λ A. only wanted A (pair_sum rules (entry totals left) (entry totals right) A))
  pub left_inside : (left < length totals) × (left < length sets)
  pub right_inside : (right < length totals) × (right < length sets)
  pub zeros : Zero totals left (get_or sets left 0) × Zero totals right (get_or sets right 0)
  pub pairs : Partners rules plan
  pub apart : (left ≡ row → ⊥) × (right ≡ row → ⊥)

-- ---- a row that is made

-- the row holds f below `count`, and is 0 outside the set; no other row has changed
pub record MadeAs (row count : ℕ) (f : ℕ → ℕ) (before after : List (List ℕ)) (set : ℕ) : Type 0 where
  pub long : length after ≡ length before
  pub wide : Wide after 32
  pub here : (A : ℕ) → A < count → entry after row A ≡ f A
  pub others : (r : ℕ) → (r ≡ row → ⊥) → get_or after r [] ≡ get_or before r []
  pub zero : Zero after row set

-- what the row of a span asks; it is 0 outside `old`
pub record Makes (rules map : List (List ℕ)) (p m old : ℕ) (totals : List (List ℕ)) : Type 0 where
  pub table : Ruled rules
  pub linked : Linked rules
  pub wide : Wide totals 32
  pub inside : row_at map p m < length totals
  pub low : p < 16
  pub some : 1 ≤ m
  pub short : m ≤ 16
  pub letter : letter_at map p ≤ any
  pub zero : Zero totals (row_at map p m) old

-- A's total at a single position
abbrev pub leaf_sum : (rules map : List (List ℕ)) (p A : ℕ) → ℕ
leaf_sum rules map p A = sum_over (weight_by rules map p) (words_in rules A)

-- a half has its row, another than the whole, and its set
pub record Half (map : List (List ℕ)) (row p m : ℕ) (sets : List ℕ) (totals : List (List ℕ)) : Type 0 where
  pub inside : row_at map p m < length totals
  pub beside : row_at map p m < length sets
  pub apart : row_at map p m ≡ row → ⊥
  pub zero : Zero totals (row_at map p m) (get_or sets (row_at map p m) 0)

-- what the row of two positions or more asks
pub record Joins (rules plan map : List (List ℕ)) (p m : ℕ) (sets : List ℕ) (totals : List (List ℕ)) : Type 0 where
  pub makes : Makes rules map p m (get_or sets (row_at map p m) 0) totals
  pub beside : row_at map p m < length sets
  pub pairs : Partners rules plan
  pub within : (k : ℕ) → k < 32 → member (cuts plan m) k ≡ true → (1 ≤ k) × (k < m) × (p + k < 16)
  pub left : (k : ℕ) → k < 32 → member (cuts plan m) k ≡ true → Half map (row_at map p m) p k sets totals
  pub right : (k : ℕ) → k < 32 → member (cuts plan m) k ≡ true → Half map (row_at map p m) (p + k) (m - k) sets totals
  pub fits : (A : ℕ) → A < count_in rules → only (wanted plan m) A (cuts_sum rules plan map totals p m A) ≤ most

-- what the row of a span asks, and what it is to hold
pub record Spans (rules plan map : List (List ℕ)) (p m : ℕ) (sets : List ℕ) (totals : List (List ℕ)) : Type 0 where
  pub makes : Makes rules map p m (get_or sets (row_at map p m) 0) totals
  pub beside : row_at map p m < length sets
  pub joins : 2 ≤ m → Joins rules plan map p m sets totals

abbrev pub span_sum : (rules plan map totals : List (List ℕ)) (p m A : ℕ) → ℕ
span_sum rules plan map totals p m A = cond (eqb m 1) (leaf_sum rules map p A) (only (wanted plan m) A (cuts_sum rules plan map totals p m A))

-- it is made, and its set beside it
pub record SpannedAs (rules plan map : List (List ℕ)) (p m : ℕ) (sets : List ℕ) (totals : List (List ℕ)) (sets' : List ℕ) (totals' : List (List ℕ)) : Type 0 where
  pub made : MadeAs (row_at map p m) (count_in rules) (span_sum rules plan map totals p m) totals totals' (get_or sets' (row_at map p m) 0)
  pub long : length sets' ≡ length sets
  pub others : (r : ℕ) → (r ≡ row_at map p m → ⊥) → get_or sets' r 0 ≡ get_or sets r 0

-- ---- spans of one length after another

-- the row of a span has its totals
abbrev pub Done : (rules map : List (List ℕ)) (n p m : ℕ) (totals : List (List ℕ)) → Type 0
Done rules map n p m totals = (A : ℕ) → Asked rules n A m → total_at totals map p A m ≡ total (ruled rules) (weight_by rules map) p A m

-- so have those of all needed spans shorter than m, and of those of the length m at a position that isn't in `left`
pub record FilledTo (rules plan map : List (List ℕ)) (first n m left : ℕ) (sets : List ℕ) (totals : List (List ℕ)) : Type 0 where
  pub fills : Fills rules plan map first n sets totals
  pub shorter : (p k : ℕ) → Span n p k → k < m → needed plan p k ≡ true → Done rules map n p k totals
  pub here : (p : ℕ) → Span n p m → needed plan p m ≡ true → member left p ≡ false → Done rules map n p m totals

-- what filling the spans of the length m asks
pub record Lengthens (rules plan map : List (List ℕ)) (first n m : ℕ) (sets : List ℕ) (totals : List (List ℕ)) : Type 0 where
  pub some : 1 ≤ m
  pub short : m ≤ n
  pub filled : FilledTo rules plan map first n m (spots plan m) sets totals

-- they are filled but for those at the positions in `left`; the rows outside the chart are as they were
pub record LengthenedAs (rules plan map : List (List ℕ)) (first n m left : ℕ) (sets : List ℕ) (totals : List (List ℕ)) (sets' : List ℕ) (totals' : List (List ℕ))
    : Type 0 where
  pub filled : FilledTo rules plan map first n m left sets' totals'
  pub sets_long : length sets' ≡ length sets
  pub long : length totals' ≡ length totals
  pub kept : (r : ℕ) → Beside first n r → get_or totals' r [] ≡ get_or totals r []
