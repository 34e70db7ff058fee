-- The bytes of a grammar (document 01: bank, section 'Bank bytes'). A grammar is here the list of its bytes.
-- Assumes nothing: these are definitions.
use Rattle.std.specs.Prelude.{List, ℕ, ◌+◌, ◌*◌, get_or}

-- the byte at i; 0 past the end
abbrev pub byte_at : List ℕ → ℕ → ℕ
byte_at g i = get_or g i 0

-- "Four bytes: N nonterminals (1 to 32), W words (1 to 255), R rules (1 to 255), start S (0 to N - 1)."
abbrev pub nonterminals : List ℕ → ℕ
nonterminals g = byte_at g 0

abbrev pub words : List ℕ → ℕ
words g = byte_at g 1

abbrev pub rules : List ℕ → ℕ
rules g = byte_at g 2

abbrev pub start : List ℕ → ℕ
start g = byte_at g 3

-- "Then N bytes, the head of each nonterminal's chain."
abbrev pub head_of : List ℕ → ℕ → ℕ
head_of g A = byte_at g (4 + A)

-- "Then R rules of four bytes, numbered from 1: kind, a, b, next." So rule r stands at 4 + N + 4 (r - 1), which is N + 4 r.
abbrev pub rule_at : List ℕ → ℕ → ℕ
rule_at g r = nonterminals g + 4 * r

abbrev pub kind_of : List ℕ → ℕ → ℕ
kind_of g r = byte_at g (rule_at g r)

abbrev pub a_of : List ℕ → ℕ → ℕ
a_of g r = byte_at g (rule_at g r + 1)

abbrev pub b_of : List ℕ → ℕ → ℕ
b_of g r = byte_at g (rule_at g r + 2)

abbrev pub next_of : List ℕ → ℕ → ℕ
next_of g r = byte_at g (rule_at g r + 3)

-- "The size is exactly 4 + N + 4R."
abbrev pub size_of : List ℕ → ℕ
size_of g = 4 + nonterminals g + 4 * rules g
