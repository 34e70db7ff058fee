-- The number of each refusal (document 01, section 'Why a call says no'; document 02, 'Answers'). Written by tools/generate from refusals.txt.
-- Assumes nothing: these are definitions.
use Rattle.std.specs.Prelude.{ℕ}
use Rattle.answers.specs.declared.refusal.Refusal.{Refusal}
use Rattle.answers.specs.declared.refusal.Refusal.TheVariants.{GrammarTooShort, GrammarOutOfRange, GrammarWrongSize, GrammarBadRule, GrammarBadLink, GrammarRuleMetTwice, GrammarRuleOnNoChain, GrammarEqualRules, BadLength, TooManyDerivations, HistoryWrongSize, HistoryBadRecord, HistoryBadLink, HistoryBadChain, HeardAmbiguous, NumberBeyond, SentenceUnderivable, HistoryFull, BufferTooShort, BadPattern, BadVoice, BadPlayed, BadWeights, TooManyTickets}

abbrev pub refusal_number : Refusal → ℕ
-- the grammar has fewer than 4 bytes
refusal_number GrammarTooShort = 1
-- N, W, R or S is outside its range
refusal_number GrammarOutOfRange = 2
-- the grammar's size is not 4 + N + 4R
refusal_number GrammarWrongSize = 3
-- some rule has a kind, a or b that its layout forbids
refusal_number GrammarBadRule = 4
-- some head or next in the grammar is above R
refusal_number GrammarBadLink = 5
-- a rule is met a second time, walking the chains from nonterminal 0 up
refusal_number GrammarRuleMetTwice = 6
-- a rule is on no chain
refusal_number GrammarRuleOnNoChain = 7
-- one chain holds two rules with the same kind, a and b
refusal_number GrammarEqualRules = 8
-- the length, or the sentence's length, is not 1 to 16
refusal_number BadLength = 9
-- a count that the length needs is above 2^64 - 1
refusal_number TooManyDerivations = 10
-- the history has fewer than 4 bytes, K is above 1,000, or it has fewer than 4 + 20K bytes
refusal_number HistoryWrongSize = 11
-- some record has a wrong length, a count of words played that is its length or more, or a non-zero byte beyond its words
refusal_number HistoryBadRecord = 12
-- the history's head or some next is above K
refusal_number HistoryBadLink = 13
-- the history's chain meets a record twice or misses one
refusal_number HistoryBadChain = 14
-- a sentence of the length, heard in the voice, has two or more derivations
refusal_number HeardAmbiguous = 15
-- the number is not below how many there are to choose from
refusal_number NumberBeyond = 16
-- the sentence has no derivation
refusal_number SentenceUnderivable = 17
-- the history has 1,000 records or no room for one more
refusal_number HistoryFull = 19
-- the sentence's buffer is shorter than the length
refusal_number BufferTooShort = 20
-- a byte of the pattern is neither 255 nor a word of the grammar
refusal_number BadPattern = 21
-- the voice is above 15
refusal_number BadVoice = 22
-- the count of words played is the sentence's length or more
refusal_number BadPlayed = 23
-- the weights are not W bytes, or one of them is 0
refusal_number BadWeights = 24
-- a total weight that the length needs is above 2^64 - 1
refusal_number TooManyTickets = 25
