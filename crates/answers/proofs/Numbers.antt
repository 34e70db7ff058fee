-- Every refusal has a number above 0, so that none is taken for an acceptance. Written by tools/generate from refusals.txt.
-- Assumes nothing.
use Prim.Native.Nat.{◌<◌}
use lib.Dec.{lit<}
use Rattle.answers.specs.Inner.Refusals.{refusal_number}
use Rattle.answers.specs.declared.refusal.Refusal.{Refusal}
use Rattle.answers.specs.declared.refusal.Refusal.TheVariants.{GrammarTooShort, GrammarOutOfRange, GrammarWrongSize, GrammarBadRule, GrammarBadLink, GrammarRuleMetTwice, GrammarRuleOnNoChain, GrammarEqualRules, BadLength, TooManyDerivations, HistoryWrongSize, HistoryBadRecord, HistoryBadLink, HistoryBadChain, HeardAmbiguous, NumberBeyond, SentenceUnderivable, HistoryFull, BufferTooShort, BadPattern, BadVoice, BadPlayed, BadWeights, TooManyTickets}

pub number_some : (r : Refusal) → 0 < refusal_number r
number_some GrammarTooShort = lit< tt
number_some GrammarOutOfRange = lit< tt
number_some GrammarWrongSize = lit< tt
number_some GrammarBadRule = lit< tt
number_some GrammarBadLink = lit< tt
number_some GrammarRuleMetTwice = lit< tt
number_some GrammarRuleOnNoChain = lit< tt
number_some GrammarEqualRules = lit< tt
number_some BadLength = lit< tt
number_some TooManyDerivations = lit< tt
number_some HistoryWrongSize = lit< tt
number_some HistoryBadRecord = lit< tt
number_some HistoryBadLink = lit< tt
number_some HistoryBadChain = lit< tt
number_some HeardAmbiguous = lit< tt
number_some NumberBeyond = lit< tt
number_some SentenceUnderivable = lit< tt
number_some HistoryFull = lit< tt
number_some BufferTooShort = lit< tt
number_some BadPattern = lit< tt
number_some BadVoice = lit< tt
number_some BadPlayed = lit< tt
number_some BadWeights = lit< tt
number_some TooManyTickets = lit< tt
