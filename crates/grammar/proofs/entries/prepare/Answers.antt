-- `entries::prepare` meets its contract: five stores into the row of beginnings, at five places.
-- Assumes nothing.
use Rattle.grammar.proofs.Entering.{prepare_all}
use Rattle.grammar.proofs.entries.prepare.Goals as goal

pub returns : goal.returns
returns c = prepare_all c.requires c.start.ensures c.nonterminals.ensures c.words.ensures
