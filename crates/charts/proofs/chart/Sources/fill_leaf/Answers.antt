-- `fill_leaf` meets its contract: the row is cleared, and then the words that the letter lets count. Assumes nothing.
use Rattle.charts.proofs.Making.{leaf_clear, leaf_low, leaf_any, leaf_word}
use Rattle.charts.proofs.chart.Sources.fill_leaf.Goals as goal

pub add_words-requires : goal.add_words-requires
add_words-requires c = leaf_clear c.requires c.row_at-row.result c.row_at-row.ensures c.clear.ensures

pub returns-then-x-eq-ANY : goal.returns-then-x-eq-ANY
returns-then-x-eq-ANY c = leaf_any c.requires c.row_at-row.result c.row_at-row.ensures c.clear.ensures c.if-x-eq-ANY.true c.add_words.ensures

pub add_word-requires : goal.add_word-requires
add_word-requires c = (leaf_clear c.requires c.row_at-row.result c.row_at-row.ensures c.clear.ensures, leaf_low c.requires c.if-x-eq-ANY.false)

pub returns : goal.returns
returns c = leaf_word c.requires c.row_at-row.result c.row_at-row.ensures c.clear.ensures c.if-x-eq-ANY.false c.add_word.ensures
