use Rattle.grammar.proofs.Linking.{loop_start, links_words, links_pairs, loop_next, loop_end}
use Rattle.grammar.proofs.links.link.Goals as goal

pub count-a-end-requires : goal.count-a-end-requires
count-a-end-requires c = c.requires.table.long

pub loop-a-init : goal.loop-a-init
loop-a-init c = loop_start c.requires

pub link_kind-requires : goal.link_kind-requires
link_kind-requires c = links_words c.loop-a.invariant c.count-a-end.ensures.0 c.loop-a-test.true

pub link_kind-requires-in-loop-a : goal.link_kind-requires-in-loop-a
link_kind-requires-in-loop-a c = links_pairs c.loop-a.invariant c.link_kind.ensures c.count-a-end.ensures.0 c.loop-a-test.true

pub loop-a-preserved : goal.loop-a-preserved
loop-a-preserved c = loop_next c.loop-a.invariant c.link_kind.ensures c.count-a-end.ensures.0 c.loop-a-test.true c.link_kind-in-loop-a.ensures

pub returns : goal.returns
returns c = loop_end c.loop-a.invariant c.count-a-end.ensures.0 c.loop-a-test.false
