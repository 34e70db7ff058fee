-- `choose_rule` meets its contract. The loop goes through the pair rules of the node in order and through the left lengths of each; its
-- invariant says what is to come. Where no left length is, a rule is left while the ticket is one of theirs. Assumes nothing.
use Prim.Native.Nat.{◌+◌, ◌*◌, ◌-◌}
use Rattle.walk.proofs.Walking.{Going}
use Rattle.walk.proofs.Tables.choose_rule.Given as goal

abbrev pub invariant-loop-k : goal.invariant-loop-k
invariant-loop-k l = Going l.self.rules.now l.self.choice.now l.self.measure.now l.node.a l.node.p l.node.m l.ticket l.i l.b l.c l.k l.end l.before l.rest

-- how many rules are left, and of the one at hand how many left lengths
abbrev pub decreases-loop-k : goal.decreases-loop-k
decreases-loop-k l = 17 * (256 - l.i) + (l.end - l.k)
