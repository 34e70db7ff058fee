-- `pick` meets its contract: where each word counts once the ticket is the place, and where one word is asked for its links find it; what the words before
-- it weigh stands in the table. Assumes nothing.
use native.Mathlib.Omega.{arith}
use Rattle.walk.proofs.Leaves.{any_room, any_picked, has_word, word_picked, word_weighed}
use Rattle.walk.proofs.leaf.pick.Goals as goal

pub overflow_add-i : goal.overflow_add-i
overflow_add-i c = omega (arith, any_room c.requires c.in-256-eq256.is-0, c.words_from.ensures.0)

pub word_at-requires : goal.word_at-requires
word_at-requires c = (c.requires.table.long, omega (arith, any_room c.requires c.in-256-eq256.is-0, c.words_from.ensures.0))

pub returns-in-256-eq256 : goal.returns-in-256-eq256
returns-in-256-eq256 c =
    let e = c.one_ticket.ensures in
    rw (e.0, e.1, e.2, e.3, e.4) (any_picked c.requires c.in-256-eq256.is-0 c.in-256-eq256.is-1 (omega (arith, c.words_from.ensures.0)) c.word_at.ensures)

pub place_of-i-requires : goal.place_of-i-requires
place_of-i-requires c = let h = c.in-0-to-255-eq256 in has_word c.requires (omega (arith, h.is-0))

pub returns-in-0-to-255-eq256 : goal.returns-in-0-to-255-eq256
returns-in-0-to-255-eq256 c =
    let e = c.one_ticket-in-0-to-255-eq256.ensures in
    rw (e.0, e.1, e.2, e.3, e.4) (word_picked c.requires (omega (arith, c.in-0-to-255-eq256.is-0)) c.place_of-i.ensures c.in-0-to-255-eq256.is-1 c.words_from-from.ensures.0)

pub place_of-i-requires-in-0-to-255-eq257 : goal.place_of-i-requires-in-0-to-255-eq257
place_of-i-requires-in-0-to-255-eq257 c = let h = c.in-0-to-255-eq257 in has_word c.requires (omega (arith, h.is-0))

pub returns-in-0-to-255-eq257 : goal.returns-in-0-to-255-eq257
returns-in-0-to-255-eq257 c =
    let e = c.one_ticket-in-0-to-255-eq257.ensures in
    rw (e.0, e.1, e.2, e.3, e.4)
    (word_weighed c.requires (omega (arith, c.in-0-to-255-eq257.is-0)) c.place_of-i-in-0-to-255-eq257.ensures c.in-0-to-255-eq257.is-1 c.before-in-0-to-255-eq257.ensures c.weight.ensures.0)
