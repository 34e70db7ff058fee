-- `put_draw` meets its contract: two numbers and a space take at most forty-one bytes, each word with its space at most four.
-- Assumes nothing.
use Rattle.std.proofs.Common.{◌+◌, ◌*◌, ◌≤◌, length}
use Rattle.arrayvec.specs.ArrayString.{array_string_len}
use Rattle.listing.proofs.put_draw.Given as goal

abbrev pub invariant-loop-w : goal.invariant-loop-w
invariant-loop-w l = (array_string_len l.fn.lines + 106 ≤ 4096) × (length l.words ≤ 16) × (array_string_len l.lines ≤ array_string_len l.fn.lines + 41 + 4 * l.w-index)
