-- `write` meets its contract: the record first, then K, then the head.
-- Assumes nothing.
use Rattle.history.specs.Playback.{playback}
use Rattle.history.proofs.Writing.{written}
use Rattle.history.proofs.append.write.Goals as goal

pub returns : goal.returns
returns c = written c.args.h.now (playback c.args.sentence.now c.args.voice c.args.played) c.args.new c.record_at.result c.two_at-old.result c.requires.0.number
    c.record_at.ensures c.two_at-old.ensures.0 c.put_record.ensures c.put_two.ensures c.put_two-2.ensures
