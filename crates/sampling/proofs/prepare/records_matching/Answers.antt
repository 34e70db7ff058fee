-- `records_matching` meets its contract: the history's refusals, then 15; the pattern's chart chooses.
-- Assumes nothing.
use Rattle.answers.proofs.Results.{handed_on}
use Rattle.history.proofs.Outcome.{Counted, check_accepted, check_refused}
use Rattle.sampling.proofs.Answering.{unaccepted, fitted_recorded}
use Rattle.sampling.proofs.prepare.records_matching.Goals as goal

pub fitting_numbers-requires : goal.fitting_numbers-requires
fitting_numbers-requires c =
    let diary : Counted c.args.h.now c.in_ok-k.k = check_accepted _ c.in_ok-k.ensures in
    let p = c.requires in
    record {
      sought = record { counted = p.records.counted; diary = diary.accepted; room = p.records.room diary.accepted };
      patterned = p.patterned;
      records_are = diary.count;
      choice_long = p.choice_long;
      choice_wide = p.choice_wide;
    }

pub returns-in_err-k : goal.returns-in_err-k
returns-in_err-k c = rw (handed_on c.from_residual.ensures.1) (unaccepted _ _ _ _ (check_refused _ _ c.in_err-k.ensures))

pub returns : goal.returns
returns c =
    let diary : Counted c.args.h.now c.in_ok-k.k = check_accepted _ c.in_ok-k.ensures in
    fitted_recorded _ _ _ diary.accepted c.fitting_numbers.ensures
