-- The worked examples come out as told.
use Rattle.std.proofs.Common.{refl}
use Rattle.accounts.specs.Examples.{TwoFramesFilled, OverdraftPaidBack, NothingCarriedOver}
use Rattle.accounts.specs.Offers.{refilled}

pub two_frames_filled : TwoFramesFilled
unfolding refilled
two_frames_filled = refl

pub overdraft_paid_back : OverdraftPaidBack
unfolding refilled
overdraft_paid_back = refl

pub nothing_carried_over : NothingCarriedOver
unfolding refilled
nothing_carried_over = refl
