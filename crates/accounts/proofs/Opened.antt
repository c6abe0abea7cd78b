-- What an account promises when it is opened.
use Rattle.std.proofs.Common.{◌≡◌, ℕ, ℤ, pos, sym, subst, arith}
use Rattle.std.proofs.lemmas.Int.{ints}
use Rattle.accounts.specs.Ledgers.{Ledger, Terms, Limits}
use Rattle.accounts.specs.Accounts.{fresh}
use Rattle.accounts.specs.Credits.{SpentExactly, FrameGiven}
use Rattle.accounts.specs.Laws.{ForEver, Shares, Stretches}
use Rattle.accounts.proofs.Refills.{at}
use Rattle.accounts.proofs.Ready.{spent_exactly, frame_given}
use Rattle.accounts.proofs.Steps.{kept_after}
use Rattle.accounts.proofs.Shares as share
use Rattle.accounts.proofs.Stretches as stretch

-- all that an account promises
pub record Promise (l : Ledger) : Type 0 where
  pub limits : ForEver Limits l
  pub spent : ForEver SpentExactly l
  pub frames : ForEver FrameGiven l
  pub shares : Shares l
  pub stretches : Stretches l

-- a fresh account is within its limits
pub fresh_limits : (r g w : ℕ) → Terms (fresh r g w) → Limits (fresh r g w)
fresh_limits r g w t = (omega (arith, ints), omega (arith, ints), omega arith, omega arith)

pub promise : (r g w : ℕ) → Terms (fresh r g w) → Promise (fresh r g w)
promise r g w t =
    let ok = fresh_limits r g w t in
    let two = t.2.0 in
    record {
      limits = λ cs. (kept_after (fresh r g w) cs two ok).limits;
      spent = λ cs. spent_exactly _;
      frames = λ cs. frame_given _ (omega (arith, (kept_after (fresh r g w) cs two ok).slots));
      shares = share.shares r g w two ok;
      stretches = stretch.stretches (fresh r g w) two ok;
    }

-- the same of an account whose balance is written in another way
pub promise_at : (r g w : ℕ) (c : ℤ) → Terms (fresh r g w) → c ≡ pos r → Promise (at (fresh r g w) 1 c)
promise_at r g w c t e = subst (λ z. Promise (at (fresh r g w) 1 z)) (sym e) (promise r g w t)
