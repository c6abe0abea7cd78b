use Rattle.sources.proofs.Opening.{opened_sound}
use Rattle.sources.proofs.feed.Source.new.Goals as goal

pub untouched-requires : goal.untouched-requires
untouched-requires c = opened_sound c.args.slots c.args.largest c.args.window c.args.route c.in_ok-account.ensures.answer c.in_ok-account.ensures.sound c.channels.ensures.sound
