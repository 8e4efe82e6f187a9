use Rattle.std.specs.Prelude.{◌≡◌}
use Rattle.channel_model.specs.Floors.{SameSetting}
use Rattle.channel_model.specs.Answers.{IsSeenClosed}
use Rattle.channel_model.proofs.Left.{left_of}
use Rattle.parcel_channel.specs.Hubs.{IsOf, SamePass, seen_by, floor_by}
use Rattle.waiting.specs.Closes.{Tells}
use Rattle.waiting.proofs.closing.tell_close.Given as goal

abbrev pub invariant-loop-tag : goal.invariant-loop-tag
invariant-loop-tag g l = record {
  of : IsOf l.hub l.pass;
  same : SamePass l.initial.pass l.pass × (seen_by l.pass ≡ seen_by l.initial.pass);
  setting : SameSetting (floor_by l.hub l.initial.pass) (floor_by l.hub l.pass);
  closed : IsSeenClosed 0 (floor_by l.hub l.pass);
  told : Tells l.initial.pass.tag (floor_by l.hub l.initial.pass) (floor_by l.hub l.pass);
}

abbrev pub decreases-loop-tag : goal.decreases-loop-tag
decreases-loop-tag g l = left_of (floor_by l.hub l.initial.pass).shape 0 (floor_by l.hub l.pass).seen
