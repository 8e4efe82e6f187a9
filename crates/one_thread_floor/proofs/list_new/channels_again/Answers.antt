use Rattle.std.specs.Prelude.{◌≡◌, ℕ, zero, suc, ◌<◌, [], ◌∷◌, length, refl}
use Rattle.std.proofs.Common.{get_or, ◌∙◌, arith}
use Rattle.channel_model.specs.declared.acts.Kind.{Kind}
use Rattle.channel_model.specs.declared.acts.Kind.TheVariants.{Signal}
use Rattle.channel_model.specs.Channels.{Shape}
use Rattle.one_thread_floor.proofs.ListNew.{made_more}
use Rattle.one_thread_floor.proofs.list_new.channels_again.Goals as goal

same_read : (ks : Shape) (i : ℕ) (j k : Kind × ℕ) → i < length ks → (get_or ks i j).1 ≡ (get_or ks i k).1
same_read [] i j k lt = absurd (omega (arith, lt))
same_read (x ∷ xs) zero j k lt = refl
same_read (x ∷ xs) (suc i) j k lt = same_read xs i j k (omega (arith, lt))

pub loop-i-preserved : goal.loop-i-preserved
loop-i-preserved c = made_more c.args.kinds.now c.loop-i.i c.loop-i.channels.items c.push.new.self.items c.in_ok-channel.channel
    (omega arith) c.loop-i.invariant c.in_ok-push.ensures.items c.in_ok-channel.ensures.channel
    (c.in_ok-channel.ensures.places ∙ same_read c.args.kinds.now c.loop-i.i _ (Signal, 0) (omega arith))
