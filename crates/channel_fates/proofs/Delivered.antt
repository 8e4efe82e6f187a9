-- An element is given to a receiver at most once.
use Rattle.std.specs.Prelude.{ℕ, ◌≤◌, Bool, cond, List, [], ◌∷◌}
use Rattle.std.proofs.Common.{arith}
use Rattle.channel_model.specs.declared.acts.Act.{Act}
use Rattle.channel_model.specs.declared.acts.Act.TheVariants.{Hand}
use Rattle.channel_model.specs.declared.acts.Entry.{Entry}
use Rattle.channel_model.specs.Channels.{Shape}
use Rattle.channel_model.specs.Histories.{acts_in, Legal}
use Rattle.channel_model.specs.Fates.{hands, takes, removes}
use Rattle.channel_model.specs.Laws.{how_many}
use Rattle.channel_fates.specs.OneFate.{deliveries_of}
use Rattle.channel_fates.proofs.OncePlaced.{answers}
use Rattle.channel_fates.proofs.Traced.{replay_traced}

takes_remove : (c p : ℕ) (act : Act) → cond (takes c p act) 1 0 ≤ cond (removes c p act) 1 0
takes_remove c p (Hand d q v) = omega arith
takes_remove c p other = omega arith

hands_answer : (c p : ℕ) (act : Act) → cond (hands c p act) 1 0 ≤ cond (answers c p act) 1 0
hands_answer c p (Hand d q v) = omega arith
hands_answer c p other = omega arith

fewer : (f g : Act → Bool) → ((act : Act) → cond (f act) 1 0 ≤ cond (g act) 1 0) → (acts : List Act) → how_many f acts ≤ how_many g acts
fewer f g less [] = omega arith
fewer f g less (act ∷ acts) = omega (arith, less act, fewer f g less acts)

pub replay_delivered_once : (shape : Shape) (history : List Entry) (c p : ℕ) → Legal shape history → deliveries_of c p (acts_in history) ≤ 1
replay_delivered_once shape history c p legal =
    let told = (replay_traced shape history legal).told.counted c p in
    let taken = fewer (takes c p) (removes c p) (takes_remove c p) (acts_in history) in
    let handed = fewer (hands c p) (answers c p) (hands_answer c p) (acts_in history) in
    omega (arith, told.queue, told.receivers, told.given, taken, handed)
