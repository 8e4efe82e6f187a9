-- What is known of a coroutine that has not called yet.
use Rattle.std.specs.Prelude.{◌≡◌, ℕ, zero, suc, ◌<◌, ◌≤◌, true, List, [], ◌∷◌, length, get_or}
use Rattle.std.specs.List.{All}
use Rattle.std.proofs.Common.{sym, ap, ◌∙◌, subst, arith}
use Rattle.channel_model.specs.declared.acts.Kind.TheVariants.{Unlimited}
use Rattle.channel_model.specs.declared.acts.Entry.{Entry}
use Rattle.channel_model.specs.Channels.{Shape, kind_at}
use Rattle.channel_model.specs.Histories.{acts_of, Legal}
use Rattle.channel_model.specs.Floors.{Floor}
use Rattle.channel_model.specs.Laws.{how_many}
use Rattle.permits.specs.Parts.{is_on, UsesPermits, MayFill}
use Rattle.permits.proofs.FillsGo.{uses_fresh}
use Rattle.worded.specs.Views.{has_tag}
use Rattle.cell_words.specs.declared.hub.Hub.{Hub}
use Rattle.cell_words.specs.declared.pass.Pass.{Pass}
use Rattle.cell_words.specs.Hubs.{shape_of, seen_by, IsOf}
use Rattle.cell_calls.specs.HubFloors.{hub_floor}
use Rattle.floor_tests.specs.declared.permit_calls.known_calls.Known.{Known}
use Rattle.floor_tests.specs.declared.permit_calls.three_callers.Three.{Three}
use Rattle.floor_tests.specs.declared.permit_calls.at_once.Worker.{Worker}
use Rattle.floor_tests.specs.KnownPermits.{Knows, Adds, IsWorker, used}
use Rattle.floor_tests.specs.AllThree.{AllKnow, AreFresh, AllHold}
use Rattle.floor_tests.proofs.KnownAfterCalls.{others_know}

-- the first channel keeps all
shape_kind : (places : ℕ) (s : Shape) → s ≡ (Unlimited, places) ∷ [] → (kind_at s 0 ≡ Unlimited) × (0 < length s)
shape_kind places s e = (ap (λ (x : Shape). kind_at x 0) e, subst (λ (x : Shape). 0 < length x) (sym e) (omega arith))

none_done : (who : ℕ) (es : List Entry) → acts_of who es ≡ acts_of who [] → how_many (is_on 0) (acts_of who es) ≡ 0
unfolding acts_of
none_done who es e = ap (how_many (is_on 0)) e

pub fresh_there : (places n who : ℕ) (f : Floor) → f.shape ≡ (Unlimited, places) ∷ [] → 1 ≤ n → n ≤ 65535 → f.callers who ≡ true
    → acts_of who f.seen ≡ acts_of who [] → MayFill 0 n who f
fresh_there places n who f e some few can none =
    let k = shape_kind places f.shape e in
    record {
      can = record { caller = can; channel = k.1 };
      kind = k.0;
      some = some;
      few = few;
      none = none_done who f.seen none;
    }

-- no act of a tag is what it did at the beginning
pub nothing_made : (who : ℕ) (es : List Entry) → acts_of who es ≡ [] → acts_of who es ≡ acts_of who []
unfolding acts_of
nothing_made who es e = e

knows_fresh : (c n who : ℕ) (f : Floor) → MayFill c n who f → Knows c n who (used 0) f
knows_fresh c n who f m = record { uses = uses_fresh c n who f m; wait = tt }

pub may_first : (c n who : ℕ) (f : Floor) → c ≡ 0 → MayFill 0 n who f → MayFill c n who f
may_first c n who f first m = subst (λ (d : ℕ). MayFill d n who f) (sym first) m

-- ---- on one floor

-- tag 0 has filled, and nobody else has called
pub all_filled : (k : Three) (a d : Floor) → Legal d.shape d.seen → a.alone ≡ true → ((t : ℕ) → MayFill 0 1 t a) → Adds 0 a d
    → UsesPermits 0 1 0 0 d → k.a ≡ used 0 → k.b ≡ used 0 → k.c ≡ used 0 → AllKnow k d
all_filled k a d l alone m adds uses of_a of_b of_c = record {
  alone = adds.added.same.alone ∙ alone;
  a = subst (λ (x : Known). Knows 0 1 0 x d) (sym of_a) (record { uses = uses; wait = tt });
  b = subst (λ (x : Known). Knows 0 1 1 x d) (sym of_b)
      (others_know 0 1 1 0 (used 0) a d l (λ q. omega (arith, q)) alone adds (knows_fresh 0 1 1 a (m 1)));
  c = subst (λ (x : Known). Knows 0 1 2 x d) (sym of_c)
      (others_know 0 1 2 0 (used 0) a d l (λ q. omega (arith, q)) alone adds (knows_fresh 0 1 2 a (m 2)));
}

-- ---- over words

-- the first has filled, and no other has called
pub all_hold : (k : Three) (hub : Hub) (first p q r : Pass) → AreFresh hub first q r → IsOf hub p → UsesPermits 0 1 0 0 (hub_floor hub p)
    → k.a ≡ used 0 → k.b ≡ used 0 → k.c ≡ used 0 → AllHold hub p q r k
all_hold k hub first p q r fresh of uses of_a of_b of_c = record {
  of_a = of;
  of_b = fresh.of_b;
  of_c = fresh.of_c;
  a = subst (λ (x : Known). Knows 0 1 0 x (hub_floor hub p)) (sym of_a) (record { uses = uses; wait = tt });
  b = subst (λ (x : Known). Knows 0 1 1 x (hub_floor hub q)) (sym of_b) (record { uses = fresh.b; wait = tt });
  c = subst (λ (x : Known). Knows 0 1 2 x (hub_floor hub r)) (sym of_c) (record { uses = fresh.c; wait = tt });
}

pub pass_fresh : (places n who : ℕ) (hub : Hub) (pass : Pass) → shape_of hub ≡ (Unlimited, places) ∷ [] → 1 ≤ n → n ≤ 65535
    → has_tag who (seen_by pass).tags ≡ true → acts_of who (seen_by pass).seen ≡ acts_of who [] → MayFill 0 n who (hub_floor hub pass)
pass_fresh places n who hub pass s some few tag none = fresh_there places n who (hub_floor hub pass) s some few tag none

pub four_work : (n : ℕ) (hub : Hub) (a b c d : Worker) → IsWorker n hub a → IsWorker n hub b → IsWorker n hub c → IsWorker n hub d
    → All (IsWorker n hub) (a ∷ b ∷ c ∷ d ∷ [])
four_work n hub a b c d x y z w = at
  where
    at : (k : ℕ) (e : Worker) → k < 4 → IsWorker n hub (get_or (a ∷ b ∷ c ∷ d ∷ []) k e)
    at zero e l = x
    at (suc zero) e l = y
    at (suc (suc zero)) e l = z
    at (suc (suc (suc zero))) e l = w
    at (suc (suc (suc (suc k)))) e l = absurd (omega (arith, l))
