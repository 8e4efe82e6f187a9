-- What several calls of one caller add to what was seen.
use Rattle.std.specs.Prelude.{◌≡◌, ℕ, List, [], ◌∷◌, ◌++◌, refl, if◌then◌else◌}
use mathlib.Core.List.{IsPrefix}
use Rattle.co_base.proofs.Orders.{order_then}
use Rattle.std.proofs.Common.{sym, ap, ◌∙◌, append_assoc}
use Rattle.std.proofs.lemmas.Bool.{eq-eqb}
pub use mathlib.Core.List.{append-nil as nothing_more}
use Rattle.channel_model.specs.declared.acts.Act.{Act}
use Rattle.channel_model.specs.declared.acts.Entry.{Entry}
use Rattle.channel_model.specs.Channels.{State}
use Rattle.channel_model.specs.Histories.{acts_of}
use Rattle.channel_model.proofs.Histories.{acts_of-append}
use Rattle.channel_model.specs.Floors.{Floor, SameSetting, HasRoom, Looked, Made, AtStep, entries_by, Added}

pub prefix_self : (xs : List Entry) → IsPrefix xs xs
prefix_self xs = ([], nothing_more xs)

pub prefix_then : (xs ys zs : List Entry) → IsPrefix xs ys → IsPrefix ys zs → IsPrefix xs zs
prefix_then xs ys zs h k = (h.0 ++ k.0, sym (append_assoc xs h.0 k.0) ∙ ap (λ l. l ++ k.0) h.1 ∙ k.1)

pub prefix_append : (xs ys zs : List Entry) → IsPrefix xs ys → IsPrefix xs (ys ++ zs)
prefix_append xs ys zs h = prefix_then xs ys (ys ++ zs) h (zs, refl)

pub setting_then : (a b c : Floor) → SameSetting a b → SameSetting b c → SameSetting a c
setting_then a b c h k = record {
  shape = k.shape ∙ h.shape;
  alone = k.alone ∙ h.alone;
  callers = k.callers ∙ h.callers;
  order = order_then a.order b.order c.order h.order k.order;
}

pub added_none : (who : ℕ) (old new : Floor) → SameSetting old new → new.seen ≡ old.seen → Added who [] old new
added_none who old new same e = record {
  same = same;
  longer = ([], nothing_more old.seen ∙ sym e);
  mine = ap (acts_of who) e ∙ sym (nothing_more (acts_of who old.seen));
  alone = λ a. e ∙ sym (nothing_more old.seen);
}

pub added_room : (who n : ℕ) (old new : Floor) → HasRoom n old new → Added who [] old new
added_room who n old new h = added_none who old new h.same h.seen

pub added_looked : (who : ℕ) (old new : Floor) → Looked who old new → Added who [] old new
added_looked who old new h = record {
  same = h.same;
  longer = h.longer;
  mine = h.mine ∙ sym (nothing_more (acts_of who old.seen));
  alone = λ a. h.alone a ∙ sym (nothing_more old.seen);
}

own_act : (who : ℕ) (act : Act) → acts_of who (record { who = who; act = act } ∷ []) ≡ act ∷ []
unfolding acts_of
own_act who act = ap (λ b. if b then act ∷ [] else []) (eq-eqb who who refl)

pub added_made : (who : ℕ) (act : Act) (old new : Floor) → Made who act old new → Added who (act ∷ []) old new
added_made who act old new h = record {
  same = h.same;
  longer = (let k = prefix_append old.seen h.before (record { who = who; act = act } ∷ []) h.longer in (k.0, k.1 ∙ sym h.last));
  mine = ap (acts_of who) h.last ∙ acts_of-append who h.before (record { who = who; act = act } ∷ [])
      ∙ ap (λ l. l ++ acts_of who (record { who = who; act = act } ∷ [])) h.mine ∙ ap (λ l. acts_of who old.seen ++ l) (own_act who act);
  alone = λ a. h.last ∙ ap (λ l. l ++ record { who = who; act = act } ∷ []) (h.alone a);
}

entries_append : (who : ℕ) (xs ys : List Act) → entries_by who (xs ++ ys) ≡ entries_by who xs ++ entries_by who ys
entries_append who [] ys = refl
entries_append who (x ∷ xs) ys = ap (λ l. record { who = who; act = x } ∷ l) (entries_append who xs ys)

-- one call after another
pub added_then : (who : ℕ) (xs ys : List Act) (a b c : Floor) → Added who xs a b → Added who ys b c → Added who (xs ++ ys) a c
added_then who xs ys a b c h k = record {
  same = setting_then a b c h.same k.same;
  longer = prefix_then a.seen b.seen c.seen h.longer k.longer;
  mine = k.mine ∙ ap (λ l. l ++ ys) h.mine ∙ append_assoc (acts_of who a.seen) xs ys;
  alone = λ e. k.alone (h.same.alone ∙ e) ∙ ap (λ l. l ++ entries_by who ys) (h.alone e)
      ∙ append_assoc a.seen (entries_by who xs) (entries_by who ys) ∙ ap (λ l. a.seen ++ l) (sym (entries_append who xs ys));
}

-- a moment of one call is one of a longer span
pub moment_within : (a b c d : Floor) (P : State → Type 0) → IsPrefix a.seen b.seen → AtStep b c P → IsPrefix c.seen d.seen → AtStep a d P
moment_within a b c d P h m k = record {
  moment = m.moment;
  after = prefix_then a.seen b.seen m.moment h m.after;
  before = prefix_then m.moment c.seen d.seen m.before k;
  holds = m.holds;
}
