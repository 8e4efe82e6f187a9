-- Where nobody else makes entries, a call that made none leaves each moment of it as the one before.
use Rattle.std.specs.Prelude.{◌≡◌, ℕ, true, List, [], ◌++◌}
use mathlib.Core.List.{IsPrefix}
use Rattle.std.proofs.Common.{sym, ap, ◌∙◌, subst, append_assoc}
use Rattle.channel_model.specs.declared.acts.Entry.{Entry}
use Rattle.channel_model.specs.Channels.{State}
use Rattle.channel_model.specs.Histories.{replay}
use Rattle.channel_model.specs.Floors.{Floor, HasRoom, Looked, AtStep}
use Rattle.channel_model.proofs.Spans.{nothing_more}
use Rattle.channel_model.proofs.Others.{nothing_left, front_empty}

same_moment : (xs m : List Entry) → IsPrefix xs m → IsPrefix m xs → m ≡ xs
same_moment xs m p q =
    let all : xs ++ (p.0 ++ q.0) ≡ xs = sym (append_assoc xs p.0 q.0) ∙ ap (λ l. l ++ q.0) p.1 ∙ q.1 in
    let none : p.0 ≡ [] = front_empty p.0 q.0 (nothing_left xs (p.0 ++ q.0) all) in
    sym p.1 ∙ ap (λ l. xs ++ l) none ∙ nothing_more xs

-- what was so at a step that left the history as it was, is so behind it
pub still_so : (a d : Floor) (P : State → Type 0) → AtStep a d P → d.seen ≡ a.seen → P (replay d.seen)
still_so a d P m same =
    let at : m.moment ≡ a.seen = same_moment a.seen m.moment m.after (subst (IsPrefix m.moment) same m.before) in
    subst (λ es. P (replay es)) (at ∙ sym same) m.holds

-- behind a look
pub still : (who n : ℕ) (a b d : Floor) (P : State → Type 0) → HasRoom n a b → Looked who b d → AtStep b d P → a.alone ≡ true
    → (d.seen ≡ a.seen) × P (replay d.seen)
still who n a b d P h l m alone =
    let same : d.seen ≡ b.seen = l.alone (h.same.alone ∙ alone) in
    (same ∙ h.seen, still_so b d P m same)
