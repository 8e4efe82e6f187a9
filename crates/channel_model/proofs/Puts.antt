-- A Put of a call is its own from then on, and a drop up to its place is what follows it.
use Rattle.std.specs.Prelude.{◌≡◌, ℕ, ◌≤◌, ◌==◌, nat_le, Bool, true, false, ◌&&◌, ◌||◌, List, [], ◌∷◌, ◌++◌, length, refl}
use Rattle.std.specs.List.{list_any}
use Rattle.std.proofs.Common.{ap, ◌∙◌, subst, arith}
use Rattle.std.proofs.lemmas.Bool.Decides.{nat_tests}
use Rattle.std.proofs.lemmas.List.Folds.{list_any-append}
use Rattle.std.proofs.lemmas.Bool.{or_right}
use Rattle.channel_model.specs.declared.acts.Kind.{Kind}
use Rattle.channel_model.specs.declared.acts.Kind.TheVariants.{Conflated, DropOldest}
use Rattle.channel_model.specs.declared.acts.Act.{Act}
use Rattle.channel_model.specs.declared.acts.Act.TheVariants.{Put, Drop}
use Rattle.channel_model.specs.declared.acts.Entry.{Entry}
use Rattle.channel_model.specs.Channels.{kind_at, drops}
use Rattle.channel_model.specs.Histories.{replay, Legal, acts_of}
use Rattle.channel_model.specs.Floors.{Floor, Made, Added}
use Rattle.channel_model.specs.Answers.{HasPut, is_put_at}
use Rattle.channel_model.specs.Puts.{drops_up_to, follows_put}
use Rattle.channel_model.proofs.Histories.{Legal-last}
use Rattle.channel_model.proofs.Placed.{same_number}
use Rattle.channel_model.proofs.Spans.{added_made}

here_below : (c p place v : ℕ) → p ≤ place → drops_up_to c place (Drop c p v) ≡ true
here_below c p place v h = ap (λ b. b && nat_le p place) (same_number c) ∙ (let k : nat_le p place ≡ true = grind (arith, nat_tests) in k)

dropping : (kind : Kind) (c p place v n : ℕ) → drops kind n ≡ true → p ≤ place → follows_put kind c place (Drop c p v) ≡ true
dropping Conflated c p place v n d h = here_below c p place v h
dropping (DropOldest k) c p place v n d h = here_below c p place v h
dropping other c p place v n d h = cc

-- a drop that a call made up to its own place follows its Put
pub drop_follows : (who c p v place : ℕ) (a b : Floor) → Legal b.shape b.seen → Made who (Drop c p v) a b → p ≤ place
    → follows_put (kind_at b.shape c) c place (Drop c p v) ≡ true
drop_follows who c p v place a b l m h =
    let last : Entry = record { who = who; act = Drop c p v } in
    let needs = (Legal-last b.shape m.before last (subst (Legal b.shape) m.last l)).1 in
    dropping (kind_at b.shape c) c p place v (length ((replay m.before).channels c).queue) needs.1 h

-- ---- whose a Put is

any_last : (p : Act → Bool) (acts : List Act) (act : Act) → p act ≡ true → list_any p (acts ++ act ∷ []) ≡ true
any_last p acts act e = list_any-append p acts (act ∷ []) ∙ ap (λ b. list_any p acts || (b || false)) e
    ∙ or_right (list_any p acts) true refl

here_put : (c p v : ℕ) → is_put_at c p (Put c p v) ≡ true
here_put c p v = ap (λ b. b && (p == p)) (same_number c) ∙ same_number p

-- right after the act
pub put_owned : (who c p v : ℕ) (a b : Floor) → Made who (Put c p v) a b → HasPut who c p b
put_owned who c p v a b m = ap (list_any (is_put_at c p)) (added_made who (Put c p v) a b m).mine
    ∙ any_last (is_put_at c p) (acts_of who a.seen) (Put c p v) (here_put c p v)

-- and after all that the caller does
pub put_lasts : (who c p : ℕ) (acts : List Act) (a b : Floor) → Added who acts a b → HasPut who c p a → HasPut who c p b
put_lasts who c p acts a b h put = ap (list_any (is_put_at c p)) h.mine ∙ list_any-append (is_put_at c p) (acts_of who a.seen) acts
    ∙ ap (λ b. b || list_any (is_put_at c p) acts) put
