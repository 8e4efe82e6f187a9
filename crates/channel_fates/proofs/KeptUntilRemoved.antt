-- An element that was put or admitted stands until it leaves the queue.
use Rattle.std.specs.Prelude.{◌≡◌, ℕ, ◌+◌, ◌≤◌, ◌==◌, Bool, true, false, not, ◌&&◌, cond, List, [], ◌∷◌, ◌++◌, filter, Option, Some, None, refl, if◌then◌else◌, MatchBool, is_some, is_none}
use Rattle.std.proofs.Common.{ap, sym, subst, ◌∙◌, arith}
use Rattle.std.proofs.lemmas.Bool.{eqb-true, both_ways, false_from_ne_true, false≢true, and_parts, and_right, cond_both}
use Rattle.co_base.specs.declared.names.WaitId.{WaitId}
use Rattle.channel_model.specs.declared.acts.Act.{Act}
use Rattle.channel_model.specs.declared.acts.Act.TheVariants.{Hand, Put, Offer, Await, Take, Admit, Drop, Spurn, Close, Void, Drain, WakeClosed, Withdraw, Settle}
use Rattle.channel_model.specs.declared.acts.Kind.{Kind}
use Rattle.channel_model.specs.declared.standing.Party.{Party}
use Rattle.channel_model.specs.declared.standing.Standing.{Standing}
use Rattle.channel_model.specs.declared.standing.Receiver.{Receiver}
use Rattle.channel_model.specs.declared.standing.Resolution.{Resolution}
use Rattle.channel_model.specs.Channels.{Shape, State, Channel, start, kind_at, is_full}
use Rattle.channel_model.specs.Effects.{after, resolve, resolve_first, resolve_holder, resolve_offer, remove_first, with_queue, without, is_held_by, put_channel, admitted, holder_at, is_open, place_offer, place_receiver, is_elsewhere, spurned}
use Rattle.channel_model.specs.Needs.{Needs, IsFirstOffer, MayBeAdmitted}
use Rattle.channel_model.specs.Fates.{is_at, removes}
use Rattle.channel_model.specs.Laws.{how_many}
use Rattle.channel_fates.proofs.OncePlaced.{put_by, Counted}
use Rattle.channel_model.proofs.Apart.{how_many_push}

-- ---- words

-- the act leaves an element at this place that nobody holds
abbrev pub frees : ℕ → ℕ → Act → Bool
frees c p (Put d q v) = is_at c p d q
frees c p (Admit d q) = is_at c p d q
frees c p other = false

-- nobody holds this offer, and it has this place
abbrev pub is_free : ℕ → Standing → Bool
is_free p o = (o.place == p) && is_none o.holder

abbrev pub free_with : ℕ → List Standing → ℕ
free_with p os = how_many (is_free p) os

-- no more go than leave
record Keeps (p : ℕ) (leaving coming : Bool) (ch ch' : Channel) : Type 0 where
  kept : free_with p ch.queue + cond coming 1 0 ≤ free_with p ch'.queue + cond leaving 1 0

-- ---- lists

-- a filter that lets all pass that are counted
pub filter_keeps : {X : Type 0} (f g : X → Bool) → ((x : X) → f x ≡ true → g x ≡ true) → (xs : List X)
    → how_many f xs ≤ how_many f (filter g xs)
filter_keeps f g k [] = omega arith
filter_keeps f g k (x ∷ xs) =
    let rest = filter_keeps f g k xs in
    cond_both (g x) (x ∷ filter g xs) (filter g xs) (λ l. how_many f (x ∷ xs) ≤ how_many f l) (λ e. omega arith)
    (λ e. let none : ◌≡◌ {A = ℕ} (cond (f x) 1 0) 0 = ap (λ b. cond b 1 0) (false_from_ne_true (f x) (λ t. both_ways (g x) e (k x t)))
    in omega arith)

free_not_held : (w : WaitId) (b : Bool) (h : Option Party) → (b && is_none h) ≡ true → not (is_held_by w h) ≡ true
free_not_held w b None e = refl
free_not_held w b (Some x) e = absurd (false≢true (and_parts b false e).1)

-- ---- what each act does

without_keeps : (p : ℕ) (w : WaitId) (ch : Channel) → free_with p ch.queue ≤ free_with p (without w ch).queue
without_keeps p w ch = filter_keeps (is_free p) (λ (o : Standing). not (is_held_by w o.holder))
    (λ o e. free_not_held w (o.place == p) o.holder e) ch.queue

unchanged : (p : ℕ) (ch : Channel) → Keeps p false false ch ch
unchanged p ch = record { kept = omega arith }

keeps_then : (p : ℕ) (a b : Bool) (x y z : Channel) → Keeps p a b x y → free_with p y.queue ≤ free_with p z.queue → Keeps p a b x z
keeps_then p a b x y z h l = record { kept = omega (arith, h.kept, l) }

resolved_keeps : (p c : ℕ) (w : WaitId) (how : Resolution) (s : State) → Keeps p false false (s.channels c) ((resolve w how s).channels c)
resolved_keeps p c w how s = let k = without_keeps p w (s.channels c) in record { kept = omega arith }

first_keeps : (p c : ℕ) (rs : List Receiver) (how : ℕ → Resolution) (s : State)
    → Keeps p false false (s.channels c) ((resolve_first rs how s).channels c)
first_keeps p c [] how s = unchanged p (s.channels c)
first_keeps p c (r ∷ rs) how s = resolved_keeps p c r.party.wait (how r.party.clause) s

holder_keeps : (p c : ℕ) (h : Option Party) (how : ℕ → Resolution) (s : State)
    → free_with p (s.channels c).queue ≤ free_with p ((resolve_holder h how s).channels c).queue
holder_keeps p c None how s = omega arith
holder_keeps p c (Some x) how s = without_keeps p x.wait (s.channels c)

part_less : (a b : Bool) → cond (a && b) 1 0 ≤ cond a 1 0
part_less true true = omega arith
part_less true false = omega arith
part_less false b = omega arith

first_goes : (p q : ℕ) (o : Standing) (os : List Standing) (ch : Channel) → ch.queue ≡ o ∷ os → o.place ≡ q
    → Keeps p (q == p) false ch (record ch { queue = os })
first_goes p q o os ch e f =
    let at : free_with p ch.queue ≡ cond (is_free p o) 1 0 + free_with p os = ap (free_with p) e in
    let less = part_less (o.place == p) (is_none o.holder) in
    let same : ◌≡◌ {A = ℕ} (cond (o.place == p) 1 0) (cond (q == p) 1 0) = ap (λ n. cond (n == p) 1 0) f in
    record { kept = omega arith }

queue_pops : (c p d q : ℕ) (o : Standing) (os : List Standing) (s : State) → (s.channels d).queue ≡ o ∷ os → o.place ≡ q
    → Keeps p (is_at c p d q) false (s.channels c) ((with_queue d os s).channels c)
queue_pops c p d q o os s e f = put_by (λ b. Keeps p b false) d c (q == p) (record (s.channels d) { queue = os }) s.channels
    (first_goes p q o os (s.channels d) e f) (unchanged p (s.channels c))

offer_goes : (c p d q v : ℕ) (os : List Standing) (how : ℕ → Resolution) (s : State) → (s.channels d).queue ≡ os → IsFirstOffer q v os
    → Keeps p (is_at c p d q) false (s.channels c) ((resolve_offer d os how s).channels c)
offer_goes c p d q v [] how s e n = absurd n
offer_goes c p d q v (o ∷ os) how s e n =
    keeps_then p _ _ (s.channels c) ((with_queue d os s).channels c) ((resolve_holder o.holder how (with_queue d os s)).channels c)
    (queue_pops c p d q o os s e n.0) (holder_keeps p c o.holder how (with_queue d os s))

offer_drops : (c p d q v : ℕ) (os : List Standing) (s : State) → (s.channels d).queue ≡ os → IsFirstOffer q v os
    → Keeps p (is_at c p d q) false (s.channels c) ((remove_first d os s).channels c)
offer_drops c p d q v [] s e n = absurd n
offer_drops c p d q v (o ∷ os) s e n = queue_pops c p d q o os s e n.0

-- the offers without that at q, if at most one stands at each place
spurned_keeps : (p q : ℕ) (os : List Standing) → how_many (λ (o : Standing). o.place == p) os ≤ 1
    → free_with p os ≤ free_with p (spurned q os) + cond (q == p) 1 0
spurned_keeps p q os once = by_test (q == p) refl
  where
    free_less : (xs : List Standing) → free_with p xs ≤ how_many (λ (o : Standing). o.place == p) xs
    free_less [] = omega arith
    free_less (x ∷ xs) = omega (arith, part_less (x.place == p) (is_none x.holder), free_less xs)

    apart : (q == p) ≡ false → (o : Standing) → is_free p o ≡ true → is_elsewhere q o ≡ true
    apart e o f = by_place (o.place == q) refl (o.place == p) refl f
      where
        by_place : (a : Bool) → (o.place == q) ≡ a → (b : Bool) → (o.place == p) ≡ b → (b && is_none o.holder) ≡ true → not a ≡ true
        by_place false m b k f = refl
        by_place true m true k f = let is : (q == p) ≡ true = ap (λ n. n == p) (sym (eqb-true o.place q m)) ∙ k
            in absurd (let no_way : true ≡ false = sym is ∙ e in cc)
        by_place true m false k f = cc

    by_test : (b : Bool) → (q == p) ≡ b → free_with p os ≤ free_with p (spurned q os) + cond b 1 0
    by_test true e = let l = free_less os in omega arith
    by_test false e = let l = filter_keeps (is_free p) (is_elsewhere q) (apart e) os in omega arith

offer_spurned : (c p d q : ℕ) (s : State) → how_many (λ (o : Standing). o.place == p) (s.channels c).queue ≤ 1
    → Keeps p (is_at c p d q) false (s.channels c) ((with_queue d (spurned q (s.channels d).queue) s).channels c)
offer_spurned c p d q s once = by_test (d == c) refl
  where
    by_test : (t : Bool) → (d == c) ≡ t → Keeps p (t && (q == p)) false (s.channels c)
        (if t then record (s.channels d) { queue = spurned q (s.channels d).queue } else s.channels c)
    by_test true e = subst (λ n. Keeps p (q == p) false (s.channels c) (record (s.channels n) { queue = spurned q (s.channels n).queue }))
        (sym (eqb-true d c e)) (let l = spurned_keeps p q (s.channels c).queue once in record { kept = omega arith })
    by_test false e = unchanged p (s.channels c)

offer_comes : (p : ℕ) (b : Bool) (o : Standing) (ch : Channel) → Keeps p false false ch (place_offer b o ch)
offer_comes p false o ch = record { kept = omega arith }
offer_comes p true o ch = let k = how_many_push (is_free p) ch.queue o in record { kept = omega arith }

and_last : (b : Bool) → (b && true) ≡ b
and_last true = refl
and_last false = refl

put_comes : (p q v : ℕ) (ch : Channel) → Keeps p false (q == p) ch (place_offer true (record { place = q; value = v; holder = None }) ch)
put_comes p q v ch =
    let o : Standing = record { place = q; value = v; holder = None } in
    let k = how_many_push (is_free p) ch.queue o in
    let same : ◌≡◌ {A = ℕ} (cond (is_free p o) 1 0) (cond (q == p) 1 0) = ap (λ b. cond b 1 0) (and_last (q == p)) in
    record { kept = omega arith }

receiver_comes : (p : ℕ) (b : Bool) (r : Receiver) (ch : Channel) → Keeps p false false ch (place_receiver b r ch)
receiver_comes p false r ch = record { kept = omega arith }
receiver_comes p true r ch = record { kept = omega arith }

held_not_free : (p : ℕ) (b : Bool) (h : Option Party) → is_some h ≡ true → (b && is_none h) ≡ false
held_not_free p b None e = cc
held_not_free p b (Some x) e = and_right b false refl

freed : (p q n : ℕ) (kind : Kind) (os : List Standing) → MayBeAdmitted kind q n os
    → free_with p os + cond (q == p) 1 0 ≤ free_with p (admitted q os)
freed p q n kind [] m = absurd m
freed p q n kind (o ∷ os) m = by_test (o.place == q) refl m (freed p q (n + 1) kind os)
  where
    by_test : (b : Bool) → (o.place == q) ≡ b → MatchBool b ((is_some o.holder ≡ true)
        × (is_full kind n ≡ false)) (MayBeAdmitted kind q (n + 1) os)
        → (MayBeAdmitted kind q (n + 1) os → free_with p os + cond (q == p) 1 0 ≤ free_with p (admitted q os))
        → free_with p (o ∷ os) + cond (q == p) 1 0 ≤ free_with p (if b then record o { holder = None } ∷ os else o ∷ admitted q os)
    by_test true e m k =
        let before : ◌≡◌ {A = ℕ} (cond (is_free p o) 1 0) 0 = ap (λ b. cond b 1 0) (held_not_free p (o.place == p) o.holder m.0) in
        let now : ◌≡◌ {A = ℕ} (cond ((o.place == p) && true) 1 0) (cond (q == p) 1 0) = ap (λ b. cond b 1 0) (and_last (o.place == p))
        ∙ ap (λ x. cond (x == p) 1 0) (eqb-true o.place q e) in
        omega arith
    by_test false e m k = let l = k m in omega arith

put_unchanged : (c p d : ℕ) (x : Channel) (s : State) → Keeps p false false (s.channels d) x
    → Keeps p false false (s.channels c) (put_channel d x s.channels c)
put_unchanged c p d x s h = put_by (λ b. Keeps p false false) d c false x s.channels h (unchanged p (s.channels c))

act_keeps : (c p : ℕ) (shape : Shape) (s : State) (who : ℕ) (act : Act) → how_many (λ (o : Standing). o.place == p) (s.channels c).queue ≤ 1
    → Needs shape s who act → Keeps p (removes c p act) (frees c p act) (s.channels c) ((after s who act).channels c)
act_keeps c p shape s who (Hand d q v) once n = first_keeps p c (s.channels d).receivers _ s
act_keeps c p shape s who (Put d q v) once n = put_by (λ b. Keeps p false b) d c (q == p)
    (place_offer true (record { place = q; value = v; holder = None }) (s.channels d)) s.channels (put_comes p q v (s.channels d))
    (unchanged p (s.channels c))
act_keeps c p shape s who (Offer d q v w k) once n = put_unchanged c p d _ s
    (offer_comes p (is_open (s.waits w)) (record { place = q; value = v; holder = Some (record { wait = w; clause = k }) }) (s.channels d))
act_keeps c p shape s who (Await d q w k) once n = put_unchanged c p d _ s
    (receiver_comes p (is_open (s.waits w)) (record { place = q; party = record { wait = w; clause = k } }) (s.channels d))
act_keeps c p shape s who (Take d q v) once n = offer_goes c p d q v _ _ s refl n.1
act_keeps c p shape s who (Admit d q) once n =
    keeps_then p _ _ (s.channels c) ((with_queue d (admitted q (s.channels d).queue) s).channels c) _
    (put_by (λ b. Keeps p false b) d c (q == p) (record (s.channels d) { queue = admitted q (s.channels d).queue }) s.channels
    (let k = freed p q 0 (kind_at shape d) (s.channels d).queue n.1 in record { kept = omega arith }) (unchanged p (s.channels c)))
    (holder_keeps p c (holder_at q (s.channels d).queue) _ (with_queue d (admitted q (s.channels d).queue) s))
act_keeps c p shape s who (Drop d q v) once n = offer_drops c p d q v _ s refl n.2
act_keeps c p shape s who (Spurn d q v) once n = offer_spurned c p d q s once
act_keeps c p shape s who (Close d v) once n = put_unchanged c p d _ s (record { kept = omega arith })
act_keeps c p shape s who (Void d) once n = put_unchanged c p d _ s (record { kept = omega arith })
act_keeps c p shape s who (Drain d q v) once n = offer_goes c p d q v _ _ s refl n.2
act_keeps c p shape s who (WakeClosed d q) once n = first_keeps p c (s.channels d).receivers _ s
act_keeps c p shape s who (Withdraw w why) once n = record { kept = (let k = without_keeps p w (s.channels c) in omega arith) }
act_keeps c p shape s who (Settle w outcome) once n = unchanged p (s.channels c)

-- ---- all acts

-- what was put or admitted stands, or left
pub record KeptUntil (acts : List Act) (s : State) : Type 0 where
  pub kept : (c p : ℕ) → how_many (frees c p) acts ≤ how_many (removes c p) acts + free_with p (s.channels c).queue

pub kept_after : (shape : Shape) (acts : List Act) (s : State) (who : ℕ) (act : Act) → Needs shape s who act
    → ((c p : ℕ) → Counted c p acts (s.channels c)) → KeptUntil acts s → KeptUntil (acts ++ act ∷ []) (after s who act)
kept_after shape acts s who act n told h = record {
  kept = λ c p. kept_then (how_many (frees c p) acts) _ _ _ _ _ _ _ (h.kept c p)
      (act_keeps c p shape s who act (let t = told c p in omega (arith, t.queue, t.given)) n).kept (how_many_push (frees c p) acts act)
      (how_many_push (removes c p) acts act);
}
  where
    kept_then : (f l x y a b f' l' : ℕ) → f ≤ l + x → x + a ≤ y + b → f' ≡ f + a → l' ≡ l + b → f' ≤ l' + y
    kept_then f l x y a b f' l' h k e m = omega arith

pub start_kept : KeptUntil [] start
start_kept = record { kept = λ c p. omega arith }
