-- Who uses permits goes on to, by what a call tells.
use Rattle.std.specs.Prelude.{◌≡◌, ℕ, ◌+◌, ◌<◌, ◌≤◌, ◌==◌, Bool, true, false, ◌&&◌, cond, List, [], ◌∷◌, ◌++◌, length, Ok, refl}
use Rattle.std.proofs.Common.{sym, ap, ◌∙◌, subst, arith, append_assoc, Fits, w32}
use Rattle.std.proofs.lemmas.Bool.{or_right}
use Rattle.co_base.specs.declared.names.WaitId.{WaitId}
use Rattle.channel_model.specs.declared.acts.Act.{Act}
use Rattle.channel_model.specs.declared.acts.Act.TheVariants.{Hand, Put, Await, Take, Withdraw, Settle}
use Rattle.channel_model.specs.declared.acts.ChannelNote.{ChannelNote}
use Rattle.channel_model.specs.declared.acts.Settled.{Settled}
use Rattle.channel_model.specs.declared.acts.Settled.TheVariants as settled
use Rattle.channel_model.specs.declared.acts.Why.{Why}
use Rattle.channel_model.specs.declared.acts.Why.TheVariants as why
use Rattle.channel_model.specs.Channels.{Shape, kind_at, IsShape}
use Rattle.channel_model.specs.Histories.{acts_of, Legal}
use Rattle.channel_model.specs.Floors.{Floor, SameSetting, Added, MayCall}
use Rattle.channel_model.proofs.Placed.{same_number}
use Rattle.channel_model.proofs.Spans.{nothing_more}
use Rattle.note_book.specs.Items.{channel_act}
use Rattle.call_meaning.specs.Telling.{Told, ChannelFact, on_channels, items_in, made, heard}
use Rattle.call_meaning.specs.Seen.{SeenOnChannels}
use Rattle.call_meaning.specs.Calls.{ToldOnChannels}
use Rattle.call_meaning.proofs.ChannelsHeard.{told_then}
use Rattle.channel_calls.specs.Calls.{Tells, IsUntouched, DispatchedAnswer, end_told}
use Rattle.channel_calls.specs.Parts.{EndsCancelled}
use Rattle.channel_calls.proofs.Untold.{untouched_told}
use Rattle.permits.specs.Parts.{is_permit_act, gives_permit, gets_permit, brings_element, is_filler, given, held, IsPermitPart, UsesPermits}
use Rattle.permits.specs.Answers.{TakesOne, AwaitsOne, GivesOne, GivenJust, EndsThen, GivesAgain}
use Rattle.permits.proofs.PartsGo.{Goes, goes_getting, goes_giving, one_false}
use Rattle.permits.proofs.Bounds.{got_bound}

-- ---- what a call added

pub told_adds : {act : Act} {a d : SeenOnChannels} → ToldOnChannels a d (made act ∷ []) → Added a.who (act ∷ []) a.floor d.floor
unfolding items_in
told_adds h = h.added

pub heard_adds : {n : ChannelNote} {a d : SeenOnChannels} → channel_act n ≡ [] → ToldOnChannels a d (heard n ∷ [])
    → Added a.who [] a.floor d.floor
unfolding items_in
heard_adds {n} {a} {d} e h = subst (λ l. Added a.who l a.floor d.floor) (nothing_more (channel_act n) ∙ e) h.added

pub met_adds : {fact : ChannelFact} {n : ChannelNote} {a d : SeenOnChannels} → channel_act n ≡ []
    → ToldOnChannels a d (on_channels fact ∷ heard n ∷ []) → Added a.who [] a.floor d.floor
unfolding items_in
met_adds {fact} {n} {a} {d} e h = subst (λ l. Added a.who l a.floor d.floor) (nothing_more (channel_act n) ∙ e) h.added

pub fact_adds : {fact : ChannelFact} {act : Act} {a d : SeenOnChannels} → ToldOnChannels a d (on_channels fact ∷ made act ∷ [])
    → Added a.who (act ∷ []) a.floor d.floor
unfolding items_in
fact_adds h = h.added

pub two_add : {one two : Act} {a d : SeenOnChannels} → ToldOnChannels a d (made one ∷ made two ∷ [])
    → Added a.who (one ∷ two ∷ []) a.floor d.floor
unfolding items_in
two_add h = h.added

pub late_adds : {n : ChannelNote} {act : Act} {a d : SeenOnChannels} → channel_act n ≡ [] → ToldOnChannels a d (heard n ∷ made act ∷ [])
    → Added a.who (act ∷ []) a.floor d.floor
unfolding items_in
late_adds {n} {act} {a} {d} e h = subst (λ l. Added a.who (l ++ act ∷ []) a.floor d.floor) e h.added

pub can_kept : (c who : ℕ) (a d : Floor) → SameSetting a d → MayCall who c a → MayCall who c d
can_kept c who a d same m = record {
  caller = ap (λ (f : ℕ → Bool). f who) same.callers ∙ m.caller;
  channel = subst (λ (s : Shape). c < length s) (sym same.shape) m.channel;
}

-- ---- who uses permits, after that

pub uses_added : (c n who count count' : ℕ) (act : Act) (a d : Floor) → Added who (act ∷ []) a d → UsesPermits c n who count a
    → Goes c n count count' (acts_of who a.seen) (acts_of who a.seen ++ act ∷ []) → UsesPermits c n who count' d
uses_added c n who count count' act a d h u g =
    let mine = sym h.mine in
    record {
      holds = record {
        can = can_kept c who a d h.same u.holds.can;
        kind = ap (λ (s : Shape). kind_at s c) h.same.shape ∙ u.holds.kind;
        some = u.holds.some;
        few = u.holds.few;
        part = subst (IsPermitPart c n) mine g.part;
        count_is = g.count_is ∙ ap (held c n) mine;
      };
      filled = subst (λ l. is_filler c l ≡ true → n ≤ given c l) mine (g.filled u.filled);
    }

-- who has the same acts uses permits as before
pub uses_kept : (c n who count : ℕ) (a d : Floor) → SameSetting a d → acts_of who d.seen ≡ acts_of who a.seen → UsesPermits c n who count a
    → UsesPermits c n who count d
uses_kept c n who count a d same e u = record {
  holds = record {
    can = can_kept c who a d same u.holds.can;
    kind = ap (λ (s : Shape). kind_at s c) same.shape ∙ u.holds.kind;
    some = u.holds.some;
    few = u.holds.few;
    part = subst (IsPermitPart c n) (sym e) u.holds.part;
    count_is = u.holds.count_is ∙ ap (held c n) (sym e);
  };
  filled = subst (λ l. is_filler c l ≡ true → n ≤ given c l) (sym e) u.filled;
}

pub uses_still : (c n who count : ℕ) (a d : Floor) → Added who [] a d → UsesPermits c n who count a → UsesPermits c n who count d
uses_still c n who count a d h u = uses_kept c n who count a d h.same (h.mine ∙ nothing_more (acts_of who a.seen)) u

-- an act that gives no permit, and gets one or not
pub uses_getting : (c n who count : ℕ) (act : Act) (b : Bool) (a d : Floor) → Added who (act ∷ []) a d → UsesPermits c n who count a
    → is_permit_act c act ≡ true → gives_permit c act ≡ false → gets_permit c act ≡ b → UsesPermits c n who (count + cond b 1 0) d
uses_getting c n who count act b a d h u fits gives gets =
    uses_added c n who count _ act a d h u (goes_getting c n count (acts_of who a.seen) act b u.holds.part u.holds.count_is fits gives gets)

pub uses_giving : (c n who count : ℕ) (act : Act) (a d : Floor) → Added who (act ∷ []) a d → UsesPermits c n who (count + 1) a
    → is_permit_act c act ≡ true → gives_permit c act ≡ true → gets_permit c act ≡ false → UsesPermits c n who count d
uses_giving c n who count act a d h u fits gives gets =
    uses_added c n who (count + 1) count act a d h u (goes_giving c n count (acts_of who a.seen) act u.holds.part u.holds.count_is u.filled
    fits gives gets)

-- two acts, of which the second settles
uses_two : (c n who count : ℕ) (w : WaitId) (why : Why) (outcome : Settled) (a d : Floor) → w.channel ≡ c
    → Added who (Withdraw w why ∷ Settle w outcome ∷ []) a d → UsesPermits c n who count a
    → UsesPermits c n who (count + cond (brings_element outcome) 1 0) d
uses_two c n who count w why outcome a d here h u =
    let first = goes_getting c n count (acts_of who a.seen) (Withdraw w why) false u.holds.part u.holds.count_is refl refl refl in
    let is : (w.channel == c) ≡ true = ap (λ (x : ℕ). x == c) here ∙ same_number c in
    let second = goes_getting c n (count + 0) (acts_of who a.seen
    ++ Withdraw w why ∷ []) (Settle w outcome) (brings_element outcome) first.part first.count_is refl refl
    (ap (λ (b : Bool). b && brings_element outcome) is) in
    let mine : (acts_of who a.seen ++ Withdraw w why ∷ [])
    ++ Settle w outcome ∷ [] ≡ acts_of who d.seen = append_assoc (acts_of who a.seen) (Withdraw w why ∷ []) (Settle w outcome ∷ [])
    ∙ sym h.mine in
    let same : count + 0 + cond (brings_element outcome) 1 0 ≡ count + cond (brings_element outcome) 1 0 = omega arith in
    record {
      holds = record {
        can = can_kept c who a d h.same u.holds.can;
        kind = ap (λ (s : Shape). kind_at s c) h.same.shape ∙ u.holds.kind;
        some = u.holds.some;
        few = u.holds.few;
        part = subst (IsPermitPart c n) mine second.part;
        count_is = sym same ∙ second.count_is ∙ ap (held c n) mine;
      };
      filled = subst (λ l. is_filler c l ≡ true → n ≤ given c l) mine (second.filled (first.filled u.filled));
    }

-- ---- by the steps

pub uses_taking : {c n v count : ℕ} {a d : SeenOnChannels} → TakesOne c v a d → UsesPermits c n a.who count a.floor
    → UsesPermits c n a.who (count + 1) d.floor
uses_taking {c} {n} {v} {count} {a} {d} t u =
    uses_getting c n a.who count (Take c t.place v) true a.floor d.floor (told_adds t.told) u refl refl (same_number c)

pub uses_awaiting : {c n count : ℕ} {w : WaitId} {a d : SeenOnChannels} → AwaitsOne c w a d → UsesPermits c n a.who count a.floor
    → UsesPermits c n a.who count d.floor
uses_awaiting {c} {n} {count} {w} {a} {d} t u =
    let r = uses_getting c n a.who count (Await c t.place w 0) false a.floor d.floor (told_adds t.told) u (or_right _ true refl) refl refl
    in
    subst (λ m. UsesPermits c n a.who m d.floor) (let e : count + 0 ≡ count = omega arith in e) r

pub uses_given : {c n v count : ℕ} {a d : SeenOnChannels} → GivenJust c v a d → UsesPermits c n a.who (count + 1) a.floor
    → UsesPermits c n a.who count d.floor
uses_given {c} {n} {v} {count} {a} {d} t u = by_act t.act t.gives (told_adds t.told)
  where
    by_act : (act : Act) → GivesOne c v act → Added a.who (act ∷ []) a.floor d.floor → UsesPermits c n a.who count d.floor
    by_act _ (GivesOne.hands place) h = uses_giving c n a.who count (Hand c place v) a.floor d.floor h u refl (same_number c) refl
    by_act _ (GivesOne.puts place) h = uses_giving c n a.who count (Put c place v) a.floor d.floor h u refl (same_number c) refl

pub uses_settling : (c n who count : ℕ) (w : WaitId) (outcome : Settled) (a d : Floor) → w.channel ≡ c
    → Added who (Settle w outcome ∷ []) a d → UsesPermits c n who count a
    → UsesPermits c n who (count + cond (brings_element outcome) 1 0) d
uses_settling c n who count w outcome a d here h u =
    uses_getting c n who count (Settle w outcome) (brings_element outcome) a d h u refl refl
    (ap (λ (x : ℕ). (x == c) && brings_element outcome) here ∙ ap (λ (b : Bool). b && brings_element outcome) (same_number c))

-- ---- the number fits

pub one_more_fits : (count : ℕ) → count ≤ 2097152 → Fits w32 (count + 1)
one_more_fits count h = record { fits = omega arith }

pub count_small : (c n who count : ℕ) (floor : Floor) → Legal floor.shape floor.seen → IsShape floor.shape → UsesPermits c n who count floor
    → count ≤ 2097152
count_small c n who count floor l s u =
    let g = got_bound floor.shape c who floor.seen l s u.holds.can.channel in
    let e = u.holds.count_is in
    omega arith

-- ---- by the end of a wait

-- a wait that ended as it was resolved gives the permit that was handed to it
pub uses_ending : (w : WaitId) (outcome : Settled) {c n count : ℕ} {a d : SeenOnChannels} → w.channel ≡ c
    → DispatchedAnswer w false a d (Ok outcome) → UsesPermits c n a.who count a.floor
    → UsesPermits c n a.who (count + cond (brings_element outcome) 1 0) d.floor
uses_ending w outcome {c} {n} {count} {a} {d} here h u = uses_settling c n a.who count w outcome a.floor d.floor here (adds outcome h.0) u
  where
    adds : (x : Settled) → ToldOnChannels a d (end_told w false x) → Added a.who (Settle w x ∷ []) a.floor d.floor
    adds (settled.Value j v) t = told_adds t
    adds (settled.Sent j) t = told_adds t
    adds (settled.Closed j v) t = told_adds t
    adds settled.Cancelled t = fact_adds t
    adds (settled.Undelivered v) t = told_adds t

pub uses_ending_none : (w : WaitId) (outcome : Settled) {c n count : ℕ} {a d : SeenOnChannels} → w.channel ≡ c
    → DispatchedAnswer w false a d (Ok outcome) → brings_element outcome ≡ false → UsesPermits c n a.who count a.floor
    → UsesPermits c n a.who count d.floor
uses_ending_none w outcome {c} {n} {count} {a} {d} here h none u =
    let z = one_false (brings_element outcome) none in
    subst (λ m. UsesPermits c n a.who m d.floor) (let e : count + cond (brings_element outcome) 1 0 ≡ count = omega (arith, z) in e)
    (uses_ending w outcome here h u)

-- one that ended as cancelled too, whether it was taken back or that came too late
pub uses_cancelling : {c n count : ℕ} {w : WaitId} {outcome : Settled} {a d : SeenOnChannels} → w.channel ≡ c
    → Tells (EndsCancelled w outcome) a d → UsesPermits c n a.who count a.floor
    → UsesPermits c n a.who (count + cond (brings_element outcome) 1 0) d.floor
uses_cancelling {c} {n} {count} {w} {outcome} {a} {d} here t u = by_case outcome t.told t.goes t.left
  where
    by_case : (outcome : Settled) (told : List Told) → EndsCancelled w outcome told → ToldOnChannels a d told
        → UsesPermits c n a.who (count + cond (brings_element outcome) 1 0) d.floor
    by_case _ _ EndsCancelled.withdrawn h = uses_two c n a.who count w why.Cancelled settled.Cancelled a.floor d.floor here (two_add h) u
    by_case _ _ (EndsCancelled.late outcome e) h = uses_settling c n a.who count w outcome a.floor d.floor here (late_adds refl h) u

pub uses_cancelling_none : {c n count : ℕ} {w : WaitId} {a d : SeenOnChannels} → w.channel ≡ c
    → Tells (EndsCancelled w settled.Cancelled) a d
    → UsesPermits c n a.who count a.floor → UsesPermits c n a.who count d.floor
uses_cancelling_none {c} {n} {count} {w} {a} {d} here t u =
    subst (λ m. UsesPermits c n a.who m d.floor) (let e : count + 0 ≡ count = omega arith in e) (uses_cancelling here t u)

-- ---- what a wait that was given up tells, with what came after

pub ends_then : {v : ℕ} {w : WaitId} {P : ℕ → List Told → Type 0} {more : List Told} {a b d : SeenOnChannels}
    → Tells (EndsCancelled w (settled.Undelivered v)) a b → P v more → ToldOnChannels b d more → Tells (EndsThen w P) a d
ends_then {v} {w} {P} {more} t p m = record {
  told = t.told ++ more;
  goes = record { value = v; ends = t.told; more = more; ended = t.goes; goes = p; whole = refl };
  left = told_then t.left m;
}

pub ends_given : {c v : ℕ} {w : WaitId} {a b d : SeenOnChannels} → Tells (EndsCancelled w (settled.Undelivered v)) a b → GivenJust c v b d
    → Tells (EndsThen w (GivesAgain c)) a d
ends_given {c} {v} {w} t m = ends_then t (record { act = m.act; gives = m.gives; is = refl }) m.told

pub ends_alone : {v : ℕ} {w : WaitId} {a b d : SeenOnChannels} → Tells (EndsCancelled w (settled.Undelivered v)) a b → IsUntouched b d
    → Tells (EndsThen w (λ v more. more ≡ [])) a d
ends_alone t m = ends_then t refl (untouched_told m)
