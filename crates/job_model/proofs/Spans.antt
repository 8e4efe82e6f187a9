-- What several calls of one caller add to what was seen.
use Rattle.std.specs.Prelude.{◌≡◌, ℕ, ◌==◌, Bool, true, false, ◌||◌, List, [], ◌∷◌, ◌++◌, length, Option, Some, None, if◌then◌else◌, refl}
use mathlib.Core.List.{IsPrefix}
use Rattle.co_base.proofs.Orders.{order_then}
use Rattle.std.proofs.Common.{sym, ap, ◌∙◌, append_assoc, arith, length-append}
use Rattle.std.proofs.Math.Bool.{or_assoc}
use Rattle.std.proofs.lemmas.List.Folds.{list_any-append}
use Rattle.std.proofs.lemmas.Bool.{eq-eqb}
pub use mathlib.Core.List.{append-nil as nothing_more}
use Rattle.job_model.specs.declared.acts.JobAct.{JobAct}
use Rattle.job_model.specs.declared.acts.JobEntry.{JobEntry}
use Rattle.job_model.specs.Trees.{Tree, is_among}
use Rattle.job_model.specs.Histories.{replay, acts_of}
use Rattle.job_model.proofs.Histories.{acts_of-append}
use Rattle.job_model.specs.Floors.{Floor, SameSetting, HasRoom, Claimed, is_claimed_by, Looked, Made, AtStep, AtMoment, AtEntry, entries_by, Added}

pub prefix_self : (xs : List JobEntry) → IsPrefix xs xs
prefix_self xs = ([], nothing_more xs)

pub prefix_then : (xs ys zs : List JobEntry) → IsPrefix xs ys → IsPrefix ys zs → IsPrefix xs zs
prefix_then xs ys zs h k = (h.0 ++ k.0, sym (append_assoc xs h.0 k.0) ∙ ap (λ l. l ++ k.0) h.1 ∙ k.1)

pub prefix_append : (xs ys zs : List JobEntry) → IsPrefix xs ys → IsPrefix xs (ys ++ zs)
prefix_append xs ys zs h = prefix_then xs ys (ys ++ zs) h (zs, refl)

pub setting_then : (a b c : Floor) → SameSetting a b → SameSetting b c → SameSetting a c
setting_then a b c h k = record {
  shape = k.shape ∙ h.shape;
  alone = k.alone ∙ h.alone;
  callers = k.callers ∙ h.callers;
  order = order_then a.order b.order c.order h.order k.order;
  joint = k.joint ∙ h.joint;
}

-- ---- claims

pub or_nothing : (b : Bool) → b ≡ (b || false)
or_nothing true = refl
or_nothing false = refl

none_of_none : (claims : ℕ → Option ℕ) (r : ℕ) → is_among r [] ≡ true → claims r ≡ None
none_of_none claims r e = cc

pub claimed_none : (who : ℕ) (old new : Floor) → ((r : ℕ) → new.claims r ≡ old.claims r) → Claimed who [] old new
claimed_none who old new same = record {
  kept = λ r t e. same r ∙ e;
  fresh = none_of_none old.claims;
  mine = λ r. ap (is_claimed_by who) (same r) ∙ or_nothing (is_claimed_by who (old.claims r));
  alone = λ e r. same r;
}

pub among-append : (r : ℕ) (xs ys : List ℕ) → is_among r (xs ++ ys) ≡ (is_among r xs || is_among r ys)
among-append r xs ys = list_any-append (λ q. r == q) xs ys

-- the later claim decides, and they agree
later_or : (a b : Bool) (w x : Option ℕ) → (if b then w else (if a then w else x)) ≡ (if a || b then w else x)
later_or true true w x = refl
later_or true false w x = refl
later_or false true w x = refl
later_or false false w x = refl

free_before : (x y : Option ℕ) → ((t : ℕ) → x ≡ Some t → y ≡ Some t) → y ≡ None → x ≡ None
free_before None y h e = refl
free_before (Some t) y h e = absurd (let k : None ≡ Some t = sym e ∙ h t refl in cc)

pub fresh_either : (P : Type 0) (a b : Bool) → (a || b) ≡ true → (a ≡ true → P) → (b ≡ true → P) → P
fresh_either P true b e h k = h refl
fresh_either P false b e h k = k e

pub claimed_then : (who : ℕ) (xs ys : List ℕ) (a b c : Floor) → SameSetting a b → Claimed who xs a b → Claimed who ys b c
    → Claimed who (xs ++ ys) a c
claimed_then who xs ys a b c same h k = record {
  kept = λ r t e. k.kept r t (h.kept r t e);
  fresh = λ r e. fresh_either _ (is_among r xs) (is_among r ys) (sym (among-append r xs ys)
      ∙ e) (h.fresh r) (λ f. free_before (a.claims r) (b.claims r) (h.kept r) (k.fresh r f));
  mine = λ r. k.mine r ∙ ap (λ u. u || is_among r ys) (h.mine r) ∙ or_assoc (is_claimed_by who (a.claims r)) (is_among r xs) (is_among r ys)
      ∙ ap (λ u. is_claimed_by who (a.claims r) || u) (sym (among-append r xs ys));
  alone = λ e r. k.alone (same.alone ∙ e) r ∙ ap (λ u. if is_among r ys then Some who else u) (h.alone e r)
      ∙ later_or (is_among r xs) (is_among r ys) (Some who) (a.claims r)
      ∙ ap (λ u. if u then Some who else a.claims r) (sym (among-append r xs ys));
}

-- ---- calls

pub added_none : (who : ℕ) (old new : Floor) → SameSetting old new → new.seen ≡ old.seen → ((r : ℕ) → new.claims r ≡ old.claims r)
    → Added who [] [] old new
added_none who old new same e claims = record {
  same = same;
  longer = ([], nothing_more old.seen ∙ sym e);
  mine = ap (acts_of who) e ∙ sym (nothing_more (acts_of who old.seen));
  alone = λ a. e ∙ sym (nothing_more old.seen);
  claims = claimed_none who old new claims;
}

pub added_room : (who n : ℕ) (old new : Floor) → HasRoom n old new → Added who [] [] old new
added_room who n old new h = added_none who old new h.same h.seen h.claims

pub added_looked : (who : ℕ) (rows : List ℕ) (old new : Floor) → Looked who rows old new → Added who [] rows old new
added_looked who rows old new h = record {
  same = h.same;
  longer = h.longer;
  mine = h.mine ∙ sym (nothing_more (acts_of who old.seen));
  alone = λ a. h.alone a ∙ sym (nothing_more old.seen);
  claims = h.claims;
}

own_act : (who : ℕ) (act : JobAct) → acts_of who (record { who = who; act = act } ∷ []) ≡ act ∷ []
unfolding acts_of
own_act who act = ap (λ b. if b then act ∷ [] else []) (eq-eqb who who refl)

pub added_made : (who : ℕ) (act : JobAct) (rows : List ℕ) (old new : Floor) → Made who act rows old new → Added who (act ∷ []) rows old new
added_made who act rows old new h = record {
  same = h.same;
  longer = (let k = prefix_append old.seen h.before (record { who = who; act = act } ∷ []) h.longer in (k.0, k.1 ∙ sym h.last));
  mine = ap (acts_of who) h.last ∙ acts_of-append who h.before (record { who = who; act = act } ∷ [])
      ∙ ap (λ l. l ++ acts_of who (record { who = who; act = act } ∷ [])) h.mine ∙ ap (λ l. acts_of who old.seen ++ l) (own_act who act);
  alone = λ a. h.last ∙ ap (λ l. l ++ record { who = who; act = act } ∷ []) (h.alone a);
  claims = h.claims;
}

entries_append : (who : ℕ) (xs ys : List JobAct) → entries_by who (xs ++ ys) ≡ entries_by who xs ++ entries_by who ys
entries_append who [] ys = refl
entries_append who (x ∷ xs) ys = ap (λ l. record { who = who; act = x } ∷ l) (entries_append who xs ys)

-- one call after another
pub added_then : (who : ℕ) (xs ys : List JobAct) (rows more : List ℕ) (a b c : Floor) → Added who xs rows a b → Added who ys more b c
    → Added who (xs ++ ys) (rows ++ more) a c
added_then who xs ys rows more a b c h k = record {
  same = setting_then a b c h.same k.same;
  longer = prefix_then a.seen b.seen c.seen h.longer k.longer;
  mine = k.mine ∙ ap (λ l. l ++ ys) h.mine ∙ append_assoc (acts_of who a.seen) xs ys;
  alone = λ e. k.alone (h.same.alone ∙ e) ∙ ap (λ l. l ++ entries_by who ys) (h.alone e)
      ∙ append_assoc a.seen (entries_by who xs) (entries_by who ys) ∙ ap (λ l. a.seen ++ l) (sym (entries_append who xs ys));
  claims = claimed_then who rows more a b c h.same h.claims k.claims;
}

-- a moment of one call is one of a longer span
pub moment_within : (a b c d : Floor) (P : Tree → Type 0) → IsPrefix a.seen b.seen → AtStep b c P → IsPrefix c.seen d.seen → AtStep a d P
moment_within a b c d P h m k = record {
  moment = m.moment;
  after = prefix_then a.seen b.seen m.moment h m.after;
  before = prefix_then m.moment c.seen d.seen m.before k;
  holds = m.holds;
}

-- ---- moments of the caller's own acts

no_rest : (xs ys zs : List JobAct) → (xs ++ ys) ++ zs ≡ xs → zs ≡ []
no_rest xs ys zs e = empty zs (omega (arith, ap length e, length-append (xs ++ ys) zs, length-append xs ys))
  where
    empty : (l : List JobAct) → length l ≡ 0 → l ≡ []
    empty [] e = refl
    empty (x ∷ l) e = absurd (omega arith)

-- between two histories with the same acts of who
pub same_between : (who : ℕ) (xs m ys : List JobEntry) → IsPrefix xs m → IsPrefix m ys → acts_of who ys ≡ acts_of who xs
    → acts_of who m ≡ acts_of who xs
same_between who xs m ys p q e =
    let first : acts_of who m ≡ acts_of who xs ++ acts_of who p.0 = ap (acts_of who) (sym p.1) ∙ acts_of-append who xs p.0 in
    let second : acts_of who ys ≡ acts_of who m ++ acts_of who q.0 = ap (acts_of who) (sym q.1) ∙ acts_of-append who m q.0 in
    let none : acts_of who q.0 ≡ [] = no_rest (acts_of who xs) (acts_of who p.0) (acts_of who q.0)
    (ap (λ (l : List JobAct). l ++ acts_of who q.0) (sym first) ∙ sym second ∙ e) in
    sym (second ∙ ap (λ (l : List JobAct). acts_of who m ++ l) none ∙ nothing_more (acts_of who m)) ∙ e

-- at each moment of a call without an entry the caller had made nothing of its own
pub looked_moment : (who : ℕ) (rows : List ℕ) (old new : Floor) (P : Tree → Type 0) → Looked who rows old new → AtStep old new P
    → AtMoment who [] old new P
looked_moment who rows old new P h m = record {
  moment = m.moment;
  after = m.after;
  before = m.before;
  mine = same_between who old.seen m.moment new.seen m.after m.before h.mine ∙ sym (nothing_more (acts_of who old.seen));
  holds = m.holds;
}

-- what is so at the end of calls was so when the caller had made all of their acts
pub added_after : (who : ℕ) (acts : List JobAct) (rows : List ℕ) (old new : Floor) (P : Tree → Type 0) → Added who acts rows old new
    → P (replay new.seen) → AtMoment who acts old new P
added_after who acts rows old new P h p = record {
  moment = new.seen;
  after = h.longer;
  before = prefix_self new.seen;
  mine = h.mine;
  holds = p;
}

-- what was so right before an entry of one call, in longer spans
pub entry_made : (who : ℕ) (act : JobAct) (rows : List ℕ) (old new : Floor) (P : Tree → Type 0) → (m : Made who act rows old new)
    → P (replay m.before) → AtEntry who [] act old new P
entry_made who act rows old new P m h = record {
  before = m.before;
  after = m.longer;
  entry = ([], nothing_more (m.before ++ record { who = who; act = act } ∷ []) ∙ sym m.last);
  mine = m.mine ∙ sym (nothing_more (acts_of who old.seen));
  holds = h;
}

pub entry_before : (who : ℕ) (acts : List JobAct) (act : JobAct) (a b c : Floor) (P : Tree → Type 0) → AtEntry who acts act a b P
    → IsPrefix b.seen c.seen → AtEntry who acts act a c P
entry_before who acts act a b c P m p = record {
  before = m.before;
  after = m.after;
  entry = prefix_then (m.before ++ record { who = who; act = act } ∷ []) b.seen c.seen m.entry p;
  mine = m.mine;
  holds = m.holds;
}

pub entry_after : (who : ℕ) (first acts : List JobAct) (act : JobAct) (rows : List ℕ) (a b c : Floor) (P : Tree → Type 0)
    → Added who first rows a b → AtEntry who acts act b c P → AtEntry who (first ++ acts) act a c P
entry_after who first acts act rows a b c P h m = record {
  before = m.before;
  after = prefix_then a.seen b.seen m.before h.longer m.after;
  entry = m.entry;
  mine = m.mine ∙ ap (λ (l : List JobAct). l ++ acts) h.mine ∙ append_assoc (acts_of who a.seen) first acts;
  holds = m.holds;
}
