-- What a step of the table says of the pass.
use Rattle.std.specs.Prelude.{◌≡◌, ℕ, ◌+◌, ◌-◌, ◌^◌, ◌≤◌, ◌<◌, ◌==◌, Bool, true, ◌||◌, List, [], ◌∷◌, ◌++◌, length, None, MatchBool, if◌then◌else◌, refl}
use Rattle.std.proofs.Common.{sym, ap, ◌∙◌, subst, arith, append_assoc, append-nil, length-append, ne_eqb, eq-eqb}
use Rattle.worded.specs.Views.{has_tag, having_seen}
use Rattle.worded.specs.Exchanges.{Loaded, Entered, TookIn}
use Rattle.worded.specs.Histories.{entries_of}
use Rattle.worded.proofs.StepsOfSeats as steps
use Rattle.worded.proofs.TagsHeld.{has_tag-or}
use Rattle.worded.proofs.TagsAndPrefixes.{entries_of-append, entries_of_else}
use Rattle.gates.specs.declared.act.GateAct.{GateAct}
use Rattle.gates.specs.declared.act.GateEntry.{GateEntry}
use Rattle.gates.specs.Gates.{State, state_of, Legal, maker}
use Rattle.gates.specs.Words.{word_of, free_in, waits_in, Fits}
use Rattle.gates.specs.Seen.{Seen, now_in, entry_of, first_tag, tags_given, Ungiven, Adds, Beaten}
use Rattle.gates.specs.declared.act.GateAct.TheVariants as act
use Rattle.gates.specs.declared.choice.Want.{Want}
use Rattle.gates.specs.declared.choice.Want.TheVariants as want
use Rattle.gates.specs.declared.gate.GatePass.{GatePass}
use Rattle.gates.specs.Answers.{held_then, waits_then, Suits, IsReady, IsLow, IsChosen, IsNot, ReadyFor}
use Rattle.gates.specs.Passes.{IsAt, SameOf, EndAnswer}
use Rattle.gates.proofs.HistoriesGoOn.{state_push, last_needs}
use Rattle.gates.proofs.StatesStaySound.{Sound, Counted, counted_own}
use Rattle.gates.proofs.WordsTell.{free_told, waits_told}
use Rattle.gates.proofs.MayAct.{counted_since}

-- ---- the laws of a pass

pub record PassLaws (number splits held : ℕ) (waits : Bool) (w : Seen) : Type 0 where
  pub numbered : (first_tag w.tags ≡ number) × (has_tag number w.tags ≡ true)
  pub ungiven : Ungiven splits w
  pub legal : Legal w.key w.seen
  pub counted : Counted number held waits (now_in w)

-- they hold of a pass that has seen more
pub laws_more : (number splits held : ℕ) (waits : Bool) (v w : Seen) (log : List GateEntry)
    → (first_tag v.tags ≡ number) × (has_tag number v.tags ≡ true) → Ungiven splits v → v.heard_tags ≡ [] → w ≡ having_seen v log
    → Legal v.key log → Counted number held waits (state_of v.key log) → PassLaws number splits held waits w
laws_more number splits held waits v w log numbered ungiven idle now h counted = record {
  numbered = (ap first_tag tags ∙ numbered.0, ap (has_tag number) tags ∙ numbered.1);
  ungiven = λ t lt. ap (λ (x : Seen). has_tag t x.given) now ∙ ungiven t lt;
  legal = subst (λ (x : Seen). Legal x.key x.seen) (sym now) h;
  counted = subst (λ (x : Seen). Counted number held waits (now_in x)) (sym now) counted;
}
  where
    tags : w.tags ≡ v.tags
    tags = ap (λ (x : Seen). x.tags) now ∙ ap (λ t. v.tags ++ t) idle ∙ append-nil v.tags

pub laws_loaded : (key number splits held word n : ℕ) (waits : Bool) (v w : Seen) → v.key ≡ key
    → (first_tag v.tags ≡ number) × (has_tag number v.tags ≡ true) → Ungiven splits v → v.heard_tags ≡ []
    → Counted number held waits (now_in v) → Loaded (Legal key) (Fits key) maker word n v w → PassLaws number splits held waits w
laws_loaded key number splits held word n waits v w is numbered ungiven idle counted l =
    let legal : Legal v.key (v.seen ++ l.others) = subst (λ k. Legal k (v.seen ++ l.others)) (sym is) l.added.is_legal in
    laws_more number splits held waits v w (v.seen ++ l.others) numbered ungiven idle l.now legal
    (counted_since v.key number held waits v.seen l.others legal (l.added.apart number numbered.1) counted)

pub laws_entered : (key number splits held word n : ℕ) (waits : Bool) (act : GateAct) (v w : Seen) → v.key ≡ key
    → (first_tag v.tags ≡ number) × (has_tag number v.tags ≡ true) → Ungiven splits v → v.heard_tags ≡ []
    → Counted number held waits (now_in v) → ReadyFor act held waits
    → Entered (Legal key) (Fits key) maker word n (entry_of number act) v w
    → PassLaws number splits (held_then act held) (waits_then act waits) w
laws_entered key number splits held word n waits act v w is numbered ungiven idle counted ready l =
    let log : List GateEntry = v.seen ++ l.others in
    let before : Legal v.key log = subst (λ k. Legal k log) (sym is) l.added.is_legal in
    let legal : Legal v.key (log ++ entry_of number act ∷ []) =
    subst (λ k. Legal k (log ++ entry_of number act ∷ [])) (sym is) l.is_legal in
    let since : Counted number held waits (state_of v.key log) =
    counted_since v.key number held waits v.seen l.others before (l.added.apart number numbered.1) counted in
    laws_more number splits (held_then act held) (waits_then act waits) v w (log ++ entry_of number act ∷ []) numbered ungiven idle l.now
    legal (subst (Counted number (held_then act held) (waits_then act waits)) (sym (state_push v.key log (entry_of number act)))
    (counted_own (state_of v.key log) number act held waits (last_needs v.key log (entry_of number act) legal) ready since))

pub laws_as : (number splits held held' : ℕ) (waits waits' : Bool) (w : Seen) → held' ≡ held → waits' ≡ waits
    → PassLaws number splits held waits w → PassLaws number splits held' waits' w
laws_as number splits held held' waits waits' w e f p = subst (λ (x : ℕ × Bool). PassLaws number splits x.0 x.1 w)
    (λ i. (sym e i, sym f i)) p

-- ---- entries added

pub adds_loaded : (key who word n : ℕ) (v w : Seen) → has_tag who v.tags ≡ true → v.heard_tags ≡ []
    → Loaded (Legal key) (Fits key) maker word n v w → Adds who [] v w
adds_loaded key who word n v w own idle l = record {
  rest = l.others;
  now = ap (λ (x : Seen). x.seen) l.now;
  mine = l.added.apart who own;
  apart = λ t h ne. l.added.apart t h;
  key = ap (λ (x : Seen). x.key) l.now;
  tags = ap (λ (x : Seen). x.tags) l.now ∙ ap (λ t. v.tags ++ t) idle ∙ append-nil v.tags;
  giving = ap tags_given l.now;
}

pub adds_entered : (key who word n : ℕ) (act : GateAct) (v w : Seen) → has_tag who v.tags ≡ true → v.heard_tags ≡ []
    → Entered (Legal key) (Fits key) maker word n (entry_of who act) v w → Adds who (entry_of who act ∷ []) v w
adds_entered key who word n act v w own idle l = record {
  rest = l.others ++ entry_of who act ∷ [];
  now = ap (λ (x : Seen). x.seen) l.now ∙ append_assoc v.seen l.others (entry_of who act ∷ []);
  mine = entries_of-append maker who l.others (entry_of who act ∷ [])
      ∙ ap (λ x. x ++ entries_of maker who (entry_of who act ∷ [])) (l.added.apart who own)
      ∙ ap (λ (b : Bool). if b then entry_of who act ∷ [] else []) (eq-eqb who who refl);
  apart = λ t h ne. entries_of_else maker t l.others (entry_of who act) (λ same. ne (sym same)) ∙ l.added.apart t h;
  key = ap (λ (x : Seen). x.key) l.now;
  tags = ap (λ (x : Seen). x.tags) l.now ∙ ap (λ t. v.tags ++ t) idle ∙ append-nil v.tags;
  giving = ap tags_given l.now;
}

pub adds_then : (who : ℕ) (a b : List GateEntry) (v u w : Seen) → Adds who a v u → Adds who b u w → Adds who (a ++ b) v w
adds_then who a b v u w x y = record {
  rest = x.rest ++ y.rest;
  now = y.now ∙ ap (λ l. l ++ y.rest) x.now ∙ append_assoc v.seen x.rest y.rest;
  mine = entries_of-append maker who x.rest y.rest ∙ (λ i. x.mine i ++ y.mine i);
  apart = λ t h ne. entries_of-append maker t x.rest y.rest ∙ (λ i. x.apart t h ne i ++ y.apart t (ap (has_tag t) x.tags ∙ h) ne i);
  key = y.key ∙ x.key;
  tags = y.tags ∙ x.tags;
  giving = y.giving ∙ x.giving;
}

pub adds_self : (who : ℕ) (v : Seen) → Adds who [] v v
adds_self who v = record {
  rest = [];
  now = sym (append-nil v.seen);
  mine = refl;
  apart = λ t h ne. refl;
  key = refl;
  tags = refl;
  giving = refl;
}

-- the word that was loaded is that of what was then seen
pub word_found : (key n : ℕ) (v w : Seen) → v.key ≡ key → Loaded (Legal key) (Fits key) maker 0 n v w → n ≡ word_of (now_in w)
word_found key n v w is l = l.found.word refl ∙ ap (λ k. word_of (state_of k (v.seen ++ l.others))) (sym is)
    ∙ sym (ap (λ (x : Seen). word_of (now_in x)) l.now)

-- ---- others were first

pub beaten_loaded : (key who old n : ℕ) (v w : Seen) → v.key ≡ key → has_tag who v.tags ≡ true → v.heard_tags ≡ []
    → old ≡ word_of (now_in v) → (n ≡ old → ⊥) → Loaded (Legal key) (Fits key) maker 0 n v w → Beaten 1 who v w
unfolding adds_loaded
beaten_loaded key who old n v w is own idle at ne l = record {
  adds = adds_loaded key who 0 n v w own idle l;
  many = some l.others refl;
}
  where
    some : (others : List GateEntry) → l.others ≡ others → 1 ≤ length others
    some [] none = absurd (ne (l.found.word refl ∙ ap (λ o. word_of (state_of key (v.seen ++ o))) none
        ∙ ap (λ s. word_of (state_of key s)) (append-nil v.seen) ∙ ap (λ k. word_of (state_of k v.seen)) (sym is) ∙ sym at))
    some (e ∷ es) none = omega arith

pub beaten_then : (k who : ℕ) (v u w : Seen) → Beaten k who v u → Beaten 1 who u w → Beaten (k + 1) who v w
unfolding adds_then
beaten_then k who v u w x y = record {
  adds = adds_then who [] [] v u w x.adds y.adds;
  many = let e : length (x.adds.rest ++ y.adds.rest) ≡ length x.adds.rest + length y.adds.rest = length-append x.adds.rest y.adds.rest in
      omega (arith, x.many, y.many, e);
}

pub beaten_after : (k who : ℕ) (v u w : Seen) → Adds who [] v u → Beaten k who u w → Beaten k who v w
unfolding adds_then
beaten_after k who v u w x y = record {
  adds = adds_then who [] [] v u w x y.adds;
  many = let e : length (x.rest ++ y.adds.rest) ≡ length x.rest + length y.adds.rest = length-append x.rest y.adds.rest in
      omega (arith, y.many, e);
}

-- ---- an exchange

abbrev pub Exchange : ℕ → ℕ → ℕ → GateEntry → Seen → Seen → Type 0
Exchange key old n e v w = MatchBool (n == old) (Entered (Legal key) (Fits key) maker 0 old e v w)
    (Loaded (Legal key) (Fits key) maker 0 n v w)

pub exchange_lost : (key old n : ℕ) (e : GateEntry) (v w : Seen) → (n ≡ old → ⊥) → Exchange key old n e v w
    → Loaded (Legal key) (Fits key) maker 0 n v w
exchange_lost key old n e v w ne told = subst (λ (b : Bool). MatchBool b (Entered (Legal key) (Fits key) maker 0 old e v w)
    (Loaded (Legal key) (Fits key) maker 0 n v w)) (ne_eqb n old ne) told

pub exchange_made : (key old n : ℕ) (e : GateEntry) (v w : Seen) → n ≡ old → Exchange key old n e v w
    → Entered (Legal key) (Fits key) maker 0 old e v w
exchange_made key old n e v w is told = subst (λ (b : Bool). MatchBool b (Entered (Legal key) (Fits key) maker 0 old e v w)
    (Loaded (Legal key) (Fits key) maker 0 n v w)) (eq-eqb n old is) told

-- ---- turns

-- what a call knows of its pass is what its act needs
pub ready_for : (d : Want) (a : GateAct) (p : GatePass) → Suits d a → IsReady d p → ReadyFor a p.held p.waits
ready_for want.Take act.Wait p s r = absurd s
ready_for want.Take act.Give p s r = absurd s
ready_for want.Take (act.Grant t) p s r = absurd s
ready_for want.Take other p s r = tt
ready_for want.TakeOrWait act.Take p s r = tt
ready_for want.TakeOrWait act.Wait p s r = r.0
ready_for want.TakeOrWait act.Give p s r = absurd s
ready_for want.TakeOrWait (act.Grant t) p s r = absurd s
ready_for want.TakeOrWait act.GiveUp p s r = tt
ready_for want.Give act.Take p s r = tt
ready_for want.Give act.Wait p s r = absurd s
ready_for want.Give act.Give p s r = r
ready_for want.Give (act.Grant t) p s r = r
ready_for want.Give act.GiveUp p s r = tt
ready_for want.GiveUp act.Take p s r = tt
ready_for want.GiveUp act.Wait p s r = absurd s
ready_for want.GiveUp act.Give p s r = absurd s
ready_for want.GiveUp (act.Grant t) p s r = absurd s
ready_for want.GiveUp act.GiveUp p s r = tt

-- it knows the same of a pass that counts the same
pub ready_still : (d : Want) (p q : GatePass) → q.number ≡ p.number → q.held ≡ p.held → q.waits ≡ p.waits → IsReady d p → IsReady d q
ready_still want.Take p q n h w r = tt
ready_still want.TakeOrWait p q n h w r = (w ∙ r.0, subst (λ k. k < 48) (sym n) r.1)
ready_still want.Give p q n h w r = subst (λ k. 0 < k) (sym h) r
ready_still want.GiveUp p q n h w r = w ∙ r

pub low_still : (d : Want) (p q : GatePass) → q.number ≡ p.number → IsReady d p → IsLow d q.number
low_still want.TakeOrWait p q n r = subst (λ k. k < 48) (sym n) r.1
low_still other p q n r = tt

-- a word by which there is no act to make
pub not_told : (n w : ℕ) (d : Want) (who : ℕ) (s : State) → w ≡ word_of s → Sound n s → n ≤ 65535 → IsChosen d who w None → IsNot d who s
not_told n w want.Take who s is h le k = sym (free_told n s h le) ∙ sym (ap free_in is) ∙ k
not_told n w want.GiveUp who s is h le k = sym (waits_told n s who h le) ∙ sym (ap (λ x. waits_in x who) is) ∙ k
not_told n w other who s is h le k = k

-- the entries of one number for another name of it
pub adds_as : (t who : ℕ) (made : List GateEntry) (v w : Seen) → t ≡ who → Adds t made v w → Adds who made v w
adds_as t who made v w is a = subst (λ n. Adds n made v w) is a

pub act_as : (t who : ℕ) (a : GateAct) (v w : Seen) → t ≡ who → Adds t (entry_of t a ∷ []) v w → Adds who (entry_of who a ∷ []) v w
act_as t who a v w is x = subst (λ n. Adds n (entry_of n a ∷ []) v w) is x

pub beaten_as : (k t who : ℕ) (v w : Seen) → t ≡ who → Beaten k t v w → Beaten k who v w
beaten_as k t who v w is b = subst (λ n. Beaten k n v w) is b

pub counts_after : (a : GateAct) (p q r : GatePass) → IsAt p.held p.waits q → IsAt (held_then a q.held) (waits_then a q.waits) r
    → IsAt (held_then a p.held) (waits_then a p.waits) r
counts_after a p q r h k = (k.0 ∙ ap (held_then a) h.0, k.1 ∙ ap (waits_then a) h.1)

pub beaten_none : (who : ℕ) (v : Seen) → Beaten 0 who v v
beaten_none who v = record { adds = adds_self who v; many = omega arith }

pub turn_did : (d : Want) (who t : ℕ) (a : GateAct) (v u w : Seen) → t ≡ who → Adds who [] v u
    → Suits d a × Adds t (entry_of t a ∷ []) u w → Suits d a × Adds who (entry_of who a ∷ []) v w
turn_did d who t a v u w is x y = (y.0, adds_then who [] (entry_of who a ∷ []) v u w x (act_as t who a u w is y.1))

pub turn_not : (d : Want) (who t : ℕ) (v u w : Seen) → t ≡ who → Adds who [] v u → Adds t [] u w × IsNot d t (now_in w)
    → Adds who [] v w × IsNot d who (now_in w)
turn_not d who t v u w is x y = (
  adds_then who [] [] v u w x (adds_as t who [] u w is y.0),
  subst (λ n. IsNot d n (now_in w)) is y.1,
)

pub turn_lost : (k who : ℕ) (v w : Seen) → 2 ^ 64 - 1 ≤ k → Beaten k who v w → Beaten (2 ^ 64 - 1) who v w
turn_lost k who v w le b = record { adds = b.adds; many = omega (arith, le, b.many) }

-- ---- a pass takes another in

pub end_answer : (n : ℕ) (v u w : Seen) → TookIn (Legal n) (Fits n) maker v u w → EndAnswer v u w
end_answer n v u w m = steps.end_answer SameOf (λ t xs ys e. e) m

pub laws_ended : (key number splits held : ℕ) (waits : Bool) (v u w : Seen) → v.key ≡ key
    → (first_tag v.tags ≡ number) × (has_tag number v.tags ≡ true) → Ungiven splits v → Counted number held waits (now_in v)
    → TookIn (Legal key) (Fits key) maker v u w → PassLaws number splits held waits w
laws_ended key number splits held waits v u w is numbered ungiven counted m = record {
  numbered = (
    ap (λ (x : Seen). first_tag x.tags) m.now ∙ first_of v.tags u.tags numbered.1 ∙ numbered.0,
    ap (λ (x : Seen). has_tag number x.tags) m.now ∙ has_tag-or number v.tags u.tags ∙ ap (λ b. b || has_tag number u.tags) numbered.1,
  );
  ungiven = λ t lt. ap (λ (x : Seen). has_tag t x.given) m.now ∙ ungiven t lt;
  legal = subst (λ (x : Seen). Legal x.key x.seen) (sym m.now) legal;
  counted = subst (λ (x : Seen). Counted number held waits (now_in x)) (sym m.now)
      (counted_since v.key number held waits v.seen m.others legal (m.apart number numbered.1) counted);
}
  where
    legal : Legal v.key (v.seen ++ m.others)
    legal = subst (λ k. Legal k (v.seen ++ m.others)) (sym is) m.is_legal

    first_of : (xs ys : List ℕ) → has_tag number xs ≡ true → first_tag (xs ++ ys) ≡ first_tag xs
    first_of [] ys h = cc
    first_of (x ∷ xs) ys h = refl

-- ---- words that tell nothing
