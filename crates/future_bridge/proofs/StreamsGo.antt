-- What a stream yields, and what a future that collects one may give.
use Rattle.std.specs.Prelude.{◌≡◌, ℕ, Bool, true, false, List, [], ◌∷◌, ◌++◌, Option, Some, None, Result, Ok, Err, IfOk, IsSomeAnd, refl}
use Rattle.futures.specs.Poll.{OnPending}
use Rattle.futures.specs.declared.task.Poll.{Poll}
use Rattle.futures.specs.declared.task.Poll.TheVariants.{Ready, Pending}
use Rattle.co_base.specs.declared.names.Memory.{Memory}
use Rattle.std.proofs.Common.{sym, ap, ◌∙◌, subst, append_assoc}
use Rattle.channel_model.specs.Channels.{Shape}
use Rattle.channel_model.specs.Floors.{Floor, AtStep}
use Rattle.channel_model.specs.Answers.{IsDrainedAndClosed, IsSpentForReceives}
use Rattle.channel_model.proofs.Spans.{prefix_self, moment_within}
use Rattle.cell_words.specs.declared.hub.Hub.{Hub}
use Rattle.cell_words.specs.declared.pass.Pass.{Pass}
use Rattle.cell_words.specs.Hubs.{IsOwn, SameGiving}
use Rattle.cell_calls.specs.HubFloors.{hub_floor}
use Rattle.future_bridge.specs.declared.receiving.Spent.{Spent}
use Rattle.future_bridge.specs.Gains.{Gained, EndsAs, EndsBy, IsOver, HasNoPlace}
use Rattle.future_bridge.specs.declared.streams.ReceiveStream.{ReceiveStream}
use Rattle.future_bridge.specs.Streams.{RunsSo, elements_of, EndsWith, GoesOn, CollectsSo, Stands, StreamYields, SameStream, GainedBy, IsOverBy, PolledSo, floor_of}
use Rattle.future_bridge.proofs.GainsGo.{gained_then}

-- ---- runs

pub runs_open : (ended : Bool) (last : Option (Result ℕ Spent)) → ended ≡ false → RunsSo ended [] last
unfolding RunsSo
runs_open true last e = cc
runs_open false last e = tt

pub runs_over : (ended : Bool) → RunsSo ended [] None
unfolding RunsSo
runs_over true = (refl, refl)
runs_over false = tt

pub runs_value : (ended : Bool) (v : ℕ) (xs : List (Result ℕ Spent)) (last : Option (Result ℕ Spent)) → ended ≡ false → RunsSo ended xs last
    → RunsSo ended (Ok v ∷ xs) last
unfolding RunsSo
runs_value true v xs last e h = cc
runs_value false v xs last e h = h

pub runs_fault : (ended : Bool) (x : Spent) (xs : List (Result ℕ Spent)) (last : Option (Result ℕ Spent)) → ended ≡ false
    → RunsSo true xs last → RunsSo ended (Err x ∷ xs) last
unfolding RunsSo
runs_fault true x xs last e h = cc
runs_fault false x xs last e h = h

-- ---- spans

pub ends_as_earlier : (who c v : ℕ) (vs : List ℕ) (a b d : Floor) → Gained who c vs a b → EndsAs c v b d → EndsAs c v a d
ends_as_earlier who c v vs a b d g h = record {
  closed = h.closed;
  drained =
      moment_within a b d d (IsDrainedAndClosed c) g.added.longer h.drained (prefix_self d.seen);
}

over_earlier : (who c : ℕ) (vs : List ℕ) (a b d : Floor) → Gained who c vs a b → IsOver c b d → IsOver c a d
over_earlier who c vs a b d g h = (h.0, ends_as_earlier who c h.0 vs a b d g h.1)

pub no_place_earlier : (who c : ℕ) (vs : List ℕ) (a b d : Floor) → Gained who c vs a b → HasNoPlace c b d → HasNoPlace c a d
no_place_earlier who c vs a b d g h = moment_within a b d d (IsSpentForReceives a.shape c) g.added.longer
    (subst (λ (s : Shape). AtStep b d (IsSpentForReceives s c)) g.added.same.shape h) (prefix_self d.seen)

ends_earlier : (who c : ℕ) (vs : List ℕ) (a b d : Floor) (xs : List (Result ℕ Spent)) → Gained who c vs a b → EndsWith c b d xs
    → EndsWith c a d xs
ends_earlier who c vs a b d _ g (EndsWith.over values h) = EndsWith.over values (over_earlier who c vs a b d g h)
ends_earlier who c vs a b d _ g (EndsWith.spent values e h) = EndsWith.spent values e (no_place_earlier who c vs a b d g h)

goes_earlier : (who c : ℕ) (vs : List ℕ) (ended : Bool) (a b d : Floor) (xs : List (Result ℕ Spent)) → Gained who c vs a b
    → GoesOn ended c b d xs → GoesOn ended c a d xs
goes_earlier who c vs true a b d xs g h = h
goes_earlier who c vs false a b d xs g h = ends_earlier who c vs a b d xs g h

ends_value : (c v : ℕ) (a d : Floor) (xs : List (Result ℕ Spent)) → EndsWith c a d xs → EndsWith c a d (Ok v ∷ xs)
ends_value c v a d _ (EndsWith.over values h) = EndsWith.over (v ∷ values) h
ends_value c v a d _ (EndsWith.spent values e h) = EndsWith.spent (v ∷ values) e h

-- ---- what may be given

-- after a poll that was pending
pub collects_waiting : (hub : Hub) (a b d : Pass) (who c : ℕ) (ended : Bool) (before all : List (Result ℕ Spent)) → SameGiving a b
    → Gained who c [] (hub_floor hub a) (hub_floor hub b) → CollectsSo hub b who c ended before d all
    → CollectsSo hub a who c ended before d all
collects_waiting hub a b d who c ended before all same g h = record {
  items = h.items;
  whole = h.whole;
  own = h.own;
  giving = h.giving ∙ same;
  gained = gained_then who c [] (elements_of h.items) (hub_floor hub a) (hub_floor hub b) (hub_floor hub d) g h.gained;
  ends = goes_earlier who c [] ended (hub_floor hub a) (hub_floor hub b) (hub_floor hub d) h.items g h.ends;
}

-- after a poll that gave an element
pub collects_value : (hub : Hub) (a b d : Pass) (who c v : ℕ) (before all : List (Result ℕ Spent)) → SameGiving a b
    → Gained who c (v ∷ []) (hub_floor hub a) (hub_floor hub b) → CollectsSo hub b who c false (before ++ Ok v ∷ []) d all
    → CollectsSo hub a who c false before d all
collects_value hub a b d who c v before all same g h = record {
  items = Ok v ∷ h.items;
  whole = h.whole ∙ append_assoc before (Ok v ∷ []) h.items;
  own = h.own;
  giving = h.giving ∙ same;
  gained = gained_then who c (v ∷ []) (elements_of h.items) (hub_floor hub a) (hub_floor hub b) (hub_floor hub d) g h.gained;
  ends = ends_value c v (hub_floor hub a) (hub_floor hub d) h.items
      (ends_earlier who c (v ∷ []) (hub_floor hub a) (hub_floor hub b) (hub_floor hub d) h.items g h.ends);
}

-- after a poll that gave the fault
pub collects_fault : (hub : Hub) (a b d : Pass) (who c : ℕ) (e : Spent) (before all : List (Result ℕ Spent)) → SameGiving a b
    → Gained who c [] (hub_floor hub a) (hub_floor hub b) → HasNoPlace c (hub_floor hub a) (hub_floor hub b)
    → CollectsSo hub b who c true (before ++ Err e ∷ []) d all → CollectsSo hub a who c false before d all
collects_fault hub a b d who c e before all same g n h = record {
  items = Err e ∷ [];
  whole = h.whole ∙ append_assoc before (Err e ∷ []) h.items ∙ ap (λ l. before ++ Err e ∷ l) h.ends;
  own = h.own;
  giving = h.giving ∙ same;
  gained = subst (λ l. Gained who c l (hub_floor hub a) (hub_floor hub d)) (ap elements_of h.ends)
      (gained_then who c [] (elements_of h.items) (hub_floor hub a) (hub_floor hub b) (hub_floor hub d) g h.gained);
  ends = EndsWith.spent [] e (moment_within (hub_floor hub a) (hub_floor hub a) (hub_floor hub b) (hub_floor hub d)
      (IsSpentForReceives (hub_floor hub a).shape c) (prefix_self (hub_floor hub a).seen) n h.gained.added.longer);
}

-- at the end
pub collects_end : (hub : Hub) (a d : Pass) (who c : ℕ) (ended : Bool) (before : List (Result ℕ Spent)) → IsOwn hub d who → SameGiving a d
    → Gained who c [] (hub_floor hub a) (hub_floor hub d) → (ended ≡ false → IsOver c (hub_floor hub a) (hub_floor hub d))
    → CollectsSo hub a who c ended before d before
collects_end hub a d who c ended before own same g over = record {
  items = [];
  whole = sym (nothing before);
  own = own;
  giving = same;
  gained = g;
  ends = by_end ended over;
}
  where
    nothing : (xs : List (Result ℕ Spent)) → xs ++ [] ≡ xs
    nothing [] = refl
    nothing (x ∷ xs) = ap (λ l. x ∷ l) (nothing xs)

    by_end : (b : Bool) → (b ≡ false → IsOver c (hub_floor hub a) (hub_floor hub d)) → GoesOn b c (hub_floor hub a) (hub_floor hub d) []
    by_end true f = refl
    by_end false f = EndsWith.over [] (f refl)

-- ---- in the words of streams

-- what is said of the stream after a poll, of its hub and its channel as they were before
pub record Carried (old new : ReceiveStream) (elements : List ℕ) (before : List (Result ℕ Spent)) (ended : Bool) (d : Pass)
    (all : List (Result ℕ Spent)) : Type 0 where
  pub gained : Gained old.who old.c elements (hub_floor old.hub.now old.pass) (hub_floor old.hub.now new.pass)
  pub collects : CollectsSo old.hub.now new.pass old.who old.c ended before d all

carried : (old new : ReceiveStream) (elements : List ℕ) (before : List (Result ℕ Spent)) (ended : Bool) (d : Pass)
    (all : List (Result ℕ Spent)) → SameStream old new → GainedBy old elements new → new.ended ≡ ended
    → CollectsSo new.hub.now new.pass new.who new.c new.ended before d all → Carried old new elements before ended d all
carried old new elements before ended d all s g e h = record {
  gained = subst (λ (x : Hub). Gained old.who old.c elements (hub_floor old.hub.now old.pass) (hub_floor x new.pass)) s.hub g;
  collects =
      subst (λ (x : Bool). CollectsSo old.hub.now new.pass old.who old.c x before d all) e
      (subst (λ (x : ℕ). CollectsSo old.hub.now new.pass old.who x new.ended before d all) s.channel
      (subst (λ (x : ℕ). CollectsSo old.hub.now new.pass x new.c new.ended before d all) s.who
      (subst (λ (x : Hub). CollectsSo x new.pass new.who new.c new.ended before d all) s.hub h)));
}

-- what a future may give whose stream is this one
abbrev pub MayGive : {V : Type 0} → (V → List (Result ℕ Spent)) → List (Result ℕ Spent) → ReceiveStream → Result (Pass × V) Memory → Type 0
MayGive items_of before s r = IfOk r (λ x. CollectsSo s.hub.now s.pass s.who s.c s.ended before x.0 (items_of x.1))

module _ {V : Type 0} (items_of : V → List (Result ℕ Spent)) where
  pub waiting_gives : (old new : ReceiveStream) (before : List (Result ℕ Spent)) (r : Result (Pass × V) Memory) → SameStream old new
      → PolledSo old new Pending → MayGive items_of before new r → MayGive items_of before old r
  waiting_gives old new before (Err m) s p h = tt
  waiting_gives old new before (Ok x) s p h =
      let k = carried old new [] before old.ended x.0 (items_of x.1) s p.1 p.0 h in
      collects_waiting old.hub.now old.pass new.pass x.0 old.who old.c old.ended before (items_of x.1) s.giving k.gained k.collects

  pub item_gives : (old new : ReceiveStream) (before : List (Result ℕ Spent)) (item : Result ℕ Spent) (r : Result (Pass × V) Memory)
      → old.ended ≡ false → SameStream old new → PolledSo old new (Ready (Some item)) → MayGive items_of (before ++ item ∷ []) new r
      → MayGive items_of before old r
  item_gives old new before item (Err m) e s p h = tt
  item_gives old new before (Ok v) (Ok x) e s p h =
      let k = carried old new (v ∷ []) (before ++ Ok v ∷ []) false x.0 (items_of x.1) s p.1 p.0 h in
      subst (λ (b : Bool). CollectsSo old.hub.now old.pass old.who old.c b before x.0 (items_of x.1)) (sym e)
      (collects_value old.hub.now old.pass new.pass x.0 old.who old.c v before (items_of x.1) s.giving k.gained k.collects)
  item_gives old new before (Err f) (Ok x) e s p h =
      let k = carried old new [] (before ++ Err f ∷ []) true x.0 (items_of x.1) s p.1 p.0 h in
      subst (λ (b : Bool). CollectsSo old.hub.now old.pass old.who old.c b before x.0 (items_of x.1)) (sym e)
      (collects_fault old.hub.now old.pass new.pass x.0 old.who old.c f before (items_of x.1) s.giving k.gained
      (subst (λ (y : Hub). HasNoPlace old.c (hub_floor old.hub.now old.pass) (hub_floor y new.pass)) s.hub p.2) k.collects)

pub end_gives : (old new : ReceiveStream) (before : List (Result ℕ Spent)) → Stands new → SameStream old new → PolledSo old new (Ready None)
    → CollectsSo old.hub.now old.pass old.who old.c old.ended before new.pass before
end_gives old new before st s p =
    collects_end old.hub.now old.pass new.pass old.who old.c old.ended before
    (subst (λ (x : ℕ). IsOwn old.hub.now new.pass x) s.who (subst (λ (x : Hub). IsOwn x new.pass new.who) s.hub st.own))
    s.giving
    (subst (λ (x : Hub). Gained old.who old.c [] (hub_floor old.hub.now old.pass) (hub_floor x new.pass)) s.hub p.1)
    (λ e. subst (λ (x : Hub). IsOver old.c (hub_floor old.hub.now old.pass) (hub_floor x new.pass)) s.hub (is_over old.ended e p.2))
  where
    is_over : (ended : Bool) → ended ≡ false → IsOverBy ended old new → IsOver old.c (floor_of old) (floor_of new)
    is_over true e h = cc
    is_over false e h = (h.0, h.1)

-- ---- one poll

pub over_before : (old new : ReceiveStream) → old.ended ≡ true → new.pass ≡ old.pass → IsOverBy old.ended old new
over_before old new e h = subst (λ (b : Bool). IsOverBy b old new) (sym e) h

pub left_waiting : (old new : ReceiveStream) (r : Poll (Option (Result ℕ Spent))) → r ≡ Pending → PolledSo old new Pending
    → PolledSo old new r
left_waiting old new r e h = subst (λ (x : Poll (Option (Result ℕ Spent))). PolledSo old new x) (sym e) h

pub over_now : (old new : ReceiveStream) → old.ended ≡ false → (value : ℕ) → EndsAs old.c value (floor_of old) (floor_of new)
    → EndsBy old.wait old.who old.c value (floor_of old) (floor_of new) → IsOverBy old.ended old new
over_now old new e value h k = subst (λ (b : Bool). IsOverBy b old new) (sym e) (value, h, k)

-- ---- of a future that may have a stream

pub on_pending : {A : Type 0} (r : Poll A) (P : Type 0) → P → OnPending r P
on_pending (Ready x) P h = tt
on_pending Pending P h = h

-- a stream that gives an item had not ended
pub not_ended : (ended : Bool) (item : Result ℕ Spent) → RunsSo ended [] (Some item) → ended ≡ false
unfolding RunsSo
not_ended true item h = (let e : Some item ≡ None = h.1 in cc)
not_ended false item h = refl

module _ {V : Type 0} (items_of : V → List (Result ℕ Spent)) (o : Option ReceiveStream) (old new : ReceiveStream)
    (before : List (Result ℕ Spent)) where
  pub still_gives : (now : List (Result ℕ Spent)) → o ≡ Some old → now ≡ before → SameStream old new → PolledSo old new Pending
      → (r : Result (Pass × V) Memory) → MayGive items_of now new r → IsSomeAnd o (λ s. MayGive items_of before s r)
  still_gives now e f s p r h =
      subst (λ (x : Option ReceiveStream). IsSomeAnd x (λ t. MayGive items_of before t r)) (sym e)
      (waiting_gives items_of old new before r s p (subst (λ (l : List (Result ℕ Spent)). MayGive items_of l new r) f h))

  pub goes_on_giving : (now : List (Result ℕ Spent)) (item : Result ℕ Spent) → o ≡ Some old → now ≡ before ++ item ∷ []
      → StreamYields old [] (Some item) → SameStream old new → PolledSo old new (Ready (Some item)) → (r : Result (Pass × V) Memory)
      → MayGive items_of now new r → IsSomeAnd o (λ s. MayGive items_of before s r)
  goes_on_giving now item e f y s p r h =
      subst (λ (x : Option ReceiveStream). IsSomeAnd x (λ t. MayGive items_of before t r)) (sym e)
      (item_gives items_of old new before item r (not_ended old.ended item y) s p
      (subst (λ (l : List (Result ℕ Spent)). MayGive items_of l new r) f h))

pub gives_at_end : (o : Option ReceiveStream) (old new : ReceiveStream) (before all : List (Result ℕ Spent)) → o ≡ Some old → all ≡ before
    → Stands new → SameStream old new → PolledSo old new (Ready None)
    → IsSomeAnd o (λ s. CollectsSo s.hub.now s.pass s.who s.c s.ended before new.pass all)
gives_at_end o old new before all e f st s p =
    subst (λ (x : Option ReceiveStream). IsSomeAnd x (λ t. CollectsSo t.hub.now t.pass t.who t.c t.ended before new.pass all)) (sym e)
    (subst (λ (l : List (Result ℕ Spent)). CollectsSo old.hub.now old.pass old.who old.c old.ended before new.pass l) (sym f)
    (end_gives old new before st s p))
