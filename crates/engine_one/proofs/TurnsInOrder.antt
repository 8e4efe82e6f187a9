-- Turns, one after the other, and the run that they make.
use Rattle.std.proofs.Common.{◌≡◌, ◌≢◌, ℕ, ◌<◌, List, [], ◌∷◌, ◌++◌, length, get_or, set, map, Option, Some, None, refl, ap, sym, ◌∙◌, subst, slice_get, inl, length-set, Result, Ok, Err, IfOk}
use Rattle.std.specs.Prelude.{option_map}
use Rattle.std.proofs.lemmas.List.{append-nil, append_assoc, length-map}
use Rattle.std.proofs.lemmas.Option.{slice_get-map}
use Rattle.std.proofs.lemmas.Simd.{map-map}
use Rattle.co_base.specs.declared.names.Memory.{Memory}
use Rattle.channel_model.specs.Floors.{Floor as ChannelFloor}
use Rattle.job_model.specs.Floors.{Floor}
use Rattle.note_book.specs.declared.book.Item.{Item}
use Rattle.script_grammar.specs.Programs.{Program}
use Rattle.script_grammar.specs.Tags.{coroutine_count}
use Rattle.script_meaning.specs.declared.turn.Turn.{Turn}
use Rattle.script_meaning.specs.Configs.{fresh}
use Rattle.script_meaning.specs.Polls.{Frame as Meant, Begun}
use Rattle.run_laws.proofs.Places.{slice_get-Some, slice_get-set_same, slice_get-set_other}
use Rattle.poll_states.specs.Frames.{Frame, frame_of, config_of, items_of}
use Rattle.poll_states.specs.Steps.{PolledTo, BegunTo}
use Rattle.engine_one.specs.Coroutines.{Scene}
use Rattle.engine_one.specs.Moments.{Moment, state_of}
use Rattle.engine_one.specs.Orders.{GlobalState, IsPoll, IsTurn, InOrder, no_turn, one_more, AreTurns, IsBeginning, unpolled}
use Rattle.engine_one.specs.Runs.{IsLeftOf, WasMadeInOrder}
use Rattle.engine_one.specs.declared.run.ListRun.{ListRun}
use Rattle.engine_one.specs.Starting.{IsMade, AllMade, HasNoCalls, HasNoJobs}
use Rattle.engine_one.proofs.Beginnings.{made_at}

-- what was seen of the floors, and these frames
abbrev pub state_at : Scene → List Frame → GlobalState
state_at s frames = record { channels = s.channels; jobs = s.jobs; frames = map frame_of frames }

-- ---- one turn

meant_at : (frames : List Frame) (k : ℕ) (f : Frame) → slice_get frames k ≡ Some f → slice_get (map frame_of frames) k ≡ Some (frame_of f)
meant_at frames k f e = slice_get-map frame_of frames k ∙ ap (option_map frame_of) e

meant_other : (frames : List Frame) (k j : ℕ) (g : Frame) → k ≢ j
    → slice_get (map frame_of (set frames k g)) j ≡ slice_get (map frame_of frames) j
meant_other frames k j g n =
    slice_get-map frame_of (set frames k g) j ∙ ap (option_map frame_of) (slice_get-set_other frames k j g n)
    ∙ sym (slice_get-map frame_of frames j)

-- a poll of f, which stood at k, left g there
pub poll_made : (p : Program) (m : Moment) (b : Scene) (k : ℕ) (f g : Frame) (answer : Turn) → k < length m.frames
    → f ≡ get_or m.frames k f → PolledTo p m.scene.channels b.channels m.scene.jobs b.jobs f g answer
    → IsPoll p k (state_of m) (state_at b (set m.frames k g))
poll_made p m b k f g answer lt read polled = record {
  old = frame_of f;
  new = frame_of g;
  answer = answer;
  was = meant_at m.frames k f (slice_get-Some m.frames k f lt read);
  becomes = meant_at (set m.frames k g) k g (slice_get-set_same m.frames k g lt);
  polled = polled.polled;
  turn = polled.turn;
  others = λ j n. meant_other m.frames k j g (λ e. n (sym e));
}

-- ---- turns

pub no_turns : (p : Program) (a : GlobalState) → AreTurns p a a
no_turns p a = ([], no_turn a)

pub turn_more : (p : Program) (a b c : GlobalState) (k : ℕ) → AreTurns p a b → IsTurn p k b c → AreTurns p a c
turn_more p a b c k h t = (h.0 ++ k ∷ [], one_more h.0 k a b c h.1 t)

pub one_poll : (p : Program) (a b : GlobalState) (k : ℕ) → IsPoll p k a b → AreTurns p a b
one_poll p a b k h = turn_more p a a b k (no_turns p a) (inl h)

in_order_then : (p : Program) (a b c : GlobalState) (xs ys : List ℕ) → InOrder p xs a b → InOrder p ys b c → InOrder p (xs ++ ys) a c
in_order_then p a _ _ xs _ h (InOrder.no_turn b) = subst (λ o. InOrder p o a b) (sym (append-nil xs)) h
in_order_then p a _ _ xs _ h (InOrder.one_more order k b c d before t) =
    subst (λ o. InOrder p o a d) (append_assoc xs order (k ∷ [])) (one_more (xs ++ order) k a c d
    (in_order_then p a b c xs order h before) t)

pub turns_then : (p : Program) (a b c : GlobalState) → AreTurns p a b → AreTurns p b c → AreTurns p a c
turns_then p a b c h k = (h.0 ++ k.0, in_order_then p a b c h.0 k.0 h.1 k.1)

-- ---- the beginning

meant_made : (k : ℕ) (f : Frame) → IsMade k f → frame_of f ≡ unpolled k
meant_made k f made =
    ap (λ t. record { tag = t; config = config_of f; book = items_of f }) made.tag
    ∙ ap (λ x. record { tag = k; config = x; book = items_of f }) made.config
    ∙ ap (λ b. record { tag = k; config = fresh k; book = b }) made.book

pub is_beginning : (p : Program) (c : ChannelFloor) (j j' : Floor) (frames : List Frame) (f g : Frame) → HasNoCalls p c
    → HasNoJobs p j → length frames ≡ coroutine_count p → 0 < length frames → AllMade frames → slice_get frames 0 ≡ Some f
    → BegunTo p c c j j' f g → IsBeginning p (state_at (record { channels = c; jobs = j' }) (set frames 0 g))
is_beginning p c j j' frames f g calls jobs count some all at begun = record {
  count = length-map (set frames 0 g) frame_of ∙ length-set frames 0 g ∙ count;
  channels = calls;
  jobs = j;
  no_jobs = jobs;
  root = frame_of g;
  root_is = meant_at (set frames 0 g) 0 g (slice_get-set_same frames 0 g some);
  begun = subst (λ x. Begun p j j' x (frame_of g)) (meant_made 0 f (made_at frames 0 f all at)) begun.begun;
  others = λ k x n e. other k x (slice_get frames k) refl (sym (meant_other frames 0 k g (λ q. n (sym q))) ∙ e);
}
  where
    same_some : (x y : Meant) (k : ℕ) → Some y ≡ Some x → y ≡ unpolled k → x ≡ unpolled k
    same_some x y k q h = cc

    other : (k : ℕ) (x : Meant) (o : Option Frame) → slice_get frames k ≡ o → slice_get (map frame_of frames) k ≡ Some x → x ≡ unpolled k
    other k x None e q =
        let none : None ≡ Some x = sym (slice_get-map frame_of frames k ∙ ap (option_map frame_of) e) ∙ q in cc
    other k x (Some y) e q =
        same_some x (frame_of y) k (sym (slice_get-map frame_of frames k ∙ ap (option_map frame_of) e) ∙ q)
        (meant_made k y (made_at frames k y all e))

-- ---- the run

-- what is left of a run that was made so
pub made_in_order : {B : Type 0} (items : B → List Item) (p : Program) (order : List ℕ) (a b : GlobalState) (m : Moment)
    (r : Result (ListRun B) Memory) → IsBeginning p a → InOrder p order a b → AreTurns p b (state_of m) → IfOk r (IsLeftOf items m)
    → IfOk r (WasMadeInOrder items p order)
made_in_order items p order a b m (Ok run) begins in_order turns same = record {
  begun = a;
  polled = b;
  left = state_of m;
  is_beginning = begins;
  in_order = in_order;
  then_turns = turns;
  books_are = same.books ∙ sym (map-map (λ (f : Meant). f.book) frame_of m.frames);
  channels_are = same.channels;
  jobs_are = same.jobs;
}
made_in_order items p order a b m (Err memory) begins in_order turns same = tt
