-- A turn that was made noted something, or led elsewhere.
use Rattle.std.specs.Prelude.{◌≡◌, ℕ, ◌+◌, ◌*◌, ◌<◌, List, [], ◌∷◌, ◌++◌, map, refl}
use Rattle.std.proofs.Common.{sym, ap, ◌∙◌, subst, arith, ⊎_elim}
use Rattle.channel_model.proofs.LeftOnFloors.{receipts_in}
use Rattle.note_book.specs.declared.book.Item.{Item}
use Rattle.note_book.specs.Items.{channel_acts_in}
use Rattle.call_meaning.specs.Telling.{Told, items_in}
use Rattle.call_meaning.specs.ChannelCalls.{Call, sends, receives, Answer, LooksAgain, AtOnce, Refused, blocked, SelectCall}
use Rattle.script_grammar.specs.Programs.{Program}
use Rattle.script_grammar.specs.WellFormed.{IsProgram}
use Rattle.script_meaning.specs.Configs.{Config}
use Rattle.script_meaning.specs.Inside.{Fits}
use Rattle.script_meaning.specs.MovesLeft.{moves_left, most_moves, LooksAgainAt}
use Rattle.script_meaning.specs.Polls.{MovesOnce}
use Rattle.script_meaning.proofs.MovesFall.{receipts, FallsBy, once_falls}
use Rattle.poll_states.specs.Frames.{Frame, config_of, items_of, IsUnmoved}

nothing_left : {A : Type 0} (xs ys : List A) → xs ++ ys ≡ xs → ys ≡ []
nothing_left [] ys e = e
nothing_left (x ∷ xs) ys e = nothing_left xs ys (let k : xs ++ ys ≡ xs = cc in k)

once_not : {A : Type 0} (call : Call) (g : List Told) (a : Answer) → AtOnce call g a → a ≡ LooksAgain → A
once_not _ _ _ (AtOnce.hands c v q) e = absurd (let u : ⊥ = cc in u)
once_not _ _ _ (AtOnce.puts c v q more d) e = absurd (let u : ⊥ = cc in u)
once_not _ _ _ (AtOnce.takes c v q admits d) e = absurd (let u : ⊥ = cc in u)

refused_not : {A : Type 0} (call : Call) (t : Told) (a : Answer) → Refused call t a → a ≡ LooksAgain → A
refused_not _ _ _ (Refused.send c v u) e = absurd (let w : ⊥ = cc in w)
refused_not _ _ _ (Refused.receive c u) e = absurd (let w : ⊥ = cc in w)

blocked_noted : (call : Call) (more all : List Told) → all ≡ blocked call ∷ more → items_in all ≡ [] → ⊥
unfolding items_in
blocked_noted (sends c v) more all is none = let both_ways : items_in (blocked (sends c v) ∷ more) ≡ [] = ap items_in (sym is) ∙ none in cc
blocked_noted (receives c) more all is none = let both_ways : items_in (blocked (receives c) ∷ more) ≡ [] = ap items_in (sym is) ∙ none
    in cc

-- the clauses before a select looks again are noted
clauses_noted : (before : List Call) (call : Call) (later clauses : List Call) (more all : List Told) → clauses ≡ before ++ call ∷ later
    → all ≡ map blocked clauses ++ more → items_in all ≡ [] → ⊥
clauses_noted [] call later clauses more all is e none =
    blocked_noted call (map blocked later ++ more) all (e ∙ ap (λ cs. map blocked cs ++ more) is) none
clauses_noted (b ∷ before) call later clauses more all is e none =
    blocked_noted b (map blocked (before ++ call ∷ later) ++ more) all (e ∙ ap (λ cs. map blocked cs ++ more) is) none

looks_noted : (clauses : List Call) (told : List Told) (a : Answer) → SelectCall clauses told a → a ≡ LooksAgain → items_in told ≡ [] → ⊥
looks_noted clauses _ _ (SelectCall.chooses passed later call group all a is h e) again none = once_not call group a h again
looks_noted clauses _ _ (SelectCall.meets_close passed later call told all a is h e) again none = refused_not call told a h again
looks_noted clauses _ _ (SelectCall.stops_at_first later call stop all a is s e) again none =
    clauses_noted [] call later clauses stop all is e none
looks_noted clauses _ _ (SelectCall.stops w before later call group stop admits all a is p s d e) again none =
    clauses_noted before call later clauses _ all is e none
looks_noted clauses _ _ other again none = cc

pub turn_changes : (p : Program) (k : ℕ) (x : Config) (told : List Told) (y : Config) → IsProgram p → Fits p k x → MovesOnce p k x told y
    → y ≡ x → items_in told ≡ [] → ⊥
turn_changes p k x told y ok fits m same none =
    ⊎_elim
    (λ (falls : FallsBy p k x told y).
    let received : receipts told ≡ 0 = ap (λ i. receipts_of i) none in
    let less : moves_left p k y < moves_left p k x + most_moves p * 0 =
    subst (λ n. moves_left p k y < moves_left p k x + most_moves p * n) received falls in
    omega (arith, less, ap (moves_left p k) same))
    (λ (again : LooksAgainAt p k x told y). looks_noted _ told LooksAgain again.call refl none)
    (once_falls p k x told y ok fits m)
  where
    receipts_of : List Item → ℕ
    receipts_of items = receipts_in (channel_acts_in items)

-- a frame of which a turn was made is not unmoved
pub never_unmoved : {A : Type 0} (p : Program) (k : ℕ) (f g : Frame) (told : List Told) → IsProgram p → Fits p k (config_of f)
    → MovesOnce p k (config_of f) told (config_of g) → items_of g ≡ items_of f ++ items_in told → IsUnmoved f g → A
never_unmoved p k f g told ok fits m appended u = absurd
    (turn_changes p k (config_of f) told (config_of g) ok fits m u.config
    (nothing_left (items_of f) (items_in told) (sym appended ∙ u.items)))
