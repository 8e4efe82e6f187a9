-- A coroutine that finds no place left on a done channel had attached its Job; and if it had a place of it before, it was told there that
-- the channel is closed.
use Rattle.std.proofs.lemmas.List.{append-nil}
use Rattle.std.specs.Prelude.{◌≡◌, ℕ, ◌+◌, ◌<◌, ◌≤◌, ◌==◌, nat_le, ◌⊎◌, Bool, true, false, ◌||◌, ◌&&◌, List, [], ◌∷◌, ◌++◌, Option, Some, None, slice_get, refl}
use Rattle.std.proofs.Common.{sym, ap, ◌∙◌, subst, inl, ⊎_elim, append_assoc, arith}
use Rattle.std.proofs.lemmas.Bool.{eqb-true, eq-eqb, leb-false, and_from, or_left, or_right, or_parts, or_cases, false≢true}
use Rattle.std.proofs.lemmas.Option.{same_Some}
use Rattle.co_base.specs.declared.names.WaitId.{WaitId}
use Rattle.channel_model.specs.declared.acts.Act.TheVariants.{Settle}
use Rattle.channel_model.specs.declared.acts.Settled.{Settled}
use Rattle.channel_model.specs.declared.acts.Settled.TheVariants as settled
use Rattle.channel_model.specs.declared.acts.ChannelNote.{ChannelNote}
use Rattle.channel_model.specs.declared.acts.ChannelNote.TheVariants as of_channel
use Rattle.job_model.specs.declared.acts.End.{End}
use Rattle.job_model.proofs.Spans.{or_nothing}
use Rattle.job_model.specs.declared.acts.JobAct.TheVariants.{Attach}
use Rattle.note_book.specs.declared.book.Item.{Item}
use Rattle.note_book.specs.declared.book.Item.TheVariants as item
use Rattle.note_book.specs.Items.{job_acts_in}
use Rattle.call_meaning.specs.Telling.{Told, note, on_channels, on_jobs, IsResolved, MayRun, IsCancelling, SpentForReceives, made, did, items_in}
use Rattle.call_meaning.specs.ChannelCalls.{receives, Answer, Done, Got, Waits, wait_at, AtOnce, Refused, PlainCall}
use Rattle.call_meaning.specs.JobCalls.{child_kind, scope_kind}
use Rattle.script_grammar.specs.declared.instructions.Instruction.{Instruction}
use Rattle.script_grammar.specs.Programs.{Program}
use Rattle.script_grammar.specs.WellFormed.{IsProgram}
use Rattle.script_grammar.specs.Tags.{spawned}
use Rattle.script_meaning.specs.declared.stage.Stage.{Stage}
use Rattle.script_meaning.specs.declared.stage.Stage.TheVariants.{Fresh, Running, Waiting, SeesJob, Unwinding, Leaving, SeesScope, Ended}
use Rattle.script_meaning.specs.Shapes.{base_of}
use Rattle.script_meaning.specs.Configs.{Config, Entered, in_repeat, in_each, in_scope, InScope, scope_in, fresh, at_stage, past_launch, named, innermost, LineIs}
use Rattle.script_meaning.specs.Lines.{is_lazy, After, AfterAwait, Resumed, AtScopeEnd, AfterScope}
use Rattle.script_meaning.specs.Moves.{Move}
use Rattle.script_meaning.specs.Books.{Spawns, Begins, Reaches}
use Rattle.script_meaning.proofs.CompletedJobs.{EndsSo, SeenAs, ends_left, ends_right}
use Rattle.script_meaning.proofs.NamedRows.{none_there, named_or_old}
use Rattle.script_meaning.proofs.TagsGiven.{launched_in, launched_then}
use Rattle.script_laws.proofs.MovesFrom.{begins_at, stage_is}
use Rattle.script_laws.proofs.DoneAsked.{admits_none, note_asks, asks_in, refusal_none}
use Rattle.script_laws.proofs.DonePlacesAsked.{placed_in, closed_in, entered_in, attached_in, placed_then, closed_then, entered_then, attached_then, launched_attached, entered_attached, not_asked, is_join, Receives, MoveAsks, move_asks}

-- ---- how a move goes on from a wait, and where it unwinds

-- it unwinds, or waits for a scope that did not complete: no line is run any more
abbrev pub IsUnwound : (ℕ → Bool) → Stage → List Entered → Type 0
IsUnwound done (Unwinding failure) entered = Unit {0}
IsUnwound done Ended entered = Unit {0}
IsUnwound done (Leaving w) entered = (s : InScope) → scope_in entered ≡ Some s → done s.row ≡ false
IsUnwound done SeesScope entered = (s : InScope) → scope_in entered ≡ Some s → done s.row ≡ false
IsUnwound done other entered = ⊥

abbrev is_plain : Stage → Bool
is_plain Fresh = true
is_plain Running = true
is_plain SeesJob = true
is_plain other = false

data MoveKind (p : Program) (k : ℕ) (done : ℕ → Bool) (x : Config) (group : List Told) (y : Config) : Type 0 where
  plain : is_plain x.stage ≡ true → MoveKind p k done x group y
  resumes : (w : WaitId) (i : Instruction) (outcome : Settled) (a : Answer) → x.stage ≡ Waiting w → LineIs p k x i → Resumed outcome a
      → After p k x i a y
      → group ≡ on_channels (IsResolved w) ∷ on_jobs (MayRun (innermost k x)) ∷ made (Settle w outcome) ∷ [] → MoveKind p k done x group y
  stops : (w : WaitId) → x.stage ≡ Waiting w → y.stage ≡ Unwinding None → MoveKind p k done x group y
  leaves : (w : WaitId) (n v : ℕ) → x.stage ≡ Leaving w → y.stage ≡ SeesScope → y.entered ≡ x.entered
      → group ≡ made (Settle w (settled.Closed n v)) ∷ [] → MoveKind p k done x group y
  sees : (s : InScope) (end : End) → x.stage ≡ SeesScope → scope_in x.entered ≡ Some s → AfterScope p k x s end y → SeenAs done s.row end
      → MoveKind p k done x group y
  breaks : (failure : Option ℕ) → x.stage ≡ Unwinding failure → IsUnwound done y.stage y.entered → MoveKind p k done x group y

same_scope : (entered : List Entered) (s t : InScope) → scope_in entered ≡ Some s → scope_in entered ≡ Some t → s ≡ t
same_scope entered s t e f = let both_some : Some s ≡ Some t = sym e ∙ f in cc

broken_at : (k : ℕ) (done : ℕ → Bool) (x : Config) (s : InScope) (a : Answer) (y : Config) → scope_in x.entered ≡ Some s
    → done s.row ≡ false → AtScopeEnd k x s a y → IsUnwound done y.stage y.entered
broken_at k done x s _ _ is d AtScopeEnd.no_place = tt
broken_at k done x s _ _ is d other = λ t e. subst (λ (u : InScope). done u.row ≡ false) (same_scope x.entered s t is e) d

move_kind : (p : Program) (k : ℕ) (done : ℕ → Bool) (x : Config) (group : List Told) (y : Config) → EndsSo done group → Move p k x group y
    → MoveKind p k done x group y
unfolding EndsSo
move_kind p k done _ _ _ e (Move.resumes x y w i outcome a s at m f) = MoveKind.resumes w i outcome a s at m f refl
move_kind p k done _ _ _ e (Move.cancelled x w s) = MoveKind.stops w s refl
move_kind p k done _ _ _ e (Move.gives_up x w group s g) = MoveKind.stops w s refl
move_kind p k done _ _ _ e (Move.scope_ended x w n v s) = MoveKind.leaves w n v s refl refl refl
move_kind p k done _ _ _ e (Move.sees_scope x y s end at is f) = MoveKind.sees s end at is f e.0
move_kind p k done _ _ _ e (Move.breaks_scope x y s failure break call all a at is g c f parts) =
    let ends = ends_left done break call (subst (EndsSo done) parts e) in
    let broken : done s.row ≡ false = (ends_right done g.cancels (on_jobs (IsCancelling s.row) ∷ g.end) (subst (EndsSo done) g.all ends)).0
    in
    MoveKind.breaks failure at (broken_at k done x s a y is broken f)
move_kind p k done _ _ _ e (Move.breaks x failure group s is g) = MoveKind.breaks failure s tt
move_kind p k done x group y e other = MoveKind.plain (ap is_plain (stage_is (begins_at other)))

-- ---- a place of a done channel is had once

-- a place was given to it there, and: it was told that the channel is closed; or it waits there; or it unwinds, and the Job is no scope
data OnceAsked (p : Program) (k : ℕ) (done : ℕ → Bool) (told : List Told) (x : Config) (row : ℕ) : Type 0 where
  closed : closed_in (base_of p + row) told ≡ true → OnceAsked p k done told x row
  leaves : (w : WaitId) → x.stage ≡ Leaving w → w.channel ≡ base_of p + row → OnceAsked p k done told x row
  waits : (w : WaitId) (i : Instruction) → x.stage ≡ Waiting w → w.channel ≡ base_of p + row → LineIs p k x i → is_join i ≡ true
      → launched_in row told ≡ true → OnceAsked p k done told x row
  unwound : IsUnwound done x.stage x.entered → launched_in row told ≡ true → OnceAsked p k done told x row

got_no_join : (p : Program) (k : ℕ) (x : Config) (i : Instruction) (v : ℕ) (y : Config) → is_join i ≡ true → After p k x i (Got v) y → ⊥
got_no_join p k x _ _ _ j (After.got c v) = absurd (false≢true j)
got_no_join p k x _ _ _ j other = absurd (false≢true j)

done_no_join : (p : Program) (k : ℕ) (x : Config) (i : Instruction) (y : Config) → is_join i ≡ true → After p k x i Done y → ⊥
done_no_join p k x _ _ j (After.sent c o) = absurd (false≢true j)
done_no_join p k x _ _ j other = absurd (false≢true j)

-- a wait of a join ends as closed
join_ends : (p : Program) (k : ℕ) (x : Config) (i : Instruction) (outcome : Settled) (a : Answer) (y : Config) → is_join i ≡ true
    → Resumed outcome a → After p k x i a y → (n : ℕ) × (v : ℕ) × (outcome ≡ settled.Closed n v)
join_ends p k x i _ _ y j (Resumed.value n v) f = absurd (got_no_join p k x i v y j f)
join_ends p k x i _ _ y j (Resumed.sent n) f = absurd (done_no_join p k x i y j f)
join_ends p k x i _ _ y j (Resumed.closed n v) f = (n, v, refl)

tells_closed : (c n v : ℕ) (w : WaitId) (row : ℕ) → w.channel ≡ c
    → closed_in c (on_channels (IsResolved w) ∷ on_jobs (MayRun row) ∷ made (Settle w (settled.Closed n v)) ∷ []) ≡ true
unfolding items_in
tells_closed c n v w row e = or_left (w.channel == c) false (eq-eqb w.channel c e)

tells_closed_alone : (c n v : ℕ) (w : WaitId) → w.channel ≡ c → closed_in c (made (Settle w (settled.Closed n v)) ∷ []) ≡ true
unfolding items_in
tells_closed_alone c n v w e = or_left (w.channel == c) false (eq-eqb w.channel c e)

same_wait : (x : Config) (w u : WaitId) → x.stage ≡ Waiting w → x.stage ≡ Waiting u → w ≡ u
same_wait x w u e f = let both : Waiting w ≡ Waiting u = sym e ∙ f in cc

same_leave : (x : Config) (w u : WaitId) → x.stage ≡ Leaving w → x.stage ≡ Leaving u → w ≡ u
same_leave x w u e f = let both : Leaving w ≡ Leaving u = sym e ∙ f in cc

same_line : (p : Program) (k : ℕ) (x : Config) (i l : Instruction) → LineIs p k x i → LineIs p k x l → i ≡ l
same_line p k x i l e f = let both_some : Some i ≡ Some l = sym e ∙ f in cc

not_plain : {A : Type 0} (x : Config) (stage : Stage) → x.stage ≡ stage → is_plain stage ≡ false → is_plain x.stage ≡ true → A
not_plain x stage e f g = absurd (false≢true (sym (ap is_plain e ∙ f) ∙ g))

closed_more : (c : ℕ) (told group : List Told) → closed_in c group ≡ true → closed_in c (told ++ group) ≡ true
closed_more c told group e = closed_then c told group ∙ or_right (closed_in c told) (closed_in c group) e

launched_more : (row : ℕ) (told group : List Told) → launched_in row told ≡ true → launched_in row (told ++ group) ≡ true
launched_more row told group e = launched_then row told group ∙ or_left (launched_in row told) (launched_in row group) e

plain_unwound : (done : ℕ → Bool) (stage : Stage) (entered : List Entered) → is_plain stage ≡ true → IsUnwound done stage entered → ⊥
plain_unwound done Fresh entered e u = u
plain_unwound done Running entered e u = u
plain_unwound done (Waiting w) entered e u = u
plain_unwound done SeesJob entered e u = u
plain_unwound done other entered e u = cc

unwound_at : (done : ℕ → Bool) (x : Config) (stage : Stage) → x.stage ≡ stage → IsUnwound done x.stage x.entered
    → IsUnwound done stage x.entered
unwound_at done x stage e u = subst (λ s. IsUnwound done s x.entered) e u

still_unwound : (p : Program) (k : ℕ) (done : ℕ → Bool) (x : Config) (s : InScope) (end : End) (y : Config) → done s.row ≡ false
    → SeenAs done s.row end → AfterScope p k x s end y → IsUnwound done y.stage y.entered
still_unwound p k done x s _ _ d seen (AfterScope.completed v e c) = absurd (false≢true (sym d ∙ seen))
still_unwound p k done x s _ _ d seen other = tt

-- after one move more
once_step : (p : Program) (k : ℕ) (done : ℕ → Bool) (told : List Told) (x : Config) (group : List Told) (y : Config) (row : ℕ)
    → OnceAsked p k done told x row → MoveKind p k done x group y → OnceAsked p k done (told ++ group) y row
once_step p k done told x group y row (OnceAsked.closed e) m =
    OnceAsked.closed (closed_then (base_of p + row) told group
    ∙ or_left (closed_in (base_of p + row) told) (closed_in (base_of p + row) group) e)
once_step p k done told x group y row (OnceAsked.leaves w e c) (MoveKind.plain s) = not_plain x (Leaving w) e refl s
once_step p k done told x group y row (OnceAsked.leaves w e c) (MoveKind.resumes u i outcome a s at m f g) = let both : Leaving w ≡
    Waiting u = sym e ∙ s in cc
once_step p k done told x group y row (OnceAsked.leaves w e c) (MoveKind.stops u s f) = let both : Leaving w ≡ Waiting u = sym e ∙ s in cc
once_step p k done told x group y row (OnceAsked.leaves w e c) (MoveKind.leaves u n v s f g is) =
    let same = same_leave x w u e s in
    OnceAsked.closed (closed_more (base_of p + row) told group (ap (closed_in (base_of p + row)) is
    ∙ tells_closed_alone (base_of p + row) n v u (ap (λ (z : WaitId). z.channel) (sym same) ∙ c)))
once_step p k done told x group y row (OnceAsked.leaves w e c) (MoveKind.sees s end at is f g) = let both : Leaving w ≡ SeesScope = sym e
    ∙ at in cc
once_step p k done told x group y row (OnceAsked.leaves w e c) (MoveKind.breaks failure s f) = let both : Leaving w ≡ Unwinding failure =
    sym e ∙ s in cc
once_step p k done told x group y row (OnceAsked.waits w l e c at j h) (MoveKind.plain s) = not_plain x (Waiting w) e refl s
once_step p k done told x group y row (OnceAsked.waits w l e c at j h) (MoveKind.resumes u i outcome a s is m f g) =
    let same = same_wait x w u e s in
    let line_is = same_line p k x l i at is in
    let ends = join_ends p k x i outcome a y (ap is_join (sym line_is) ∙ j) m f in
    let told_is : group ≡ on_channels (IsResolved u) ∷ on_jobs (MayRun (innermost k x)) ∷ made (Settle u (settled.Closed ends.0 ends.1)) ∷
    []
    = g ∙ ap (λ o. on_channels (IsResolved u) ∷ on_jobs (MayRun (innermost k x)) ∷ made (Settle u o) ∷ []) ends.2 in
    OnceAsked.closed (closed_more (base_of p + row) told group (ap (closed_in (base_of p + row)) told_is
    ∙ tells_closed (base_of p + row) ends.0 ends.1 u (innermost k x) (ap (λ (z : WaitId). z.channel) (sym same) ∙ c)))
once_step p k done told x group y row (OnceAsked.waits w l e c at j h) (MoveKind.stops u s f) =
    OnceAsked.unwound (subst (λ t. IsUnwound done t y.entered) (sym f) tt) (launched_more row told group h)
once_step p k done told x group y row (OnceAsked.waits w l e c at j h) (MoveKind.leaves u n v s f g is) = let both : Waiting w ≡ Leaving u =
    sym e ∙ s in cc
once_step p k done told x group y row (OnceAsked.waits w l e c at j h) (MoveKind.sees s end is f g d) = let both : Waiting w ≡ SeesScope =
    sym e ∙ is in cc
once_step p k done told x group y row (OnceAsked.waits w l e c at j h) (MoveKind.breaks failure s f) = let both : Waiting w ≡
    Unwinding failure = sym e ∙ s in cc
once_step p k done told x group y row (OnceAsked.unwound u h) (MoveKind.plain s) = absurd (plain_unwound done x.stage x.entered s u)
once_step p k done told x group y row (OnceAsked.unwound u h) (MoveKind.resumes w i outcome a s at m f g) =
    absurd (unwound_at done x (Waiting w) s u)
once_step p k done told x group y row (OnceAsked.unwound u h) (MoveKind.stops w s f) = absurd (unwound_at done x (Waiting w) s u)
once_step p k done told x group y row (OnceAsked.unwound u h) (MoveKind.leaves w n v s f g is) =
    OnceAsked.unwound (subst (λ t. IsUnwound done t y.entered) (sym f)
    (subst (λ es. (t : InScope) → scope_in es ≡ Some t → done t.row ≡ false) (sym g) (unwound_at done x (Leaving w) s u)))
    (launched_more row told group h)
once_step p k done told x group y row (OnceAsked.unwound u h) (MoveKind.sees s end at is f seen) =
    OnceAsked.unwound (still_unwound p k done x s end y (unwound_at done x SeesScope at u s is) seen f) (launched_more row told group h)
once_step p k done told x group y row (OnceAsked.unwound u h) (MoveKind.breaks failure s f) =
    OnceAsked.unwound f (launched_more row told group h)

-- ---- the rows of names and of scopes

abbrev AreNames : List Told → List ℕ → Type 0
AreNames told rows = (job row : ℕ) → slice_get rows job ≡ Some row → launched_in row told ≡ true

abbrev AreEntered : List Told → List Entered → Type 0
AreEntered told [] = Unit {0}
AreEntered told (in_repeat head left ∷ es) = AreEntered told es
AreEntered told (in_each head ∷ es) = AreEntered told es
AreEntered told (in_scope head row ∷ es) = (entered_in row told ≡ true) × AreEntered told es

-- the rows that it knows
record Rows (told : List Told) (x : Config) : Type 0 where
  names : AreNames told x.rows
  scopes : AreEntered told x.entered

entered_more : (told group : List Told) (es : List Entered) → AreEntered told es → AreEntered (told ++ group) es
entered_more told group [] h = tt
entered_more told group (in_repeat head left ∷ es) h = entered_more told group es h
entered_more told group (in_each head ∷ es) h = entered_more told group es h
entered_more told group (in_scope head row ∷ es) h = (
  entered_then row told group
      ∙ or_left (entered_in row told) (entered_in row group) h.0,
  entered_more told group es h.1,
)

scope_entered : (told : List Told) (es : List Entered) (s : InScope) → scope_in es ≡ Some s → AreEntered told es
    → (entered_in s.row told ≡ true) × AreEntered told s.around
scope_entered told [] s e h = cc
scope_entered told (in_repeat head left ∷ es) s e h = scope_entered told es s e h
scope_entered told (in_each head ∷ es) s e h = scope_entered told es s e h
scope_entered told (in_scope head row ∷ es) s e h =
    let is : record { head = head; row = row; around = es } ≡ s = same_Some _ _ e in
    (subst (λ (t : InScope). entered_in t.row told ≡ true) is h.0, subst (λ (t : InScope). AreEntered told t.around) is h.1)

-- its rows are the same, and it has entered no scope, though maybe a loop
rows_loop : (told group : List Told) (x y : Config) → y.rows ≡ x.rows → (AreEntered told x.entered → AreEntered told y.entered)
    → Rows told x → Rows (told ++ group) y
rows_loop told group x y e f h = record {
  names = λ job row at. launched_more row told group (h.names job row (subst (λ rows. slice_get rows job ≡ Some row) e at));
  scopes = entered_more told group y.entered (f h.scopes);
}

-- nothing changes of them
same_rows : (told group : List Told) (x y : Config) → y.rows ≡ x.rows → y.entered ≡ x.entered → Rows told x → Rows (told ++ group) y
same_rows told group x y e f = rows_loop told group x y e (subst (AreEntered told) (sym f))

-- it is out of its innermost scope
rows_outside : (told group : List Told) (x y : Config) (s : InScope) → scope_in x.entered ≡ Some s → y.rows ≡ x.rows → y.entered ≡ s.around
    → Rows told x → Rows (told ++ group) y
rows_outside told group x y s is e f = rows_loop told group x y e
    (λ h. subst (AreEntered told) (sym f) (scope_entered told x.entered s is h).1)

after_rows : (p : Program) (k : ℕ) (told group : List Told) (x : Config) (i : Instruction) (a : Answer) (y : Config) → Rows told x
    → After p k x i a y → Rows (told ++ group) y
after_rows p k told group x _ _ y h (After.got_one_more c v) = rows_loop told group x _ refl (λ e. e) h
after_rows p k told group x _ _ y h other = same_rows told group x _ refl refl h

end_rows : (k : ℕ) (told group : List Told) (x : Config) (s : InScope) (a : Answer) (y : Config) → scope_in x.entered ≡ Some s → Rows told x
    → AtScopeEnd k x s a y → Rows (told ++ group) y
end_rows k told group x s _ _ is h AtScopeEnd.no_place = rows_outside told group x _ s is refl refl h
end_rows k told group x s _ _ is h other = same_rows told group x _ refl refl h

past_rows : (p : Program) (k : ℕ) (told group : List Told) (x : Config) (s : InScope) (end : End) (y : Config) → scope_in x.entered ≡ Some s
    → Rows told x → AfterScope p k x s end y → Rows (told ++ group) y
past_rows p k told group x s _ _ is h (AfterScope.completed v e c) = rows_outside told group x _ s is refl refl h
past_rows p k told group x s _ _ is h other = rows_outside told group x _ s is refl refl h

await_rows : (told group : List Told) (x : Config) (end : End) (y : Config) → Rows told x → AfterAwait x end y → Rows (told ++ group) y
await_rows told group x _ _ h (AfterAwait.completed v) = same_rows told group x _ refl refl h
await_rows told group x _ _ h other = same_rows told group x _ refl refl h

launch_rows : (told : List Told) (parent free : ℕ) (lazy now : Bool) (job : Option ℕ) (rows : List ℕ) → AreNames told rows
    → AreNames (told ++ did (Attach parent free (child_kind lazy) free now) ∷ []) (named job free rows)
unfolding items_in
launch_rows told parent free lazy now job rows h n r at =
    let group = did (Attach parent free (child_kind lazy) free now) ∷ [] in
    ⊎_elim
    (λ e. launched_then r told group ∙ or_right (launched_in r told) (launched_in r group)
    (or_left ((r == free) && true) false (and_from (r == free) true (eq-eqb r free e) refl)))
    (λ e. launched_more r told group (h n r e))
    (named_or_old job free rows n r at)

enter_rows : (told : List Told) (parent row head tag : ℕ) (supervisor now : Bool) (es : List Entered) → AreEntered told es
    → AreEntered (told ++ did (Attach parent row (scope_kind supervisor) tag now) ∷ []) (in_scope head row ∷ es)
unfolding items_in
enter_rows told parent row head tag supervisor now es h =
    let group = did (Attach parent row (scope_kind supervisor) tag now) ∷ [] in (
      entered_then row told group ∙ or_right (entered_in row told) (entered_in row group)
          (or_left ((row == row) && true) false (and_from (row == row) true (eq-eqb row row refl) refl)),
      entered_more told group es h,
    )

move_rows : (p : Program) (k : ℕ) (told : List Told) (x : Config) (group : List Told) (y : Config) → Rows told x → Move p k x group y
    → Rows (told ++ group) y
move_rows p k told _ _ _ h (Move.calls x y i group a at c f) = after_rows p k told group x i a y h f
move_rows p k told _ _ _ h (Move.resumes x y w i outcome a s at m f) = after_rows p k told _ x i a y h f
move_rows p k told _ _ _ h (Move.sees_job x y job row end s at n f) = await_rows told _ x end y h f
move_rows p k told _ _ _ h (Move.launches x block how job now at) = record {
  names = launch_rows told (innermost k x) x.free (is_lazy how) now job x.rows h.names;
  scopes = entered_more told _ x.entered h.scopes;
}
move_rows p k told _ _ _ h (Move.enters x supervisor row now at) = record {
  names = λ job r at. launched_more r told _ (h.names job r at);
  scopes = enter_rows told (innermost k x) row x.line k supervisor now x.entered h.scopes;
}
move_rows p k told _ _ _ h (Move.repeats x n at) = rows_loop told _ x _ refl (λ e. e) h
move_rows p k told _ _ _ h (Move.turns_again x head n es at is) = rows_loop told _ x _ refl (subst (AreEntered told) is) h
move_rows p k told _ _ _ h (Move.turns_no_more x head es at is) = rows_loop told _ x _ refl (subst (AreEntered told) is) h
move_rows p k told _ _ _ h (Move.receives_again x head es at is) = rows_loop told _ x _ refl (subst (AreEntered told) is) h
move_rows p k told _ _ _ h (Move.ends_scope x y s end call all a at is g c f parts) = end_rows k told all x s a y (ap scope_in is) h f
move_rows p k told _ _ _ h (Move.sees_scope x y s end at is f) = past_rows p k told _ x s end y is h f
move_rows p k told _ _ _ h (Move.breaks_scope x y s failure break call all a at is g c f parts) = end_rows k told all x s a y is h f
move_rows p k told x group y h other = same_rows told group x y refl refl h

-- ---- a receive on a done channel

not_placed : (base c : ℕ) (group : List Told) → base ≤ c → asks_in base group ≡ false → placed_in c group ≡ false
not_placed base c group le e = not_asked base c (items_in group) le e

-- where it is given a place it waits there
call_placed : (base : ℕ) (c d : ℕ) (call : List Told) (a : Answer) → base ≤ d → PlainCall (receives c) call a → placed_in d call ≡ true
    → (q : ℕ) × (a ≡ Waits (wait_at c q)) × (c ≡ d)
unfolding items_in
call_placed base c d _ _ le (PlainCall.at_once _ call a (AtOnce.takes _ v q admits h)) e =
    absurd (false≢true (sym (not_placed base d admits le (admits_none base c admits h)) ∙ e))
call_placed base c d _ _ le (PlainCall.refused _ t a (Refused.receive _ u)) e = cc
call_placed base c d _ _ le (PlainCall.no_place _ all is) e = absurd (false≢true (sym (ap (placed_in d) is) ∙ e))
call_placed base c d _ _ le (PlainCall.awaits _ q) e = (q, refl, eqb-true c d (⊎_elim (λ k. k) (λ k. cc) (or_cases (c == d) false e)))

receives_waits : (p : Program) (k : ℕ) (done : ℕ → Bool) (told group : List Told) (x : Config) (row q : ℕ) (y : Config) → Rows told x
    → Receives p k x row (Waits (wait_at (base_of p + row) q)) y → OnceAsked p k done (told ++ group) y row
receives_waits p k done told group x row q _ h (Receives.at_line i job at j n (After.waits _ w)) =
    OnceAsked.waits w i refl refl at.line_is j (launched_more row told group (h.names job row n))
receives_waits p k done told group x row q _ h (Receives.at_end s e is (AtScopeEnd.waits w) f) = OnceAsked.leaves w refl refl

pub attached_more : (row : ℕ) (told group : List Told) → attached_in row told ≡ true → attached_in row (told ++ group) ≡ true
attached_more row told group e = attached_then row told group ∙ or_left (attached_in row told) (attached_in row group) e

-- the row is one that it attached
receives_own : (p : Program) (k : ℕ) (told : List Told) (x : Config) (row : ℕ) (a : Answer) (y : Config) → Rows told x
    → Receives p k x row a y → attached_in row told ≡ true
receives_own p k told x row a y h (Receives.at_line i job at j n f) =
    launched_attached row (job_acts_in (items_in told)) (h.names job row n)
receives_own p k told x row a y h (Receives.at_end s e is f g) =
    subst (λ r. attached_in r told ≡ true) (sym e) (entered_attached s.row (job_acts_in (items_in told))
    (scope_entered told x.entered s is h.scopes).0)

-- no row is both a coroutine's and a scope's
abbrev pub AreApart : List Told → Type 0
AreApart told = (row : ℕ) → launched_in row told ≡ true → entered_in row told ≡ true → ⊥

not_waiting : {A : Type 0} (x : Config) (w : WaitId) → x.stage ≡ Waiting w → (x.stage ≡ Running)
    ⊎ ((failure : Option ℕ) × (x.stage ≡ Unwinding failure)) → A
not_waiting x w e h = absurd (⊎_elim (λ f. let both : Waiting w ≡ Running = sym e ∙ f
    in cc) (λ f. let both : Waiting w ≡ Unwinding f.0 = sym e ∙ f.1 in cc) h)

not_leaving : {A : Type 0} (x : Config) (w : WaitId) → x.stage ≡ Leaving w → (x.stage ≡ Running)
    ⊎ ((failure : Option ℕ) × (x.stage ≡ Unwinding failure)) → A
not_leaving x w e h = absurd (⊎_elim (λ f. let both : Leaving w ≡ Running = sym e ∙ f
    in cc) (λ f. let both : Leaving w ≡ Unwinding f.0 = sym e ∙ f.1 in cc) h)

runs_or_unwinds : (p : Program) (k : ℕ) (x : Config) (row : ℕ) (a : Answer) (y : Config) → Receives p k x row a y → (x.stage ≡ Running)
    ⊎ ((failure : Option ℕ) × (x.stage ≡ Unwinding failure))
runs_or_unwinds p k x row a y (Receives.at_line i job at j n f) = inl at.stage
runs_or_unwinds p k x row a y (Receives.at_end s e is f g) = g

-- if it had a place there before, it was told that the channel is closed
receives_closed : (p : Program) (k : ℕ) (done : ℕ → Bool) (told : List Told) (x : Config) (row : ℕ) (a : Answer) (y : Config)
    → AreApart told → Rows told x → OnceAsked p k done told x row → Receives p k x row a y → closed_in (base_of p + row) told ≡ true
receives_closed p k done told x row a y apart h (OnceAsked.closed e) r = e
receives_closed p k done told x row a y apart h (OnceAsked.leaves w e c) r = not_leaving x w e (runs_or_unwinds p k x row a y r)
receives_closed p k done told x row a y apart h (OnceAsked.waits w i e c at j l) r = not_waiting x w e (runs_or_unwinds p k x row a y r)
receives_closed p k done told x row a y apart h (OnceAsked.unwound u l) (Receives.at_line i job at j n f) =
    absurd (unwound_at done x Running at.stage u)
receives_closed p k done told x row a y apart h (OnceAsked.unwound u l) (Receives.at_end s e is f g) =
    absurd (apart row l (subst (λ r. entered_in r told ≡ true) (sym e) (scope_entered told x.entered s is h.scopes).0))

-- ---- all that is told

-- where no place of a done channel was left, the Job was attached, and if a place was had before, the channel was seen closed
abbrev pub NoteAsked : ℕ → List Told → ChannelNote → Type 0
NoteAsked base seen (of_channel.Spent c) = (row : ℕ) → c ≡ base + row → (attached_in row seen ≡ true)
    × (placed_in c seen ≡ true → closed_in c seen ≡ true)
NoteAsked base seen other = Unit {0}

abbrev pub ItemAsked : ℕ → List Told → Item → Type 0
ItemAsked base seen (item.Channel n) = NoteAsked base seen n
ItemAsked base seen (item.Job n) = Unit {0}

abbrev pub ToldAsked : ℕ → List Told → Told → Type 0
ToldAsked base seen (note i) = ItemAsked base seen i
ToldAsked base seen other = Unit {0}

unfoldable pub AllAsked : ℕ → List Told → List Told → Type 0
AllAsked base seen [] = Unit {0}
AllAsked base seen (t ∷ ts) = ToldAsked base seen t × AllAsked base (seen ++ t ∷ []) ts

asked_then : (base : ℕ) (seen xs ys : List Told) → AllAsked base seen xs → AllAsked base (seen ++ xs) ys → AllAsked base seen (xs ++ ys)
unfolding AllAsked
asked_then base seen [] ys h m = subst (λ l. AllAsked base l ys) (append-nil seen) m
asked_then base seen (x ∷ xs) ys h m = (
  h.0,
  asked_then base (seen
      ++ x ∷ []) xs ys h.1 (subst (λ l. AllAsked base l ys) (sym (append_assoc seen (x ∷ []) xs)) m),
)

not_low : (base c row : ℕ) → nat_le base c ≡ false → c ≡ base + row → ⊥
not_low base c row e f = omega (arith, leb-false base c e, f)

quiet_note : (base : ℕ) (seen : List Told) (n : ChannelNote) → note_asks base n ≡ false → NoteAsked base seen n
quiet_note base seen (of_channel.Spent c) e = λ row f. absurd (not_low base c row e f)
quiet_note base seen other e = tt

quiet_asked : (base : ℕ) (seen group : List Told) → asks_in base group ≡ false → AllAsked base seen group
unfolding AllAsked items_in
quiet_asked base seen [] e = tt
quiet_asked base seen (note (item.Channel n) ∷ group) e = let two = or_parts (note_asks base n) (asks_in base group) e
    in (quiet_note base seen n two.0, quiet_asked base (seen ++ note (item.Channel n) ∷ []) group two.1)
quiet_asked base seen (other ∷ group) e = (tt, quiet_asked base (seen ++ other ∷ []) group e)

fact_places : (c : ℕ) (seen : List Told) (d : ℕ) → placed_in c (seen ++ on_channels (SpentForReceives d) ∷ []) ≡ placed_in c seen
unfolding items_in
fact_places c seen d = placed_then c seen (on_channels (SpentForReceives d) ∷ []) ∙ sym (or_nothing (placed_in c seen))

-- a receive on a done channel
call_asked : (base row : ℕ) (seen call : List Told) (a : Answer) → attached_in row seen ≡ true
    → (placed_in (base + row) seen ≡ true → closed_in (base + row) seen ≡ true) → PlainCall (receives (base + row)) call a
    → AllAsked base seen call
unfolding AllAsked items_in
call_asked base row seen _ _ own once (PlainCall.at_once _ call a (AtOnce.takes _ v q admits h)) =
    (tt, quiet_asked base _ admits (admits_none base (base + row) admits h))
call_asked base row seen _ _ own once (PlainCall.refused _ t a (Refused.receive _ u)) = (tt, tt)
call_asked base row seen _ _ own once (PlainCall.no_place _ all is) = subst (AllAsked base seen) (sym is) (tt, (told_there, tt))
  where
    c : ℕ
    c = base + row

    now : List Told
    now = seen ++ on_channels (SpentForReceives c) ∷ []

    same_row : (r : ℕ) → c ≡ base + r → r ≡ row
    same_row r e = omega (arith, e)

    told_there : (r : ℕ) → c ≡ base + r → (attached_in r now ≡ true) × (placed_in c now ≡ true → closed_in c now ≡ true)
    told_there r e = (
      subst (λ q. attached_in q now ≡ true) (sym (same_row r e)) (attached_more row seen (on_channels (SpentForReceives c) ∷ []) own),
      λ f. closed_then c seen (on_channels (SpentForReceives c) ∷ [])
          ∙ or_left (closed_in c seen) (closed_in c (on_channels (SpentForReceives c) ∷ [])) (once (sym (fact_places c seen c) ∙ f)),
    )
call_asked base row seen _ _ own once (PlainCall.awaits _ q) = (tt, tt)

-- ---- wherever its moves lead it

pub record ReachAsks (p : Program) (k : ℕ) (done : ℕ → Bool) (told : List Told) (x : Config) : Type 0 where
  rows : Rows told x
  once : (row : ℕ) → placed_in (base_of p + row) told ≡ true → OnceAsked p k done told x row
  -- whoever has a place of a done channel attached the Job
  pub own : (row : ℕ) → placed_in (base_of p + row) told ≡ true → attached_in row told ≡ true
  pub asked : AllAsked (base_of p) [] told

above : (base row : ℕ) → base ≤ base + row
above base row = omega arith

-- with a move that asks
move_asked : (p : Program) (k : ℕ) (done : ℕ → Bool) (told : List Told) (x : Config) (group : List Told) (y : Config) → AreApart told
    → ReachAsks p k done told x → MoveKind p k done x group y → Rows (told ++ group) y → MoveAsks p k x group y
    → ReachAsks p k done (told ++ group) y
move_asked p k done told x group y apart h kind rows (MoveAsks.none e) = record {
  rows = rows;
  once = λ row f. once_step p k done told x group y row (h.once row (before row f)) kind;
  own = λ row f. attached_more row told group (h.own row (before row f));
  asked = asked_then (base_of p) [] told group h.asked (quiet_asked (base_of p) told group e);
}
  where
    before : (row : ℕ) → placed_in (base_of p + row) (told ++ group) ≡ true → placed_in (base_of p + row) told ≡ true
    before row f =
        ⊎_elim (λ g. g) (λ g. absurd (false≢true (sym (not_placed (base_of p) (base_of p + row) group (above (base_of p) row) e) ∙ g)))
        (or_cases (placed_in (base_of p + row) told) (placed_in (base_of p + row) group) (sym (placed_then (base_of p + row) told group)
        ∙ f))
move_asked p k done told x group y apart h kind rows (MoveAsks.asks r first call a quiet is c by) = record {
  rows = rows;
  once = λ row f. ⊎_elim
      (λ g. once_step p k done told x group y row (h.once row g) kind)
      (λ g. new_place row (there row g))
      (or_cases (placed_in (base_of p + row) told) (placed_in (base_of p + row) group) (sym (placed_then (base_of p + row) told group)
      ∙ f));
  own = λ row f. ⊎_elim
      (λ g. attached_more row told group (h.own row g))
      (λ g. attached_more row told group (subst (λ n. attached_in n told ≡ true) (same_row row (there row g).2) own_row))
      (or_cases (placed_in (base_of p + row) told) (placed_in (base_of p + row) group) (sym (placed_then (base_of p + row) told group)
      ∙ f));
  asked = asked_then (base_of p) [] told group h.asked (subst (AllAsked (base_of p) told) (sym is)
      (asked_then (base_of p) told first call (quiet_asked (base_of p) told first quiet)
      (call_asked (base_of p) r (told ++ first) call a (attached_more r told first own_row) closed_there c)));
}
  where
    own_row : attached_in r told ≡ true
    own_row = receives_own p k told x r a y h.rows by

    same_row : (row : ℕ) → base_of p + r ≡ base_of p + row → r ≡ row
    same_row row e = omega (arith, e)

    there : (row : ℕ) → placed_in (base_of p + row) group ≡ true → (q : ℕ) × (a ≡ Waits (wait_at (base_of p + r) q))
        × (base_of p + r ≡ base_of p + row)
    there row g = ⊎_elim
        (λ f. absurd (false≢true (sym (not_placed (base_of p) (base_of p + row) first (above (base_of p) row) quiet) ∙ f)))
        (λ f. call_placed (base_of p) (base_of p + r) (base_of p + row) call a (above (base_of p) row) c f)
        (or_cases (placed_in (base_of p + row) first) (placed_in (base_of p + row) call)
        (sym (ap (placed_in (base_of p + row)) is ∙ placed_then (base_of p + row) first call) ∙ g))

    new_place : (row : ℕ) → (q : ℕ) × (a ≡ Waits (wait_at (base_of p + r) q)) × (base_of p + r ≡ base_of p + row)
        → OnceAsked p k done (told ++ group) y row
    new_place row g = subst (OnceAsked p k done (told ++ group) y) (same_row row g.2)
        (receives_waits p k done told group x r g.0 y h.rows (subst (λ b. Receives p k x r b y) g.1 by))

    closed_there : placed_in (base_of p + r) (told ++ first) ≡ true → closed_in (base_of p + r) (told ++ first) ≡ true
    closed_there f =
        let was : placed_in (base_of p + r) told ≡ true = ⊎_elim (λ g. g)
        (λ g. absurd (false≢true (sym (not_placed (base_of p) (base_of p + r) first (above (base_of p) r) quiet) ∙ g)))
        (or_cases (placed_in (base_of p + r) told) (placed_in (base_of p + r) first) (sym (placed_then (base_of p + r) told first) ∙ f))
        in
        closed_then (base_of p + r) told first ∙ or_left (closed_in (base_of p + r) told) (closed_in (base_of p + r) first)
        (receives_closed p k done told x r a y apart h.rows (h.once r was) by)

-- nothing is asked in a beginning
spawns_ask : (p : Program) (base : ℕ) (blocks : List ℕ) (x : Config) (group : List Told) (y : Config) → Spawns p blocks x group y
    → (asks_in base group ≡ false) × (y.rows ≡ x.rows) × (y.entered ≡ x.entered)
unfolding items_in
spawns_ask p base _ _ _ _ (Spawns.done x) = (refl, refl, refl)
spawns_ask p base _ _ _ _ (Spawns.attaches block blocks x y now more rest) =
    spawns_ask p base blocks (past_launch p block None x) more y rest
spawns_ask p base _ _ _ _ (Spawns.refused block blocks x group g) = (refusal_none base 0 false group g, refl, refl)

pub begins_ask : (p : Program) (base k : ℕ) (group : List Told) (x : Config) → Begins p k group x → (asks_in base group ≡ false)
    × (x.rows ≡ []) × (x.entered ≡ [])
unfolding items_in
begins_ask p base _ _ _ (Begins.root group x s) = spawns_ask p base (spawned p) (fresh 0) group x s
begins_ask p base _ _ _ (Begins.child k n) = (refl, refl, refl)

begun_rows : (group : List Told) (x : Config) → x.rows ≡ [] → x.entered ≡ [] → Rows group x
begun_rows group x e f = record {
  names = λ job row at. none_there job row (subst (λ rows. slice_get rows job ≡ Some row) e at);
  scopes = subst (AreEntered group) (sym f) tt;
}

begun_asks : (p : Program) (k : ℕ) (done : ℕ → Bool) (group : List Told) (x : Config) → Begins p k group x → ReachAsks p k done group x
begun_asks p k done group x b =
    let h = begins_ask p (base_of p) k group x b in
    record {
      rows = begun_rows group x h.1 h.2;
      once = λ row f. absurd (false≢true (sym (not_placed (base_of p) (base_of p + row) group (above (base_of p) row) h.0) ∙ f));
      own = λ row f. absurd (false≢true (sym (not_placed (base_of p) (base_of p + row) group (above (base_of p) row) h.0) ∙ f));
      asked = quiet_asked (base_of p) [] group h.0;
    }

apart_left : (xs ys : List Told) → AreApart (xs ++ ys) → AreApart xs
apart_left xs ys h = λ row e f. h row (launched_more row xs ys e) (entered_then row xs ys
    ∙ or_left (entered_in row xs) (entered_in row ys) f)

pub reach_asks : (p : Program) (k : ℕ) (done : ℕ → Bool) (told : List Told) (x : Config) → IsProgram p → EndsSo done told → AreApart told
    → Reaches p k told x → ReachAsks p k done told x
reach_asks p k done _ _ ok e apart (Reaches.begins group x b) = begun_asks p k done group x b
reach_asks p k done _ _ ok e apart (Reaches.goes_on before group all x y r m is) =
    let ends = subst (EndsSo done) is e in
    let two = apart_left before group (subst AreApart is apart) in
    let first = reach_asks p k done before x ok (ends_left done before group ends) two r in
    subst (λ l. ReachAsks p k done l y) (sym is)
    (move_asked p k done before x group y two first (move_kind p k done x group y (ends_right done before group ends) m)
    (move_rows p k before x group y first.rows m) (move_asks p k x group y ok m))
