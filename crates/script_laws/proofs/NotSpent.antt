-- No coroutine of a run finds a done channel without a place while it is open: it has one place, only who attached the Job receives there,
-- and who had the place was told that the channel is closed before it asks again.
use Rattle.std.specs.Prelude.{◌≡◌, ℕ, suc, ◌+◌, ◌-◌, ◌<◌, ◌≤◌, ◌==◌, ◌⊎◌, nat_le, Bool, true, false, not, ◌||◌, ◌&&◌, List, [], ◌∷◌, ◌++◌, length, replicate, Option, Some, None, is_some, slice_index_or, MatchBool, refl}
use Rattle.std.specs.List.{list_any, list_all}
use Rattle.std.proofs.Common.{sym, ap, ◌∙◌, subst, ⊎_elim, append_assoc, arith}
use Rattle.std.proofs.lemmas.Bool.{eqb-true, leb-true, false_from_ne_true, or_from, or_parts, or_left, or_right, and_from, and_parts}
use Rattle.std.proofs.lemmas.List.{length-map, get_or-replicate, append-nil}
use Rattle.std.proofs.lemmas.List.Folds.{list_any-append}
use mathlib.Core.List.{IsPrefix}
use Rattle.channel_model.specs.declared.acts.Act.{Act}
use Rattle.channel_model.specs.declared.acts.Act.TheVariants.{Offer, Await}
use Rattle.channel_model.specs.declared.acts.Kind.{Kind}
use Rattle.channel_model.specs.declared.acts.Kind.TheVariants.{Signal}
use Rattle.channel_model.specs.declared.acts.ChannelNote.{ChannelNote}
use Rattle.channel_model.specs.declared.acts.ChannelNote.TheVariants as of_channel
use Rattle.channel_model.specs.declared.acts.Entry.{Entry}
use Rattle.channel_model.specs.Channels.{places_at}
use Rattle.channel_model.specs.Floors.{Floor as ChannelFloor}
use Rattle.channel_model.specs.Histories.{replay, acts_of, Legal}
use Rattle.channel_model.proofs.Histories.{acts_of-append, LegalFrom-parts}
use Rattle.channel_model.specs.Channels.{start as start_channels}
use Rattle.job_model.specs.declared.acts.JobAct.{JobAct}
use Rattle.job_model.specs.declared.acts.JobAct.TheVariants.{Attach}
use Rattle.job_model.specs.declared.acts.JobEntry.{JobEntry}
use Rattle.job_model.specs.Acts.{attaches}
use Rattle.job_model.specs.Trees.{Shape as JobShape, Job, Tree, start}
use Rattle.job_model.specs.Effects.{after}
use Rattle.job_model.specs.Needs.{Needs}
use Rattle.job_model.specs.Histories.{acts_of as job_acts_of, Legal as LegalJobs, LegalFrom}
use Rattle.job_model.specs.Floors.{Floor}
use Rattle.job_model.proofs.Lasting.{attached_lasts, act_keeps}
use Rattle.job_model.proofs.Steps.{RowStep, row_step}
use Rattle.note_book.specs.declared.book.Item.{Item}
use Rattle.note_book.specs.declared.book.Item.TheVariants as item
use Rattle.note_book.specs.Items.{job_acts_in, channel_acts_in}
use Rattle.note_book.proofs.Appended.{channel_acts_in-append}
use Rattle.call_meaning.specs.Telling.{Told, note, on_channels, on_jobs, items_in}
use Rattle.call_meaning.specs.ChannelCalls.{receives, Answer, AtOnce, Refused, PlainCall}
use Rattle.call_meaning.specs.Facts.{IsSpentNow}
use Rattle.call_meaning.specs.Stories.{Moment, IsSo, IsTrue, beginning, with_told}
use Rattle.call_meaning.specs.Calls.{seen_by}
use Rattle.script_grammar.specs.Programs.{Program, shape_of}
use Rattle.script_grammar.specs.WellFormed.{IsProgram}
use Rattle.script_grammar.specs.Tags.{job_count}
use Rattle.script_grammar.proofs.Layouts.{all_append}
use Rattle.script_meaning.specs.Shapes.{floor_shape, base_of, job_shape}
use Rattle.script_meaning.specs.Configs.{Config}
use Rattle.script_meaning.specs.Books.{Reaches, story, is_channel_refusal}
use Rattle.script_meaning.specs.Polls.{Frame, StandsOn}
use Rattle.script_meaning.proofs.BooksGoOn.{items_in-append}
use Rattle.script_meaning.proofs.CompletedJobs.{ends_so, completed_in}
use Rattle.script_meaning.proofs.TagsReached.{launched_in_run}
use Rattle.script_laws.specs.Owners.{AllNoted}
use Rattle.script_laws.proofs.RowsEntered.{enters_row, scope_rows, first_or_later}
use Rattle.script_laws.proofs.DoneAsked.{admits_none, item_asks}
use Rattle.script_laws.proofs.DonePlacesAsked.{places_on, ends_closed, placed_in, closed_in, attached_in, attached_then, not_asked, MoveAsks, move_asks}
use Rattle.script_laws.proofs.DoneReceivedOnce.{begins_ask, AreApart, NoteAsked, AllAsked, ReachAsks, reach_asks}
use Rattle.script_laws.proofs.PlacesGiven.{given_by, plain_at, ended_closed, all_from_each}
use Rattle.script_laws.proofs.ClaimsAttached.{stands_give, is_spent}

-- ---- the clauses of a coroutine on done channels are single

-- a clause with another number stands on a channel of which a place is given
act_plain : (c : ℕ) (act : Act) → places_on c act ≡ false → plain_at c act ≡ true
act_plain c (Offer d q v w n) e = ap (λ b. not b || (n == 0)) e
act_plain c (Await d q w n) e = ap (λ b. not b || (n == 0)) e
act_plain c other e = refl

acts_plain : (c : ℕ) (acts : List Act) → list_any (places_on c) acts ≡ false → list_all (plain_at c) acts ≡ true
acts_plain c [] e = refl
acts_plain c (act ∷ acts) e =
    let two = or_parts (places_on c act) (list_any (places_on c) acts) e in
    and_from (plain_at c act) (list_all (plain_at c) acts) (act_plain c act two.0) (acts_plain c acts two.1)

quiet_plain : (base c : ℕ) (items : List Item) → base ≤ c → list_any (item_asks base) items ≡ false
    → list_all (plain_at c) (channel_acts_in items) ≡ true
quiet_plain base c items le e = acts_plain c (channel_acts_in items) (not_asked base c items le e)

abbrev plain_in : ℕ → List Told → Bool
plain_in c told = list_all (plain_at c) (channel_acts_in (items_in told))

plain_then : (c : ℕ) (xs ys : List Told) → plain_in c xs ≡ true → plain_in c ys ≡ true → plain_in c (xs ++ ys) ≡ true
plain_then c xs ys e f =
    ap (λ l. list_all (plain_at c) (channel_acts_in l)) (items_in-append xs ys)
    ∙ ap (list_all (plain_at c)) (channel_acts_in-append (items_in xs) (items_in ys))
    ∙ all_append (plain_at c) (channel_acts_in (items_in xs)) (channel_acts_in (items_in ys)) e f

call_plain : (base : ℕ) (c d : ℕ) (call : List Told) (a : Answer) → base ≤ c → PlainCall (receives d) call a → plain_in c call ≡ true
unfolding items_in
call_plain base c d _ _ le (PlainCall.at_once _ call a (AtOnce.takes _ v q admits h)) =
    quiet_plain base c (items_in admits) le (admits_none base d admits h)
call_plain base c d _ _ le (PlainCall.refused _ t a (Refused.receive _ u)) = refl
call_plain base c d _ _ le (PlainCall.no_place _ all is) = ap (plain_in c) is
call_plain base c d _ _ le (PlainCall.awaits _ q) = and_from _ true (or_right (not (d == c)) true refl) refl

move_plain : (p : Program) (k : ℕ) (x : Config) (group : List Told) (y : Config) (c : ℕ) → base_of p ≤ c → MoveAsks p k x group y
    → plain_in c group ≡ true
move_plain p k x group y c le (MoveAsks.none e) = quiet_plain (base_of p) c (items_in group) le e
move_plain p k x group y c le (MoveAsks.asks row first call a quiet is h by) =
    ap (plain_in c) is ∙ plain_then c first call (quiet_plain (base_of p) c (items_in first) le quiet)
    (call_plain (base_of p) c (base_of p + row) call a le h)

told_plain : (p : Program) (k : ℕ) (told : List Told) (x : Config) (c : ℕ) → IsProgram p → base_of p ≤ c → Reaches p k told x
    → plain_in c told ≡ true
told_plain p k _ _ c ok le (Reaches.begins group x b) =
    quiet_plain (base_of p) c (items_in group) le (begins_ask p (base_of p) k group x b).0
told_plain p k _ _ c ok le (Reaches.goes_on before group all x y r m is) = ap (plain_in c) is
    ∙ plain_then c before group (told_plain p k before x c ok le r) (move_plain p k x group y c le (move_asks p k x group y ok m))

-- ---- who attached a Job

-- a row that was attached is one of the floor's
row_within : (shape : JobShape) (tree : Tree) (who r : ℕ) (act : JobAct) → shape.coroutines ≤ shape.rows → Needs shape tree who act
    → attaches r act ≡ true → r < shape.rows
row_within shape tree who r (Attach p q kind tag cancelled) le n e = by_kind kind.scoped n.3 (eqb-true r q e)
  where
    low : tag < shape.coroutines
    low = n.2

    by_kind : (s : Bool) → MatchBool s ((tag ≡ who) × (shape.coroutines ≤ q) × (q < shape.rows)) (q ≡ tag) → r ≡ q → r < shape.rows
    by_kind true m f = let lt = m.2 in omega (arith, lt, f)
    by_kind false m f = omega (arith, low, le, m, f)
row_within shape tree who r other le n e = cc

rows_within : (shape : JobShape) (tree : Tree) (es : List JobEntry) (who r : ℕ) → shape.coroutines ≤ shape.rows → LegalFrom shape tree es
    → list_any (attaches r) (job_acts_of who es) ≡ true → r < shape.rows
unfolding LegalFrom job_acts_of
rows_within shape tree [] who r le l e = cc
rows_within shape tree (x ∷ es) who r le l e =
    ⊎_elim (λ k. row_within shape tree x.who r x.act le l.0 k.1) (rows_within shape (after tree x.who x.act) es who r le l.1)
    (first_or_later (attaches r) who x es e)

-- once it is attached nobody attaches it
is_fresh : (shape : JobShape) (tree : Tree) (who r : ℕ) (act : JobAct) → Needs shape tree who act → attaches r act ≡ true → tree r ≡ None
is_fresh shape tree who r (Attach p q kind tag cancelled) n e = ap tree (eqb-true r q e) ∙ n.0
is_fresh shape tree who r other n e = cc

none_later : (shape : JobShape) (tree : Tree) (es : List JobEntry) (who r : ℕ) → LegalFrom shape tree es → is_some (tree r) ≡ true
    → list_any (attaches r) (job_acts_of who es) ≡ true → ⊥
unfolding LegalFrom job_acts_of
none_later shape tree [] who r l h e = cc
none_later shape tree (x ∷ es) who r l h e =
    ⊎_elim (λ k. let both : false ≡ true = sym (ap is_some (is_fresh shape tree x.who r x.act l.0 k.1)) ∙ h in cc)
    (none_later shape (after tree x.who x.act) es who r l.1
    (act_keeps (λ o. is_some o ≡ true) attached_lasts shape tree x.who x.act r l.0 h))
    (first_or_later (attaches r) who x es e)

now_attached : (shape : JobShape) (tree : Tree) (who q : ℕ) (act : JobAct) (x y : Option Job) → RowStep shape tree who q act x y
    → attaches q act ≡ true → is_some y ≡ true
now_attached shape tree who q _ _ _ (RowStep.stays act x a b d e f) g = absurd (let both : false ≡ true = sym a ∙ g in cc)
now_attached shape tree who q _ _ _ other e = refl

-- each Job was attached by one
attached_once : (shape : JobShape) (tree : Tree) (es : List JobEntry) (u k r : ℕ) → LegalFrom shape tree es
    → list_any (attaches r) (job_acts_of u es) ≡ true → list_any (attaches r) (job_acts_of k es) ≡ true → u ≡ k
unfolding LegalFrom job_acts_of
attached_once shape tree [] u k r l e f = cc
attached_once shape tree (x ∷ es) u k r l e f =
    ⊎_elim
    (λ a. ⊎_elim (λ b. sym a.0 ∙ b.0) (λ b. absurd (none_later shape (after tree x.who x.act) es k r l.1 (there a.1) b)) of_k)
    (λ a. ⊎_elim (λ b. absurd (none_later shape (after tree x.who x.act) es u r l.1 (there b.1) a))
    (attached_once shape (after tree x.who x.act) es u k r l.1 a) of_k)
    (first_or_later (attaches r) u x es e)
  where
    of_k : ((x.who ≡ k) × (attaches r x.act ≡ true)) ⊎ (list_any (attaches r) (job_acts_of k es) ≡ true)
    of_k = first_or_later (attaches r) k x es f

    there : attaches r x.act ≡ true → is_some (after tree x.who x.act r) ≡ true
    there = now_attached shape tree x.who r x.act (tree r) (after tree x.who x.act r) (row_step shape tree x.who x.act r l.0)

-- ---- a done channel has one place

get_behind : (xs ys : List (Kind × ℕ)) (n : ℕ) (d : Kind × ℕ) → slice_index_or (xs ++ ys) (length xs + n) d ≡ slice_index_or ys n d
get_behind [] ys n d = let same : 0 + n ≡ n = omega arith in ap (λ i. slice_index_or ys i d) same
get_behind (x ∷ xs) ys n d = let same : length (x ∷ xs) + n ≡ suc (length xs + n) = omega arith
    in ap (λ i. slice_index_or (x ∷ (xs ++ ys)) i d) same ∙ get_behind xs ys n d

done_places : (p : Program) (row : ℕ) → row < job_count p → places_at (floor_shape p) (base_of p + row) ≡ 1
done_places p row lt =
    let channels : length (shape_of p) ≡ base_of p = length-map p.channels (λ c. (c.kind, c.places)) in
    ap (λ n. places_at (floor_shape p) (n + row)) (sym channels)
    ∙ ap (λ (x : Kind × ℕ). x.1) (get_behind (shape_of p) (replicate (job_count p) (Signal, 1)) row (Signal, 0)
    ∙ get_or-replicate (job_count p) row (Signal, 1) (Signal, 0) lt)

-- ---- a run

stands_apart : (p : Program) (c : ChannelFloor) (j : Floor) (g : Frame) → IsProgram p → LegalJobs (job_shape p) j.seen
    → (h : StandsOn p c j g) → AreApart h.runs.told
stands_apart p c j g ok legal h = λ row launched entered.
    let own = ((stands_give p c j g ok legal h).launched row launched).0 in
    let low = launched_in_run p g.tag row ok h.in_run own in
    let acts : job_acts_in (items_in h.runs.told) ≡ job_acts_of g.tag j.seen = ap job_acts_in h.runs.written ∙ sym h.job_acts in
    let high = scope_rows (job_shape p) start j.seen g.tag row legal (ap (list_any (enters_row row)) (sym acts) ∙ entered) in
    omega (arith, low, high)

stands_ask : (p : Program) (c : ChannelFloor) (j : Floor) (g : Frame) → IsProgram p → LegalJobs (job_shape p) j.seen
    → (h : StandsOn p c j g) → ReachAsks p g.tag (completed_in j.seen) h.runs.told g.config
stands_ask p c j g ok legal h = reach_asks p g.tag (completed_in j.seen) h.runs.told g.config ok
    (ends_so (job_shape p) (story p g.tag (seen_by c j)) [] beginning h.runs.told legal h.runs.is_true) (stands_apart p c j g ok legal h)
    h.runs.reaches

-- an act of a shorter history is one of a longer
any_longer : (test : Act → Bool) (u : ℕ) (xs ys : List Entry) → IsPrefix xs ys → list_any test (acts_of u xs) ≡ true
    → list_any test (acts_of u ys) ≡ true
any_longer test u xs ys longer e =
    ap (λ l. list_any test (acts_of u l)) (sym longer.1)
    ∙ ap (list_any test) (acts_of-append u xs longer.0)
    ∙ list_any-append test (acts_of u xs) (acts_of u longer.0)
    ∙ or_left (list_any test (acts_of u xs)) (list_any test (acts_of u longer.0)) e

all_left : (test : Act → Bool) (xs ys : List Act) → list_all test (xs ++ ys) ≡ true → list_all test xs ≡ true
all_left test [] ys h = refl
all_left test (x ∷ xs) ys h = let both = and_parts (test x) _ h in and_from (test x) (list_all test xs) both.0 (all_left test xs ys both.1)

all_shorter : (test : Act → Bool) (u : ℕ) (xs ys : List Entry) → IsPrefix xs ys → list_all test (acts_of u ys) ≡ true
    → list_all test (acts_of u xs) ≡ true
all_shorter test u xs ys longer e = all_left test (acts_of u xs) (acts_of u longer.0)
    (sym (ap (λ l. list_all test (acts_of u l)) (sym longer.1) ∙ ap (list_all test) (acts_of-append u xs longer.0)) ∙ e)

some_not_none : {A : Type 0} (o : Option A) → is_some o ≡ true → o ≡ None → ⊥
some_not_none None e f = cc
some_not_none (Some x) e f = cc

above : (base row : ℕ) → base ≤ base + row
above base row = omega arith

-- at no moment of its book it finds a done channel open and without a place
spent_never : (p : Program) (c : ChannelFloor) (j : Floor) (g : Frame) → IsProgram p → Legal (floor_shape p) c.seen
    → LegalJobs (job_shape p) j.seen → (on : StandsOn p c j g) → AllNoted p c j → (seen rest : List Told) → on.runs.told ≡ seen ++ rest
    → (at : List Entry) → IsPrefix at c.seen → acts_of g.tag at ≡ channel_acts_in (items_in seen) → (row : ℕ)
    → IsSpentNow (floor_shape p) (base_of p + row) (replay at)
    → attached_in row seen ≡ true → (placed_in (base_of p + row) seen ≡ true → closed_in (base_of p + row) seen ≡ true) → ⊥
spent_never p c j g ok legal jobs on noted seen rest parts at before mine row spent own once =
    some_not_none _ (ended_closed (floor_shape p) d g.tag at legal_at plain (ap (list_any (ends_closed d)) mine ∙ once placed))
    spent.is_open
  where
    d : ℕ
    d = base_of p + row

    legal_at : Legal (floor_shape p) at
    legal_at = (LegalFrom-parts (floor_shape p) start_channels at before.0 (subst (Legal (floor_shape p)) (sym before.1) legal)).0

    -- who attached it
    attached : list_any (attaches row) (job_acts_of g.tag j.seen) ≡ true
    attached =
        ap (list_any (attaches row)) (on.job_acts ∙ ap job_acts_in (sym on.runs.written)) ∙ ap (attached_in row) parts
        ∙ attached_then row seen rest ∙ or_left (attached_in row seen) (attached_in row rest) own

    within : row < job_count p
    within = rows_within (job_shape p) start j.seen g.tag row (omega arith) jobs attached

    given : (u : ℕ) × (list_any (places_on d) (acts_of u at) ≡ true)
    given = given_by d at (let full = spent.spent in let one = done_places p row within in omega (arith, full, one))

    -- it is the same who had the place
    of_frame : (h : Frame) → StandsOn p c j h → list_any (places_on d) (acts_of h.tag at) ≡ true → h.tag ≡ g.tag
    of_frame h on_h e =
        let told_there : placed_in d on_h.runs.told ≡ true = ap (λ items. list_any (places_on d) (channel_acts_in items)) on_h.runs.written
        ∙ ap (list_any (places_on d)) (sym on_h.channel_acts) ∙ any_longer (places_on d) h.tag at c.seen before e in
        let own_h = (stands_ask p c j h ok jobs on_h).own row told_there in
        attached_once (job_shape p) start j.seen h.tag g.tag row jobs
        (ap (list_any (attaches row)) (on_h.job_acts ∙ ap job_acts_in (sym on_h.runs.written)) ∙ own_h) attached

    same_one : (u : ℕ) → list_any (places_on d) (acts_of u at) ≡ true → u ≡ g.tag
    same_one u e = ⊎_elim
        (λ none. absurd (let no : false ≡ true = sym (ap (list_any (places_on d)) none) ∙ any_longer (places_on d) u at c.seen before e
        in cc))
        (λ h. sym h.2 ∙ of_frame h.0 h.1 (subst (λ t. list_any (places_on d) (acts_of t at) ≡ true) (sym h.2) e))
        (noted u)

    placed : placed_in d seen ≡ true
    placed = sym (ap (list_any (places_on d)) mine) ∙ subst (λ t. list_any (places_on d) (acts_of t at) ≡ true) (same_one given.0 given.1)
        given.1

    each_plain : (u : ℕ) → list_all (plain_at d) (acts_of u c.seen) ≡ true
    each_plain u = ⊎_elim
        (λ none. ap (list_all (plain_at d)) none)
        (λ h. ap (λ t. list_all (plain_at d) (acts_of t c.seen)) (sym h.2)
        ∙ ap (list_all (plain_at d)) (h.1.channel_acts ∙ ap channel_acts_in (sym h.1.runs.written))
        ∙ told_plain p h.0.tag h.1.runs.told h.0.config d ok (above (base_of p) row) h.1.runs.reaches)
        (noted u)

    plain : list_all (λ (e : Entry). plain_at d e.act) at ≡ true
    plain = all_from_each (plain_at d) at (λ u. all_shorter (plain_at d) u at c.seen before (each_plain u))

-- ---- the whole book

push_items : (seen : List Told) (t : Told) → with_told t (items_in seen) ≡ items_in (seen ++ t ∷ [])
unfolding items_in
push_items seen (note i) = sym (items_in-append seen (note i ∷ []))
push_items seen (on_channels fact) = sym (items_in-append seen (on_channels fact ∷ []) ∙ append-nil (items_in seen))
push_items seen (on_jobs fact) = sym (items_in-append seen (on_jobs fact ∷ []) ∙ append-nil (items_in seen))

-- a note of channels that is so at its moment
not_spent_note : (p : Program) (c : ChannelFloor) (j : Floor) (g : Frame) → IsProgram p → Legal (floor_shape p) c.seen
    → LegalJobs (job_shape p) j.seen → (on : StandsOn p c j g) → AllNoted p c j → (seen rest : List Told) → on.runs.told ≡ seen ++ rest
    → (earlier at : Moment) (n : ChannelNote) → IsSo (story p g.tag (seen_by c j)) (items_in seen) earlier (note (item.Channel n)) at
    → NoteAsked (base_of p) seen n → is_channel_refusal (base_of p) n ≡ false
not_spent_note p c j g ok legal jobs on noted seen rest parts earlier at (of_channel.Spent d) so asked =
    false_from_ne_true (nat_le (base_of p) d) (λ e. let le = leb-true (base_of p) d e in at_row (d - base_of p) (omega (arith, le)))
  where
    at_row : (row : ℕ) → d ≡ base_of p + row → ⊥
    at_row row e =
        let own = asked row e in
        spent_never p c j g ok legal jobs on noted seen rest parts at.channels so.not_after.channels so.channel_acts row
        (subst (λ n. IsSpentNow (floor_shape p) n (replay at.channels)) e so.holds) own.0
        (subst (λ n. placed_in n seen ≡ true → closed_in n seen ≡ true) e own.1)
not_spent_note p c j g ok legal jobs on noted seen rest parts earlier at other so asked = refl

unspent : (p : Program) (c : ChannelFloor) (j : Floor) (g : Frame) → IsProgram p → Legal (floor_shape p) c.seen
    → LegalJobs (job_shape p) j.seen → (on : StandsOn p c j g) → AllNoted p c j → (seen told : List Told) → on.runs.told ≡ seen ++ told
    → (earlier : Moment) → IsTrue (story p g.tag (seen_by c j)) (items_in seen) earlier told → AllAsked (base_of p) seen told
    → list_any (is_spent (base_of p)) (items_in told) ≡ false
unfolding IsTrue AllAsked items_in
unspent p c j g ok legal jobs on noted seen [] parts earlier true_told asked = refl
unspent p c j g ok legal jobs on noted seen (note (item.Channel n) ∷ told) parts earlier h asked =
    or_from (is_channel_refusal (base_of p) n) (list_any (is_spent (base_of p)) (items_in told))
    (not_spent_note p c j g ok legal jobs on noted seen (note (item.Channel n) ∷ told) parts earlier h.0 n h.1 asked.0)
    (unspent p c j g ok legal jobs on noted (seen ++ note (item.Channel n) ∷ []) told (parts
    ∙ sym (append_assoc seen (note (item.Channel n) ∷ []) told)) h.0
    (subst (λ l. IsTrue (story p g.tag (seen_by c j)) l h.0 told) (push_items seen (note (item.Channel n))) h.2) asked.1)
unspent p c j g ok legal jobs on noted seen (other ∷ told) parts earlier h asked =
    unspent p c j g ok legal jobs on noted (seen ++ other ∷ []) told (parts ∙ sym (append_assoc seen (other ∷ []) told)) h.0
    (subst (λ l. IsTrue (story p g.tag (seen_by c j)) l h.0 told) (push_items seen other) h.2) asked.1

nothing_seen : (p : Program) (c : ChannelFloor) (j : Floor) (g : Frame) (told : List Told)
    → IsTrue (story p g.tag (seen_by c j)) [] beginning told → IsTrue (story p g.tag (seen_by c j)) (items_in []) beginning told
unfolding items_in
nothing_seen p c j g told h = h

-- no book of a run says that a done channel has no place left
pub stands_unspent : (p : Program) (c : ChannelFloor) (j : Floor) (g : Frame) → IsProgram p → Legal (floor_shape p) c.seen
    → LegalJobs (job_shape p) j.seen → StandsOn p c j g → AllNoted p c j → list_any (is_spent (base_of p)) g.book ≡ false
stands_unspent p c j g ok legal jobs on noted =
    ap (list_any (is_spent (base_of p))) (sym on.runs.written)
    ∙ unspent p c j g ok legal jobs on noted [] on.runs.told refl beginning (nothing_seen p c j g on.runs.told on.runs.is_true)
    (stands_ask p c j g ok jobs on).asked
