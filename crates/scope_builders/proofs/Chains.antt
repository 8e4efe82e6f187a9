-- A chain of ends: each Finish, what its done channel makes of it, and the word to the parent.
use Rattle.std.specs.Prelude.{◌≡◌, ◌≢◌, ℕ, ◌<◌, true, false, List, [], ◌∷◌, ◌++◌, map, Option, Some, None, Result, Ok, Err, is_some, refl}
use mathlib.Core.List.{IsPrefix}
use Rattle.std.proofs.Common.{sym, ap, ◌∙◌, subst, append_assoc, arith, inl, inr}
use Rattle.co_base.specs.declared.names.Memory.{Memory}
use Rattle.channel_model.specs.declared.acts.Act.{Act}
use Rattle.channel_model.specs.Histories.{Legal as LegalCalls}
use Rattle.channel_model.specs.Floors.{Floor as ChannelFloor, Added as AddedToChannels}
use Rattle.channel_model.proofs.Lasts.{closed_lasts}
use Rattle.channel_model.proofs.Spans as channel_spans
use Rattle.job_model.specs.declared.acts.End.{End}
use Rattle.job_model.specs.declared.acts.JobAct.{JobAct}
use Rattle.job_model.specs.declared.acts.JobAct.TheVariants.{Finish, Gone}
use Rattle.job_model.specs.declared.acts.JobEntry.{JobEntry}
use Rattle.job_model.specs.Trees.{Shape, IsShape, Job, parent_of, parent_row, row_of, is_done}
use Rattle.job_model.specs.Done.{done_channel}
use Rattle.job_model.specs.Histories.{replay, acts_of, Legal}
use Rattle.job_model.specs.Answers.{IsNotDone}
use Rattle.job_model.specs.Floors.{Floor, Added, AtMoment}
use Rattle.job_model.proofs.Histories.{Legal-prefix}
use Rattle.job_model.proofs.Spans.{nothing_more, same_between, added_after, added_then}
use Rattle.job_model.proofs.Lasting.{attached_lasts}
use Rattle.job_model.proofs.Own.{prefix_keeps}
use Rattle.job_model.proofs.Families.{replay_families}
use Rattle.job_model.proofs.Short.{attached_within}
use Rattle.note_book.specs.declared.book.Item.{Item}
use Rattle.note_book.specs.Items.{channel_acts_in}
use Rattle.call_meaning.specs.Telling.{Told, on_jobs, JobFact, ParentIs, OwesNoEnd, items_in, did}
use Rattle.call_meaning.specs.Facts.{JobFactHolds}
use Rattle.call_meaning.specs.ChannelCalls.{Closes}
use Rattle.call_meaning.specs.JobCalls.{value_of, Chain}
use Rattle.call_meaning.specs.Seen.{SeenOnJobs, SeenOnBoth, tree_in}
use Rattle.call_meaning.specs.Calls.{ToldOnBoth}
use Rattle.call_meaning.specs.Orders.{HeardIfJoint, ToldIfJoint, IsToldOfJobs}
use Rattle.call_meaning.proofs.JobTellings.{items_in-append, told_dids, told_fact, nobody_called, both_then, both_jobs, both_channels}
use Rattle.call_meaning.proofs.HeardCalls.{both_nothing, channels_then}
use Rattle.job_tree.specs.Notes.{made_note}
use Rattle.job_tree.specs.Endings.{SeenWith, IsEndedBy, MayNotEnd, EndAnswer, IsFinishedUp}
use Rattle.job_tree.proofs.Climbs.{parent_attached}
use Rattle.job_tree.proofs.Endings.{end_added, finished_added}
use Rattle.job_tree.proofs.Walks.{legal_as}
use Rattle.call_meaning.specs.Endings.{ClosesAtOnce}
use Rattle.scope_builders.specs.Dones.{IsTold, EndsDone, KeepsDones}
use Rattle.scope_builders.specs.Parts.{ChainAnswer, FinishedUp}
use Rattle.scope_builders.proofs.ChannelsTold as channels
use Rattle.scope_builders.proofs.DonesKept.{one_kept, quiet_kept, kept_then}

legal_before : (shape : Shape) (xs ys : List JobEntry) → Legal shape ys → IsPrefix xs ys → Legal shape xs
legal_before shape xs ys l p = Legal-prefix shape xs p.0 (subst (Legal shape) (sym p.1) l)

-- ---- what is told on both floors

-- and then this was so of the Jobs, of which the channels had been told
pub both_so : (fact : JobFact) {rows : List ℕ} {a b : SeenOnBoth} {told : List Told} → ToldIfJoint b.channels b.jobs
    → ToldOnBoth rows a b told
    → JobFactHolds fact (replay b.jobs.seen) → ToldOnBoth rows a b (told ++ on_jobs fact ∷ [])
both_so fact {rows} {a} {b} {told} now h f =
    let none = nobody_called b.who b.jobs in
    let so = added_after b.who [] [] b.jobs b.jobs (JobFactHolds fact) none f in
    let last : ToldOnBoth [] b b (on_jobs fact ∷ []) =
    both_jobs (channels.nobody_called b.who b.channels) now (told_fact fact refl refl none so) in
    subst (λ (l : List ℕ). ToldOnBoth l a b (told ++ on_jobs fact ∷ [])) (nothing_more rows) (both_then h last)

-- ---- one end

-- the Finish of a Job, the close of its done channel, and what is told of it then
pub record IsOneEnd (base row : ℕ) (told : List JobAct) (a b : SeenOnBoth) : Type 0 where
  pub end : End
  pub closes : List Told
  pub group : Closes (done_channel base row) (value_of end) closes
  pub noted : ToldOnBoth [] a b (did (Finish row end) ∷ (closes ++ map did told))
  pub dones : KeepsDones base a b (items_in (did (Finish row end) ∷ (closes ++ map did told)))
  -- the channels have been told of all that was seen of the Jobs
  pub told_now : ToldIfJoint b.channels b.jobs

-- the floors on the way: the channels as they were ready and when they were told of the Finish, those and the Jobs when these heard of the
-- close, and that the channels were told of the word to the parent
pub record AreHeard (who row : ℕ) (end : End) (told : List JobAct) (a b : SeenOnBoth) (c d e : ChannelFloor) (j k : Floor) : Type 0 where
  pub ready : AddedToChannels who [] a.channels c
  pub finished : Added who (Finish row end ∷ []) [] a.jobs j
  pub told_first : IsToldOfJobs who c d j
  pub looked : Added who [] [] j k
  pub heard : HeardIfJoint e k
  pub word : Added who told [] k b.jobs
  pub told_last : IsToldOfJobs who e b.channels b.jobs

one_told : (row : ℕ) (end : End) (told : List JobAct) (closes : List Told) {a b : SeenOnBoth} {c d e : ChannelFloor} {j k : Floor}
    → AreHeard a.who row end told a b c d e j k → IsTold a.who d e closes → b.who ≡ a.who
    → b.items ≡ a.items ++ (made_note (Finish row end) ∷ (items_in closes ++ map made_note told))
    → ToldOnBoth [] a b (did (Finish row end) ∷ (closes ++ map did told))
one_told row end told closes {a} {b} {c} {d} {e} {j} {k} h t w noted =
    let who : ℕ = a.who in
    let note : Item = made_note (Finish row end) in
    let fin : List Item = a.items ++ note ∷ [] in
    let mid : List Item = fin ++ items_in closes in
    let whole = append_assoc fin (items_in closes) (map made_note told)
    ∙ append_assoc a.items (note ∷ []) (items_in closes ++ map made_note told) in
    let last : b.items ≡ mid ++ map made_note told = noted ∙ sym whole in
    let finished : SeenOnBoth = record { who = who; channels = d; jobs = j; items = fin } in
    let closed : SeenOnBoth = record { who = who; channels = e; jobs = k; items = mid } in
    let first : ToldOnBoth [] a finished (did (Finish row end) ∷ []) =
    both_jobs (channels_then who a.channels c d j h.ready h.told_first) h.told_first.told
    (told_dids (Finish row end ∷ []) refl refl h.finished) in
    let closing : ToldOnBoth [] finished closed closes = both_channels h.looked h.heard (t fin) in
    let ending : ToldOnBoth [] closed b (map did told) =
    both_jobs (channel_spans.added_looked who e b.channels h.told_last.looked) h.told_last.told (told_dids told w last h.word) in
    both_then first (both_then closing ending)

one_end : (shape : Shape) (base row : ℕ) (end : End) (told : List JobAct) (ended : List Item) {a b : SeenOnBoth} {c e : ChannelFloor}
    {j k : Floor}
    → a.jobs.shape ≡ shape → row < shape.rows → Legal shape b.jobs.seen → LegalCalls b.channels.shape b.channels.seen
    → ClosesAtOnce base (items_in (map did told))
    → AddedToChannels a.who [] a.channels c → Added a.who (Finish row end ∷ []) [] a.jobs j
    → EndsDone a.who base shape.rows row end c j e k ended → Added a.who [] [] j k → Added a.who told [] k b.jobs
    → IsToldOfJobs a.who e b.channels b.jobs → b.who ≡ a.who
    → b.items ≡ a.items ++ (made_note (Finish row end) ∷ (ended ++ map made_note told)) → IsOneEnd base row told a b
one_end shape base row end told ended {a} {b} {c} {e} {j} {k} sh lt l lc quiet ready h
    (EndsDone.closes closes _ d less g is first t closed heard) looked word last w noted =
    let who : ℕ = a.who in
    let upto : Added who (Finish row end ∷ []) [] a.jobs k = added_then who (Finish row end ∷ []) [] [] [] a.jobs j k h looked in
    let all : Added who (Finish row end ∷ told) [] a.jobs b.jobs =
    added_then who (Finish row end ∷ []) told [] [] a.jobs k b.jobs upto word in
    let legal = subst (λ (s : Shape). Legal s b.jobs.seen) (sym (all.same.shape ∙ sh)) l in
    let acts : List Act = channel_acts_in (items_in closes) in
    let before = channels_then who a.channels c d j ready first in
    let made = channel_spans.added_then who [] acts a.channels d e before (t []).added in
    let after = channel_spans.added_looked who e b.channels last.looked in
    let closing = subst (λ (x : List Act). AddedToChannels who x a.channels b.channels) (nothing_more acts)
    (channel_spans.added_then who acts [] a.channels e b.channels made after) in
    let items = noted ∙ ap (λ (x : List Item). a.items ++ (made_note (Finish row end) ∷ (x ++ map made_note told))) is in
    record {
      end = end;
      closes = closes;
      group = g;
      noted = one_told row end told closes
          (record {
            ready = ready;
            finished = h;
            told_first = first;
            looked = looked;
            heard = λ joint. heard (sym looked.same.joint ∙ joint);
            word = word;
            told_last = last;
          }) t w items;
      dones = one_kept base row end told closes legal (subst (λ (s : Shape). row < s.rows) (sym sh) lt) all g closing
          (closed_lasts (done_channel base row) e b.channels lc last.looked.longer closed) quiet;
      told_now = last.told;
    }
one_end shape base row end told ended sh lt l lc quiet ready h (EndsDone.outside le same after) looked word last w noted =
    absurd (omega arith)

-- ---- where a chain stops, and where it goes on

-- a Job owed no end, at a moment of calls that told nothing else
stops_at : (base row : ℕ) {a b : SeenOnBoth} → Legal b.jobs.shape b.jobs.seen → AddedToChannels a.who [] a.channels b.channels
    → ToldIfJoint b.channels b.jobs → Added a.who [] [] a.jobs b.jobs → b.who ≡ a.who → b.items ≡ a.items
    → AtMoment a.who [] a.jobs b.jobs (JobFactHolds (OwesNoEnd row))
    → FinishedUp base row a b (Ok tt)
unfolding items_in
stops_at base row l added now h w e m = record {
  told = on_jobs (OwesNoEnd row) ∷ [];
  chain = Chain.stops row;
  noted = both_jobs added now (told_fact (OwesNoEnd row) w e h m);
  dones = quiet_kept base [] l h added tt;
}

-- want of memory
stops_short : (base row : ℕ) (m : Memory) {a b : SeenOnBoth} → Legal b.jobs.shape b.jobs.seen
    → AddedToChannels a.who [] a.channels b.channels
    → Added a.who [] [] a.jobs b.jobs → b.who ≡ a.who → b.items ≡ a.items → FinishedUp base row a b (Err m)
unfolding items_in
stops_short base row m l added h w e = record {
  told = [];
  chain = record { rest = on_jobs (OwesNoEnd row) ∷ []; all = Chain.stops row };
  noted = both_nothing added h w e;
  dones = quiet_kept base [] l h added tt;
}

chain_root : (base row : ℕ) (end : End) (closes : List Told) → row ≡ 0 → Closes (done_channel base row) (value_of end) closes
    → Chain base row (did (Finish row end) ∷ closes)
chain_root base row end closes z g = subst (λ n. Closes (done_channel base n) (value_of end) closes
    → Chain base n (did (Finish n end) ∷ closes)) (sym z) (λ h. Chain.root end closes h) g

-- the root was ended
up_root : {base row : ℕ} {a b : SeenOnBoth} → row ≡ 0 → IsOneEnd base row [] a b → FinishedUp base row a b (Ok tt)
up_root {base} {row} {a} {b} z h = record {
  told = did (Finish row h.end) ∷ h.closes;
  chain = chain_root base row h.end h.closes z h.group;
  noted = subst (λ (l : List Told). ToldOnBoth [] a b (did (Finish row h.end) ∷ l)) (nothing_more h.closes) h.noted;
  dones = subst (λ (l : List Told). KeepsDones base a b (items_in (did (Finish row h.end) ∷ l))) (nothing_more h.closes) h.dones;
}

joined : (fin gone par : Told) (closes more : List Told) → ((fin ∷ (closes ++ gone ∷ [])) ++ par ∷ [])
    ++ more ≡ fin ∷ (closes ++ gone ∷ par ∷ more)
joined fin gone par closes more = ap (λ (l : List Told). fin ∷ l) (append_assoc (closes ++ gone ∷ []) (par ∷ []) more
    ∙ append_assoc closes (gone ∷ []) (par ∷ more))

chain_on : (base row p : ℕ) (end : End) (closes more : List Told) (r : Result (Unit {0}) Memory) → row ≢ 0
    → Closes (done_channel base row) (value_of end) closes → ChainAnswer base p more r
    → ChainAnswer base row (did (Finish row end) ∷ (closes ++ did (Gone row) ∷ on_jobs (ParentIs row p) ∷ more)) r
chain_on base row p end closes more (Err m) z g h = record {
  rest = h.rest;
  all = Chain.goes_up row p end closes (more ++ h.rest) _ z g h.all
      (ap (λ (l : List Told). did (Finish row end) ∷ l) (append_assoc closes (did (Gone row) ∷ on_jobs (ParentIs row p) ∷ more) h.rest));
}
chain_on base row p end closes more (Ok done) z g h = Chain.goes_up row p end closes more _ z g h refl

joined_items : (told more : List Told) (row p : ℕ) → items_in ((told ++ on_jobs (ParentIs row p) ∷ []) ++ more) ≡ items_in told
    ++ items_in more
unfolding items_in
joined_items told more row p = items_in-append (told ++ on_jobs (ParentIs row p) ∷ []) more
    ∙ ap (λ (l : List Item). l ++ items_in more) (items_in-append told (on_jobs (ParentIs row p) ∷ []) ∙ nothing_more (items_in told))

-- a Job was ended and its parent told, and then came the chain of the parent
up_on : {base row p : ℕ} {a b c : SeenOnBoth} {r : Result (Unit {0}) Memory} → row ≢ 0 → parent_of (replay b.jobs.seen row) ≡ Some p
    → IsOneEnd base row (Gone row ∷ []) a b → FinishedUp base p b c r → FinishedUp base row a c r
up_on {base} {row} {p} {a} {b} {c} {r} z e h k =
    let fin : Told = did (Finish row h.end) in
    let par : Told = on_jobs (ParentIs row p) in
    let first : List Told = fin ∷ (h.closes ++ did (Gone row) ∷ []) in
    let is : (first ++ par ∷ []) ++ k.told ≡ fin ∷ (h.closes ++ did (Gone row) ∷ par ∷ k.told) =
    joined fin (did (Gone row)) par h.closes k.told in
    let all : ToldOnBoth [] a c ((first ++ par ∷ []) ++ k.told) = both_then (both_so (ParentIs row p) h.told_now h.noted e) k.noted in
    let kept : KeepsDones base a c (items_in first ++ items_in k.told) =
    kept_then h.noted.channels.same.alone h.noted.jobs.same.alone h.dones k.dones in
    record {
      told = fin ∷ (h.closes ++ did (Gone row) ∷ par ∷ k.told);
      chain = chain_on base row p h.end h.closes k.told r z h.group k.chain;
      noted = subst (ToldOnBoth [] a c) is all;
      dones = subst (KeepsDones base a c) (sym (joined_items first k.told row p) ∙ ap items_in is) kept;
    }

-- ---- what the ends of Jobs do, whatever is told of them

-- what gets ready adds no entry to the channels, what ends a Job closes its done channel, and where that is over the channels are told of
-- the Jobs; all keep this fact of the caller
pub record EndsJobs {T : Type 0} (P : ℕ → T → Type 0) (view : T → ChannelFloor) (prepares : T → T → Type 0)
    (does : T → Floor → ℕ → End → List Item → T → Floor → Type 0) (leaves : T → T → Floor → Type 0) (base rows : ℕ) : Type 0 where
  pub legal : (e : T) → LegalCalls (view e).shape (view e).seen
  pub gets_ready : (who : ℕ) (e e' : T) → prepares e e' → P who e → P who e' × AddedToChannels who [] (view e) (view e')
  pub ends : (who : ℕ) (e e' : T) (j j' : Floor) (row : ℕ) (end : End) (items : List Item) → does e j row end items e' j' → P who e
      → P who e' × EndsDone who base rows row end (view e) j (view e') j' items
  pub is_left : (who : ℕ) (e e' : T) (j : Floor) → leaves e e' j → P who e → P who e' × IsToldOfJobs who (view e) (view e') j

-- what a caller sees, with the channels of what it does where a Job ends
abbrev pub both_of : {T : Type 0} → (T → ChannelFloor) → SeenWith T → SeenOnBoth
both_of view s = record { who = s.seen.who; channels = view s.ends; jobs = s.seen.floor; items = s.seen.items }

-- why a Job was not ended
none_owed : (row : ℕ) (a b : SeenOnJobs) → Added a.who [] [] a.floor b.floor → MayNotEnd row a b
    → AtMoment a.who [] a.floor b.floor (JobFactHolds (OwesNoEnd row))
none_owed row a b h (MayNotEnd.had_ended e) = added_after a.who [] [] a.floor b.floor (JobFactHolds (OwesNoEnd row)) h (inl e)
none_owed row a b h (MayNotEnd.not_done m) =
    let acts : List JobAct = acts_of a.who a.floor.seen in
    let mine = same_between a.who a.floor.seen m.moment b.floor.seen m.after m.before (h.mine ∙ nothing_more acts) in
    record { moment = m.moment; after = m.after; before = m.before; mine = mine ∙ sym (nothing_more acts); holds = inr m.holds }

not_done : (x : Option Job) → is_some x ≡ true → is_done x ≡ false → IsNotDone x
not_done None h e = cc
not_done (Some x) h e = e

-- a Job that is not the root has a parent
has_parent : (shape : Shape) (es : List JobEntry) (row : ℕ) → Legal shape es → is_some (replay es row) ≡ true → row ≢ 0 → (p : ℕ)
    × (parent_of (replay es row) ≡ Some p)
has_parent shape es row l s z = by_parent (parent_of (replay es row)) refl
  where
    by_parent : (o : Option ℕ) → parent_of (replay es row) ≡ o → (p : ℕ) × (parent_of (replay es row) ≡ Some p)
    by_parent None e = absurd (z ((replay_families shape es l).root row s e))
    by_parent (Some p) e = (p, e)

gone_quiet : (base row : ℕ) → ClosesAtOnce base (items_in (map did (Gone row ∷ [])))
unfolding items_in
gone_quiet base row = (tt, tt)

none_quiet : (base : ℕ) → ClosesAtOnce base (items_in (map did []))
unfolding items_in
none_quiet base = tt

-- ---- all ends

legal_at : (shape : Shape) (b : Floor) → b.shape ≡ shape → Legal shape b.seen → Legal b.shape b.seen
legal_at shape b e l = subst (λ (q : Shape). Legal q b.seen) (sym e) l

module _ {T : Type 0} {P : ℕ → T → Type 0} {view : T → ChannelFloor} {prepares : T → T → Type 0}
    {does : T → Floor → ℕ → End → List Item → T → Floor → Type 0} {leaves : T → T → Floor → Type 0} {base : ℕ} {shape : Shape}
    (s : IsShape shape) (x : EndsJobs P view prepares does leaves base shape.rows) where
  ended_one : {row : ℕ} {told : List JobAct} {a b : SeenWith T} → a.seen.floor.shape ≡ shape → row < shape.rows
      → Legal shape b.seen.floor.seen
      → ClosesAtOnce base (items_in (map did told)) → P a.seen.who a.ends → IsEndedBy prepares does leaves row told a b
      → P a.seen.who b.ends × IsOneEnd base row told (both_of view a) (both_of view b)
  ended_one {row} {told} {a} {b} sh lt l quiet pe h =
      let p = x.gets_ready a.seen.who a.ends h.ready h.prepared pe in
      let d = x.ends a.seen.who h.ready h.done h.between h.after row h.end h.ended h.does_it p.0 in
      let k = x.is_left a.seen.who h.done b.ends b.seen.floor h.left d.0 in (
        k.0,
        one_end shape base row h.end told h.ended sh lt l (x.legal b.ends) quiet p.1 h.finished d.1 h.looked h.word k.1 h.who h.appended,
      )

  -- the last end
  up_last : {row : ℕ} {a b : SeenWith T} → a.seen.floor.shape ≡ shape → is_some (tree_in a.seen row) ≡ true → Legal shape b.seen.floor.seen
      → P a.seen.who a.ends → row ≢ 0 → IsEndedBy prepares does leaves row (Gone row ∷ []) a b
      → is_done (parent_row (tree_in b.seen) row) ≡ false
      → P a.seen.who b.ends × FinishedUp base row (both_of view a) (both_of view b) (Ok tt)
  up_last {row} {a} {b} sh t l pe z h d =
      let who : ℕ = b.seen.who in
      let xs : List JobEntry = a.seen.floor.seen in
      let ys : List JobEntry = b.seen.floor.seen in
      let all = end_added h in
      let la = legal_before shape xs ys l all.longer in
      let o = ended_one sh (attached_within shape xs row s la t) l (gone_quiet base row) pe h in
      let p = has_parent shape ys row l (prefix_keeps _ attached_lasts shape xs ys row l all.longer t) z in
      let idle : is_done (tree_in b.seen p.0) ≡ false = subst (λ (q : Option ℕ). is_done (row_of (tree_in b.seen) q) ≡ false) p.1 d in
      let none : JobFactHolds (OwesNoEnd p.0) (tree_in b.seen) =
      inr (not_done (tree_in b.seen p.0) (parent_attached shape ys row p.0 l p.1) idle) in
      let nobody = nobody_called who b.seen.floor in
      let owes = added_after who [] [] b.seen.floor b.seen.floor (JobFactHolds (OwesNoEnd p.0)) nobody none in
      let legal = legal_at shape b.seen.floor (all.same.shape ∙ sh) l in
      let stops : FinishedUp base p.0 (both_of view b) (both_of view b) (Ok tt) =
      stops_at base p.0 legal (channels.nobody_called who (view b.ends)) o.1.told_now nobody refl refl owes in
      (o.0, up_on z p.1 o.1 stops)

  up_first : {row : ℕ} {a b : SeenWith T} → a.seen.floor.shape ≡ shape → is_some (tree_in a.seen row) ≡ true → Legal shape b.seen.floor.seen
      → P a.seen.who a.ends → row ≡ 0 → IsEndedBy prepares does leaves row [] a b
      → P a.seen.who b.ends × FinishedUp base row (both_of view a) (both_of view b) (Ok tt)
  up_first {row} {a} {b} sh t l pe z h =
      let la = legal_before shape a.seen.floor.seen b.seen.floor.seen l (end_added h).longer in
      let o = ended_one sh (attached_within shape a.seen.floor.seen row s la t) l (none_quiet base) pe h in
      (o.0, up_root z o.1)

  now_of : (a b : SeenWith T) → b.seen.who ≡ a.seen.who → P a.seen.who b.ends → P b.seen.who b.ends
  now_of a b w p = subst (λ n. P n b.ends) (sym w) p

  finished_up : (row : ℕ) (a b : SeenWith T) (r : Result (Unit {0}) Memory) → a.seen.floor.shape ≡ shape
      → is_some (tree_in a.seen row) ≡ true
      → Legal shape b.seen.floor.seen → P a.seen.who a.ends → IsFinishedUp prepares does leaves row a b r
      → P b.seen.who b.ends × FinishedUp base row (both_of view a) (both_of view b) r
  finished_up _ _ _ _ sh t l pe (IsFinishedUp.stops row a b (EndAnswer.not_now h w)) =
      let p = x.gets_ready a.seen.who a.ends h.ready h.prepared pe in
      let k = x.is_left a.seen.who h.ready b.ends b.seen.floor h.left p.0 in
      let legal = legal_at shape b.seen.floor (h.added.same.shape ∙ sh) l in
      let added = channels_then a.seen.who (view a.ends) (view h.ready) (view b.ends) b.seen.floor p.1 k.1 in
      (now_of a b h.who k.0, stops_at base row legal added k.1.told h.added h.who h.items (none_owed row a.seen b.seen h.added w))
  finished_up _ _ _ _ sh t l pe (IsFinishedUp.stops row a b (EndAnswer.root z h)) =
      let k = up_first sh t l pe z h in
      (now_of a b h.who k.0, k.1)
  finished_up _ _ _ _ sh t l pe (IsFinishedUp.stops row a b (EndAnswer.waits z h d)) =
      let k = up_last sh t l pe z h d in
      (now_of a b h.who k.0, k.1)
  finished_up _ _ _ _ sh t l pe (IsFinishedUp.no_memory m row a b (EndAnswer.no_memory _ h)) =
      let p = x.gets_ready a.seen.who a.ends b.ends h.prepared pe in
      let legal = legal_at shape b.seen.floor (h.added.same.shape ∙ sh) l in
      (now_of a b h.who p.0, stops_short base row m legal p.1 h.added h.who h.items)
  finished_up _ _ _ _ sh t l pe (IsFinishedUp.goes_up row p a b c r (EndAnswer.owes _ z h q m) more) =
      let xs : List JobEntry = a.seen.floor.seen in
      let ys : List JobEntry = b.seen.floor.seen in
      let all = end_added h in
      let lb = legal_before shape ys c.seen.floor.seen l (finished_added more).added.longer in
      let la = legal_before shape xs ys lb all.longer in
      let o = ended_one sh (attached_within shape xs row s la t) lb (gone_quiet base row) pe h in
      let rest = finished_up p b c r (all.same.shape ∙ sh) (parent_attached shape ys row p lb q) l (now_of a b h.who o.0) more in
      (rest.0, up_on z q o.1 rest.1)

-- what is kept, and what came of the channels and Jobs
pub finished_all : {T : Type 0} (P : ℕ → T → Type 0) (view : T → ChannelFloor) {prepares : T → T → Type 0}
    {does : T → Floor → ℕ → End → List Item → T → Floor → Type 0} {leaves : T → T → Floor → Type 0} {base row : ℕ} {a b : SeenWith T}
    {r : Result (Unit {0}) Memory} → IsShape a.seen.floor.shape
    → EndsJobs P view prepares does leaves base a.seen.floor.shape.rows → is_some (tree_in a.seen row) ≡ true
    → Legal b.seen.floor.shape b.seen.floor.seen → P a.seen.who a.ends → IsFinishedUp prepares does leaves row a b r
    → P b.seen.who b.ends × FinishedUp base row (both_of view a) (both_of view b) r
finished_all P view {row = row} {a = a} {b = b} {r = r} s x t l pe h =
    finished_up s x row a b r refl t (legal_as a.seen.floor b.seen.floor (finished_added h).added.same l) pe h

pub ends_as : {who who' base base' rows row : ℕ} {end : End} {a b : ChannelFloor} {j k : Floor} {items : List Item} → who' ≡ who
    → base' ≡ base → EndsDone who' base' rows row end a j b k items → EndsDone who base rows row end a j b k items
ends_as {who} {who'} {base} {base'} {rows} {row} {end} {a} {b} {j} {k} {items} e f h =
    subst (λ n. EndsDone n base rows row end a j b k items) e (subst (λ n. EndsDone who' n rows row end a j b k items) f h)

pub ends_of : {who base rows rows' row : ℕ} {end : End} {a b : ChannelFloor} {j k : Floor} {items : List Item} → rows' ≡ rows
    → EndsDone who base rows' row end a j b k items → EndsDone who base rows row end a j b k items
ends_of {who} {base} {row = row} {end = end} {a = a} {b = b} {j = j} {k = k} {items = items} e h =
    subst (λ n. EndsDone who base n row end a j b k items) e h

pub added_as : {who who' : ℕ} {a b : ChannelFloor} → who' ≡ who → AddedToChannels who' [] a b → AddedToChannels who [] a b
added_as {a = a} {b = b} e h = subst (λ n. AddedToChannels n [] a b) e h

pub told_of_as : {who who' : ℕ} {a b : ChannelFloor} {j : Floor} → who' ≡ who → IsToldOfJobs who' a b j → IsToldOfJobs who a b j
told_of_as {a = a} {b = b} {j = j} e h = subst (λ n. IsToldOfJobs n a b j) e h
