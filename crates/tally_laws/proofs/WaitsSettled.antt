-- Where nobody can go on, each wait that was resolved is settled.
use Rattle.std.proofs.Common.{◌≡◌, ℕ, ◌≤◌, true, false, List, [], Option, Some, None, refl, ap, sym, ◌∙◌, subst, arith, ⊎_elim, is_some}
use Rattle.std.proofs.lemmas.Bool.{both_ways, cases_lt}
use Rattle.co_base.specs.declared.names.WaitId.{WaitId}
use Rattle.channel_model.specs.declared.acts.Entry.{Entry}
use Rattle.channel_model.specs.declared.acts.Settled.{Settled}
use Rattle.channel_model.specs.Channels.{Shape, State, Wait}
use Rattle.channel_model.specs.Needs.{IsOpenOf}
use Rattle.channel_model.specs.Answers.{IsUnsettledOf, IsResolvedWait, IsSettledWait}
use Rattle.channel_model.specs.Histories.{replay, acts_of, Legal}
use Rattle.job_model.specs.declared.acts.End.{End}
use Rattle.job_model.specs.declared.acts.JobEntry.{JobEntry}
use Rattle.note_book.specs.declared.book.Item.{Item}
use Rattle.note_book.specs.Items.{channel_acts_in}
use Rattle.script_grammar.specs.Programs.{Program}
use Rattle.script_grammar.specs.Tags.{coroutine_count}
use Rattle.script_meaning.specs.declared.stage.Stage.{Stage}
use Rattle.script_meaning.specs.declared.stage.Stage.TheVariants.{Fresh, Waiting, Leaving, Ended}
use Rattle.script_meaning.specs.Shapes.{floor_shape}
use Rattle.script_meaning.specs.Configs.{Config}
use Rattle.script_meaning.specs.Books.{book_at, BooksOf}
use Rattle.script_meaning.specs.Idle.{WaitsAlone, IsLeft, IsIdle}
use Rattle.script_meaning.proofs.OwnUnsettled.{unsettled_after, unsettled_passes, replay_unsettled}
use Rattle.script_meaning.proofs.JobDebts.{no_book}

-- who made no entry has no wait
no_wait : (shape : Shape) (history : List Entry) (k : ℕ) (w : WaitId) → Legal shape history → acts_of k history ≡ []
    → IsUnsettledOf k ((replay history).waits w) → ⊥
unfolding unsettled_after
no_wait shape history k w legal none u =
    let both_ways : true ≡ false = sym (unsettled_passes k ((replay history).waits w) u) ∙ replay_unsettled shape k w history legal
    ∙ ap (unsettled_after w false) none in
    cc

the_wait : (k : ℕ) (w v : WaitId) (s : State) → WaitsAlone k v s → IsUnsettledOf k (s.waits w) → IsOpenOf k (s.waits w)
the_wait k w v s h u = subst (λ z. IsOpenOf k (s.waits z)) (sym (h.only w u)) h.open_now

-- a coroutine that is left so has no unsettled wait but an open one
left_open : (k : ℕ) (x : Config) (book : List Item) (s : State) (jobs : List JobEntry) (w : WaitId) (stage : Stage)
    → IsLeft k x book s jobs stage → (book ≡ [] → ⊥) → IsUnsettledOf k (s.waits w) → IsOpenOf k (s.waits w)
left_open k x book s jobs w Fresh h noted u = absurd (noted h.1)
left_open k x book s jobs w (Waiting v) h noted u = the_wait k w v s h.0 u
left_open k x book s jobs w (Leaving v) h noted u = the_wait k w v s h u
left_open k x book s jobs w Ended h noted u = absurd (h.1 w u)
left_open k x book s jobs w other h noted u = absurd h

pub none_lost : (p : Program) (books : List (List Item)) (channels : List Entry) (jobs : List JobEntry) (of : BooksOf p books channels jobs)
    (root : Option End) → IsIdle p books channels jobs of root → (w : WaitId) → IsResolvedWait ((replay channels).waits w)
    → IsSettledWait ((replay channels).waits w)
none_lost p books channels jobs of root idle w h = by_wait ((replay channels).waits w) refl h
  where
    open_at : (k : ℕ) → IsUnsettledOf k ((replay channels).waits w) → IsOpenOf k ((replay channels).waits w)
    open_at k u =
        let never : book_at k books ≡ [] → ⊥ = λ none. no_wait (floor_shape p) channels k w of.legal_channels (of.channel_parts k
        ∙ ap channel_acts_in none) u in
        ⊎_elim
        (λ l. left_open k (of.ends_at k) (book_at k books) (replay channels) jobs w (of.ends_at k).stage (idle.left k l) never u)
        (λ l. absurd (never (no_book books k (omega (arith, of.count, l)))))
        (cases_lt k (coroutine_count p))

    by_settled : (x : Wait) → (replay channels).waits w ≡ Some x → is_some x.resolved ≡ true → (o : Option Settled) → x.settled ≡ o
        → is_some o ≡ true
    by_settled x e r (Some outcome) q = refl
    by_settled x e r None q =
        let u : IsUnsettledOf x.owner ((replay channels).waits w) = subst (IsUnsettledOf x.owner) (sym e) (refl, q) in
        let open_one = subst (IsOpenOf x.owner) e (open_at x.owner u) in
        absurd (both_ways (is_some x.resolved) (ap is_some open_one.1) r)

    by_wait : (o : Option Wait) → (replay channels).waits w ≡ o → IsResolvedWait o → IsSettledWait o
    by_wait None e r = absurd r
    by_wait (Some x) e r = by_settled x e r x.settled refl
