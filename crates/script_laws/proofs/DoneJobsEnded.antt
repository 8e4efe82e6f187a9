-- At the end of a run each Job whose body has ended and no child of which lives has ended.
use Rattle.std.proofs.Common.{◌≡◌, ℕ, Bool, true, false, not, ◌&&◌, List, [], ◌∷◌, ◌++◌, filter, refl, ap, sym, ◌∙◌, subst, inl, inr, ◌⊎◌, Option, Some, None, if◌then◌else◌}
use Rattle.std.specs.Prelude.{◌==◌, map}
use Rattle.std.proofs.lemmas.Bool.{both_ways, and_from, and_parts, not-true, not_from_false, true_from_ne_false}
use Rattle.std.proofs.lemmas.Option.{same_Some}
use Rattle.channel_model.specs.declared.acts.Entry.{Entry}
use Rattle.job_model.specs.declared.acts.JobKind.{JobKind}
use Rattle.job_model.specs.declared.acts.Reason.{Reason}
use Rattle.job_model.specs.declared.acts.Reason.TheVariants as reasons
use Rattle.job_model.specs.declared.acts.JobAct.{JobAct}
use Rattle.job_model.specs.declared.acts.JobAct.TheVariants.{Attach, Start, EndBody, Cancel, Finish, Gone}
use Rattle.job_model.specs.declared.acts.JobEntry.{JobEntry}
use Rattle.job_model.specs.Effects.{after, with_child, state_of_end}
use Rattle.job_model.specs.Trees.{Job, Tree, root, parent_of, is_done, is_ended, is_none_left, is_among, living}
use Rattle.job_model.specs.Acts.{finishes}
use Rattle.job_model.specs.Laws.{has_ended}
use Rattle.job_model.specs.Answers.{IsNotDone}
use Rattle.job_model.specs.Families.{IsEnded}
use Rattle.job_model.specs.Histories.{replay, Legal}
use Rattle.job_model.proofs.Histories.{Legal-prefix}
use Rattle.job_model.proofs.Steps.{RowStep, row_step}
use Rattle.job_model.proofs.Own.{prefix_keeps}
use Rattle.job_model.proofs.Lasting.{parent_lasts, end_ends}
use Rattle.job_model.proofs.Families.{replay_families}
use Rattle.job_model.proofs.RowMarks.{finish_mark}
use Rattle.job_model.proofs.Rows.{same}
use Rattle.job_model.specs.Cancels.{own_cancel}
use Rattle.note_book.specs.declared.book.Item.{Item}
use Rattle.call_meaning.specs.Telling.{Told, note, on_channels, on_jobs, JobFact, OwesNoEnd, PassedBelow, FailedUp, ParentIs, did}
use Rattle.call_meaning.specs.JobCalls.{Chain}
use Rattle.script_grammar.specs.Programs.{Program}
use Rattle.script_meaning.specs.Shapes.{job_shape, base_of}
use Rattle.script_meaning.specs.Books.{BooksOf}
use Rattle.script_meaning.proofs.Debts.{Exists, exists_first, exists_later}
use Rattle.script_meaning.proofs.Payments.{AllPaid}
use Rattle.script_meaning.proofs.JobPieces.{job_told, act_in_item, JobPiece, quiet_closes}
use Rattle.script_meaning.proofs.JobStories.{JobHolds}
use Rattle.script_meaning.proofs.JobDebts.{Parents, parents_in, AllKnown, known_left, known_right, AreCancels, cancels_then, JobPaid, JobDebt, paid_then, paid_quiet, paid_cancels, nobody_owes, needs_there}
use Rattle.channel_model.proofs.Plain.{and_false}
use Rattle.job_model.proofs.Sound.{not_ended}
use Rattle.job_model.proofs.Ends.{ended_is}

-- ---- words of both

abbrev pub ActPasses : (JobAct → Type 0) → Option JobAct → Type 0
ActPasses P None = ⊥
ActPasses P (Some a) = P a

pub own_is_cancel : (newly : Bool) (row : ℕ) (reason : Reason) → AreCancels (own_cancel newly row reason)
unfolding AreCancels
own_is_cancel true row reason = (tt, tt)
own_is_cancel false row reason = tt

-- where only ends of bodies and what follows them raise a debt, only they have to pay
pub calm_pieces : (p : Program) (jobs : List JobEntry) (k : ℕ) (owes : Tree → Bool) (Raises : JobAct → Type 0) (Takes : JobAct → Told
    → Type 0)
    → ((parent row : ℕ) (kind : JobKind) (tag : ℕ) (now : Bool) → Raises (Attach parent row kind tag now) → ⊥)
    → ((row : ℕ) → Raises (Start row) → ⊥)
    → ((row : ℕ) (reason : Reason) → Raises (Cancel row reason) → ⊥)
    → ((row v : ℕ) (chain : List Told) → AllKnown (parents_in jobs) chain → Chain (base_of p) row chain
    → JobPaid k owes Raises Takes (did (EndBody row v) ∷ chain))
    → (g : List Told) → AllKnown (parents_in jobs) g → JobPiece p k g → JobPaid k owes Raises Takes g
unfolding AllPaid AllKnown
calm_pieces p jobs k owes Raises Takes a s c body _ h (JobPiece.quiet g q) = paid_quiet k owes Raises Takes g q
calm_pieces p jobs k owes Raises Takes a s c body _ h (JobPiece.attaches parent row kind tag now) =
    (λ x. absurd (a parent row kind tag now x), tt)
calm_pieces p jobs k owes Raises Takes a s c body _ h (JobPiece.starts row) = (λ x. absurd (s row x), tt)
calm_pieces p jobs k owes Raises Takes a s c body g h (JobPiece.passes row reason newly _ m o t) =
    let known = known_right (parents_in jobs) (map did (own_cancel newly row reason ++ t.below)) (on_jobs (PassedBelow row t.below) ∷ [])
    (subst (AllKnown (parents_in jobs)) t.all h) in
    subst (JobPaid k owes Raises Takes) (sym t.all) (paid_then k owes Raises Takes (map did (own_cancel newly row reason ++ t.below)) _
    (paid_cancels k owes Raises Takes _ (cancels_then (own_cancel newly row reason) t.below (own_is_cancel newly row reason) known.0.0)
    c) (tt, tt))
calm_pieces p jobs k owes Raises Takes a s c body g h (JobPiece.fails f up pass _ t e) =
    let all = subst (AllKnown (parents_in jobs)) e h in
    let first = known_right (parents_in jobs) (map did (own_cancel true k (reasons.Own f) ++ t.below))
    (on_jobs (PassedBelow k t.below) ∷ []) (subst (AllKnown (parents_in jobs)) t.all (known_left (parents_in jobs) pass _ all)) in
    let second = known_right (parents_in jobs) (map did up) (on_jobs (FailedUp k up) ∷ []) (known_right (parents_in jobs) pass _ all) in
    subst (JobPaid k owes Raises Takes) (sym e) (paid_then k owes Raises Takes pass _
    (subst (JobPaid k owes Raises Takes) (sym t.all) (paid_then k owes Raises Takes (map did (own_cancel true k (reasons.Own f) ++ t.below))
    _ (paid_cancels k owes Raises Takes _ (cancels_then (own_cancel true k (reasons.Own f)) t.below
    (own_is_cancel true k (reasons.Own f)) first.0.0) c) (tt, tt)))
    (paid_then k owes Raises Takes (map did up) _ (paid_cancels k owes Raises Takes up second.0.0 c) (tt, tt)))
calm_pieces p jobs k owes Raises Takes a s c body _ h (JobPiece.ends_body row v chain t) = body row v chain h.1 t

-- ---- owed ends

-- its body has ended and no child of it lives, and it has not ended
abbrev pub owes_end : ℕ → Tree → Bool
owes_end r tree = is_done (tree r) && not (has_ended (tree r))

abbrev pub RaisesEnd : Parents → ℕ → JobAct → Type 0
RaisesEnd parents r (EndBody q v) = q ≡ r
RaisesEnd parents r (Gone c) = parents c ≡ Some r
RaisesEnd parents r other = ⊥

abbrev pub IsFinishOf : ℕ → JobAct → Type 0
IsFinishOf r (Finish q end) = q ≡ r
IsFinishOf r other = ⊥

abbrev pub IsNoEndOf : ℕ → JobFact → Type 0
IsNoEndOf r (OwesNoEnd q) = q ≡ r
IsNoEndOf r other = ⊥

abbrev pub TakesEnd : ℕ → JobAct → Told → Type 0
TakesEnd r a (note i) = ActPasses (IsFinishOf r) (act_in_item i)
TakesEnd r a (on_channels fact) = ⊥
TakesEnd r a (on_jobs fact) = IsNoEndOf r fact

-- a chain begins with what takes the end of its Job away
chain_begins : (p : Program) (row : ℕ) (g : List Told) (a : JobAct) → Chain (base_of p) row g → Exists (TakesEnd row a) g
chain_begins p _ _ a (Chain.stops row) = exists_first (TakesEnd row a) _ _ refl
chain_begins p _ _ a (Chain.root end closes h) = exists_first (TakesEnd 0 a) _ closes refl
chain_begins p row g a (Chain.goes_up _ parent end closes rest _ n h c e) =
    subst (Exists (TakesEnd row a)) (sym e) (exists_first (TakesEnd row a) _ _ refl)

abbrev pub EndPaid : List JobEntry → ℕ → ℕ → List Told → Type 0
EndPaid jobs k r told = JobPaid k (owes_end r) (RaisesEnd (parents_in jobs) r) (TakesEnd r) told

chain_pays : (p : Program) (jobs : List JobEntry) (k r row : ℕ) (g : List Told) → AllKnown (parents_in jobs) g → Chain (base_of p) row g
    → EndPaid jobs k r g
unfolding AllPaid AllKnown
chain_pays p jobs k r _ _ h (Chain.stops row) = (tt, tt)
chain_pays p jobs k r _ _ h (Chain.root end closes c) =
    (λ x. absurd x, paid_quiet k (owes_end r) (RaisesEnd (parents_in jobs) r) (TakesEnd r) closes (quiet_closes _ _ closes c))
chain_pays p jobs k r row g h (Chain.goes_up _ parent end closes rest _ n c up e) =
    let known : AllKnown (parents_in jobs) (did (Finish row end) ∷ (closes ++ did (Gone row) ∷ on_jobs (ParentIs row parent) ∷ rest)) =
    subst (AllKnown (parents_in jobs)) e h in
    let behind : AllKnown (parents_in jobs) (did (Gone row) ∷ on_jobs (ParentIs row parent) ∷ rest) =
    known_right (parents_in jobs) closes _ known.1 in
    let is : parents_in jobs row ≡ Some parent = behind.1.0 in
    subst (EndPaid jobs k r) (sym e) (
      λ x. absurd x,
      paid_then k (owes_end r) (RaisesEnd (parents_in jobs) r) (TakesEnd r) closes _
          (paid_quiet k (owes_end r) (RaisesEnd (parents_in jobs) r) (TakesEnd r) closes (quiet_closes _ _ closes c)) (
            λ x. exists_later (TakesEnd r (Gone row)) _ rest (subst (λ q. Exists (TakesEnd q (Gone row)) rest)
                (same_Some parent r (sym is ∙ x))
                (chain_begins p parent rest (Gone row) up)),
            (tt, chain_pays p jobs k r parent rest behind.1.1 up),
          ),
    )

end_pieces_pay : (p : Program) (jobs : List JobEntry) (r k : ℕ) (g : List Told) → AllKnown (parents_in jobs) g → JobPiece p k g
    → EndPaid jobs k r g
unfolding AllPaid
end_pieces_pay p jobs r k = calm_pieces p jobs k (owes_end r) (RaisesEnd (parents_in jobs) r) (TakesEnd r) (λ a b c d e x. x) (λ a x. x)
    (λ a b x. x) (λ row v chain known c. (
      λ (x : row ≡ r). subst (λ q. Exists (TakesEnd q (EndBody row v)) chain) x (chain_begins p row chain (EndBody row v) c),
      chain_pays p jobs k r row chain known c,
    ))

-- which act raises it

fewer_left : (f : ℕ → Bool) (cs : List ℕ) (c : ℕ) → is_none_left (filter f (cs ++ c ∷ [])) ≡ true → is_none_left (filter f cs) ≡ true
fewer_left f [] c h = refl
fewer_left f (d ∷ cs) c h = at (λ g. fewer_left f cs c g) (f d) h
  where
    at : (is_none_left (filter f (cs ++ c ∷ [])) ≡ true → is_none_left (filter f cs) ≡ true) → (b : Bool)
        → is_none_left (if b then d ∷ filter f (cs ++ c ∷ []) else filter f (cs ++ c ∷ [])) ≡ true
        → is_none_left (if b then d ∷ filter f cs else filter f cs) ≡ true
    at g true h = cc
    at g false h = g h

all_true : (a b c : Bool) → a ≡ true → b ≡ true → c ≡ false → ((a && b) && not c) ≡ true
all_true a b c p q r = and_from (a && b) (not c) (and_from a b p q) (not_from_false c r)

three : (a b c : Bool) → ((a && b) && not c) ≡ true → (a ≡ true) × (b ≡ true) × (c ≡ false)
three a b c h = let p = and_parts (a && b) (not c) h in let q = and_parts a b p.0 in (q.0, q.1, not-true c p.1)

abbrev pub owes_row : Option Job → Bool
owes_row x = is_done x && not (has_ended x)

end_raised : (shape : _) (jobs before : List JobEntry) (who r : ℕ) (act : JobAct) (x y : Option Job)
    → RowStep shape (replay before) who r act x y → owes_row x ≡ false → owes_row y ≡ true
    → ((c : ℕ) → parent_of (replay before c) ≡ Some r → parents_in jobs c ≡ Some r) → RaisesEnd (parents_in jobs) r act
end_raised shape jobs before who r _ _ _ (RowStep.is_attached p kind tag cancelled m i) f t k = cc
end_raised shape jobs before who r _ _ _ (RowStep.has_child c kind tag cancelled j none m) f t k =
    let q = three j.body_ended (is_none_left (living (with_child c j))) (is_ended j.state) t in
    absurd (both_ways (owes_row (Some j)) f (all_true j.body_ended (is_none_left (living j)) (is_ended j.state) q.0
    (fewer_left (λ d. not (is_among d j.told)) j.children c q.1) q.2))
end_raised shape jobs before who r _ _ _ (RowStep.is_started j n) f t k =
    let q = three j.body_ended (is_none_left (living j)) false t in
    absurd (both_ways (owes_row (Some j)) f (all_true j.body_ended (is_none_left (living j)) (is_ended j.state) q.0 q.1 (ap is_ended n)))
end_raised shape jobs before who r _ _ _ (RowStep.body_ends v j m) f t k = refl
end_raised shape jobs before who r _ _ _ (RowStep.is_cancelled reason j m o) f t k =
    let q = three j.body_ended (is_none_left (living j)) false t in
    absurd (both_ways (owes_row (Some j)) f (all_true j.body_ended (is_none_left (living j)) (is_ended j.state) q.0 q.1
    (not_ended j.state m)))
end_raised shape jobs before who r _ _ _ (RowStep.ends end j m) f t k =
    let q = three j.body_ended (is_none_left (living j)) (is_ended (state_of_end end)) t in
    absurd (both_ways (is_ended (state_of_end end)) q.2 (end_ends end))
end_raised shape jobs before who r _ _ _ (RowStep.is_told c j m p) f t k = k c p
end_raised shape jobs before who r _ _ _ (RowStep.stays act x a b c d e) f t k = absurd (both_ways (owes_row x) f t)

pub ended_by : (o : Option Job) → has_ended o ≡ true → IsEnded o
ended_by None e = cc
ended_by (Some j) e = e

no_end_owed : (o : Option Job) → IsEnded o ⊎ IsNotDone o → owes_row o ≡ false
no_end_owed o (inl e) = and_false (is_done o) (has_ended o) (ended_is o e)
no_end_owed None (inr n) = absurd n
no_end_owed (Some j) (inr n) = ap (λ b. b && not (is_ended j.state)) n

end_by_fact : (jobs : List JobEntry) (r : ℕ) (at : List JobEntry) (fact : JobFact) → JobHolds (on_jobs fact) at → IsNoEndOf r fact
    → owes_end r (replay at) ≡ false
end_by_fact jobs r at (OwesNoEnd q) h e = subst (λ q. owes_row (replay at q) ≡ false) e (no_end_owed (replay at q) h)
end_by_fact jobs r at other h e = absurd e

end_by_told : (jobs : List JobEntry) (r : ℕ) (a : JobAct) (t : Told) (at : List JobEntry) → JobHolds t at → job_told t ≡ None
    → TakesEnd r a t → owes_end r (replay at) ≡ false
end_by_told jobs r a (note i) at h m t = absurd (subst (ActPasses (IsFinishOf r)) m t)
end_by_told jobs r a (on_channels fact) at h m t = absurd t
end_by_told jobs r a (on_jobs fact) at h m t = end_by_fact jobs r at fact h t

end_by_act : (jobs : List JobEntry) (shape : _) → Legal shape jobs → (r : ℕ) (b : JobAct) → IsFinishOf r b
    → (before rest : List JobEntry) (e : JobEntry) → jobs ≡ before ++ e ∷ rest → e.act ≡ b
    → owes_end r (after (replay before) e.who e.act) ≡ false
end_by_act jobs shape l r (Finish q end) f before rest e parts is =
    let needs = needs_there shape jobs before e rest l parts in
    let ended : has_ended (after (replay before) e.who e.act r) ≡ true =
    finish_mark.sets shape (replay before) e.who e.act r
    (replay_families shape before (Legal-prefix shape before (e ∷ rest) (subst (Legal shape) parts l))) needs (ap (finishes r) is
    ∙ subst (λ u. (r == u) ≡ true) (sym f) (same r)) in
    and_false (is_done (after (replay before) e.who e.act r)) (has_ended (after (replay before) e.who e.act r)) ended
end_by_act jobs shape l r other f before rest e parts is = absurd f

act_of_told : (r : ℕ) (a : JobAct) (t : Told) (b : JobAct) → job_told t ≡ Some b → TakesEnd r a t → IsFinishOf r b
act_of_told r a (note i) b m t = subst (ActPasses (IsFinishOf r)) m t
act_of_told r a (on_channels fact) b m t = absurd t
act_of_told r a (on_jobs fact) b m t = cc

of_start : (b : Bool) → owes_row (if b then Some root else None) ≡ false
of_start true = refl
of_start false = refl

end_debt : (p : Program) (jobs : List JobEntry) → Legal (job_shape p) jobs → (r : ℕ) → JobDebt p jobs
end_debt p jobs l r = record {
  owes = owes_end r;
  Raises = λ n. RaisesEnd (parents_in jobs) r;
  Takes = TakesEnd r;
  first = of_start (r == 0);
  rises = λ before e rest parts f t. end_raised (job_shape p) jobs before e.who r e.act _ _
      (row_step (job_shape p) (replay before) e.who e.act r (needs_there (job_shape p) jobs before e rest l parts)) f t
      (λ c h. prefix_keeps (λ x. parent_of x ≡ Some r) (parent_lasts r) (job_shape p) before jobs c l (e ∷ rest, sym parts) h);
  pieces = λ k g h q. end_pieces_pay p jobs r k g h q;
  by_fact = λ a t at more parts h m x. end_by_told jobs r a t at h m x;
  by_act = λ a t b m x before rest e parts is. end_by_act jobs (job_shape p) l r b (act_of_told r a t b m x) before rest e parts is;
}

pub other_part : (a b : Bool) → (a && not b) ≡ false → a ≡ true → b ≡ true
other_part a b e h = true_from_ne_false b (λ k. both_ways (a && not b) e (and_from a (not b) h (not_from_false b k)))

-- a Job whose body has ended and no child of which lives has ended
pub finished : (p : Program) (books : List (List Item)) (channels : List Entry) (jobs : List JobEntry) → BooksOf p books channels jobs
    → (r : ℕ) → is_done (replay jobs r) ≡ true → IsEnded (replay jobs r)
unfolding end_debt
finished p books channels jobs of r done = ended_by (replay jobs r)
    (other_part (is_done (replay jobs r)) (has_ended (replay jobs r))
    (nobody_owes p books channels jobs of (end_debt p jobs of.legal_jobs r)) done)
