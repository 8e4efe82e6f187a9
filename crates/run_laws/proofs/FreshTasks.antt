-- What coroutines keep before their first poll.
use Rattle.std.specs.Prelude.{◌≡◌, ◌≢◌, ℕ, ◌<◌, ◌==◌, Bool, true, false, ◌||◌, [], ◌∷◌, ◌++◌, Some, None, if◌then◌else◌, refl}
use Rattle.std.specs.List.{list_any}
use Rattle.std.proofs.Common.{sym, ap, ◌∙◌, subst}
use Rattle.std.proofs.lemmas.List.{append-nil}
use Rattle.std.proofs.lemmas.Bool.{ne_eqb}
use Rattle.co_base.proofs.Orders.{order_same}
use Rattle.channel_model.specs.Histories.{acts_of}
use Rattle.channel_model.specs.Floors.{Floor as ChannelFloor, Looked}
use Rattle.job_model.specs.Trees.{Shape, is_among}
use Rattle.job_model.specs.Histories.{acts_of as job_acts_of, Legal as LegalJobs}
use Rattle.job_model.specs.Floors.{Floor, IsFreshFloor, is_claimed_by}
use Rattle.note_book.specs.Items.{channel_acts_in, job_acts_in}
use Rattle.call_meaning.specs.Telling.{items_in}
use Rattle.call_meaning.specs.Stories.{Moment, beginning, IsTrue}
use Rattle.call_meaning.specs.Calls.{seen_by, rows_in}
use Rattle.call_meaning.specs.Orders.{HasTold}
use Rattle.script_grammar.specs.Programs.{Program}
use Rattle.script_grammar.specs.WellFormed.{IsProgram}
use Rattle.script_grammar.specs.Tags.{coroutine_count}
use Rattle.script_meaning.specs.Configs.{fresh}
use Rattle.script_meaning.specs.Books.{story, Runs, Reaches, Begins}
use Rattle.script_meaning.specs.Polls.{Frame, StandsOn, Begun, own_rows}
use Rattle.script_laws.proofs.ClaimsAttached.{is_among-rows_in}
use Rattle.run_laws.specs.Sights.{Keeps}
use Rattle.run_laws.specs.Starts.{IsUntouched}
use Rattle.run_laws.proofs.RefusalsTold.{begun_refused}
use Rattle.run_laws.proofs.Hearing.{sight}
use Rattle.run_laws.proofs.LaterStands.{OthersWentOn, stands_later}
use Rattle.run_laws.proofs.PointsGoOn.{fresh_stands_along, begun_stands_along}

-- ---- floors on which nothing was done

pub no_calls_yet : (k : ℕ) (c : ChannelFloor) → c.seen ≡ [] → acts_of k c.seen ≡ []
unfolding acts_of
no_calls_yet k c e = ap (acts_of k) e

pub no_jobs_yet : (k : ℕ) (j : Floor) → j.seen ≡ [] → job_acts_of k j.seen ≡ []
unfolding job_acts_of
no_jobs_yet k j e = ap (job_acts_of k) e

none_among : (r : ℕ) → is_among r (rows_in (job_acts_in [])) ≡ false
none_among r = is_among-rows_in r []

-- the root's row is the only one that is claimed
pub claims_yet : (size : Shape) (j : Floor) (k r : ℕ) → IsFreshFloor size j → is_claimed_by k (j.claims r) ≡ is_among r (own_rows k [])
claims_yet size j k r h = by_tests (k == 0) refl (r == 0) refl
  where
    claim : (b : Bool) → (r == 0) ≡ b → j.claims r ≡ (if b then Some 0 else None)
    claim b e = h.claims r ∙ ap (λ t. if t then Some 0 else None) e

    roots : (b : Bool) → (k == 0) ≡ b → is_among r (own_rows k []) ≡ is_among r ((if b then 0 ∷ [] else []) ++ rows_in (job_acts_in []))
    roots b e = ap (λ t. is_among r ((if t then 0 ∷ [] else []) ++ rows_in (job_acts_in []))) e

    by_tests : (b : Bool) → (k == 0) ≡ b → (t : Bool) → (r == 0) ≡ t → is_claimed_by k (j.claims r) ≡ is_among r (own_rows k [])
    by_tests true e true f = ap (is_claimed_by k) (claim true f) ∙ e
        ∙ sym (roots true e ∙ ap (λ t. t || is_among r (rows_in (job_acts_in []))) f)
    by_tests true e false f = ap (is_claimed_by k) (claim false f)
        ∙ sym (roots true e ∙ ap (λ t. t || is_among r (rows_in (job_acts_in []))) f ∙ none_among r)
    by_tests false e true f = ap (is_claimed_by k) (claim true f) ∙ e ∙ sym (roots false e ∙ none_among r)
    by_tests false e false f = ap (is_claimed_by k) (claim false f) ∙ sym (roots false e ∙ none_among r)

-- ---- coroutines that did nothing yet

pub nothing_told : (p : Program) (k : ℕ) (now : Moment) → IsTrue (story p k now) [] beginning []
unfolding IsTrue
nothing_told p k now = tt

pub runs_fresh : (p : Program) (k : ℕ) (now : Moment) → k ≢ 0 → Runs p k now [] (fresh k)
unfolding items_in
runs_fresh p k now n = record {
  told = [];
  written = refl;
  reaches = Reaches.begins [] (fresh k) (Begins.child k n);
  is_true =
      nothing_told p k now;
}

pub none_owned : (k r : ℕ) → k ≢ 0 → is_among r (own_rows k []) ≡ false
none_owned k r n = ap (λ b. is_among r ((if b then 0 ∷ [] else []) ++ rows_in (job_acts_in []))) (ne_eqb k 0 n) ∙ is_among-rows_in r []

pub keeps_fresh : (p : Program) (k : ℕ) (f : Frame) (c : ChannelFloor) (j : Floor) → k < coroutine_count p → k ≢ 0 → f.tag ≡ k
    → f.config ≡ fresh k → f.book ≡ [] → IsUntouched p k c j → Keeps p (sight f c j)
keeps_fresh p k f c j lt n tag config book h = record {
  stands = record {
    channels = h.channels;
    jobs = h.jobs;
    of_channels = ap c.callers tag ∙ h.of_channels;
    of_jobs = ap j.callers tag ∙ h.of_jobs;
    in_run = subst (λ m. m < coroutine_count p) (sym tag) lt;
    channel_acts = ap (λ m. acts_of m c.seen) tag ∙ h.no_channel_acts ∙ ap channel_acts_in (sym book);
    job_acts = ap (λ m. job_acts_of m j.seen) tag ∙ h.no_job_acts ∙ ap job_acts_in (sym book);
    runs = subst (λ m. Runs p m (seen_by c j) (f.book) (f.config)) (sym tag)
        (subst (λ b. Runs p k (seen_by c j) b (f.config)) (sym book)
        (subst (Runs p k (seen_by c j) []) (sym config) (runs_fresh p k (seen_by c j) n)));
    claims = λ r. ap (λ m. is_claimed_by m (j.claims r)) tag ∙ h.no_claims r ∙ sym (none_owned k r n)
        ∙ ap (λ m. is_among r (own_rows m [])) (sym tag) ∙ ap (λ b. is_among r (own_rows f.tag b)) (sym book);
  };
  refused = record {
    no_row = λ e. absurd (never (sym (ap (list_any _) book) ∙ e));
    used = λ e. absurd (never (sym (ap (list_any _) book) ∙ e));
    none_ended = ap (list_any _) book;
  };
  along = λ joint. fresh_stands_along p c j f (λ z. n (sym tag ∙ z)) (config ∙ ap fresh (sym tag)) book;
}
  where
    never : false ≡ true → ⊥
    never e = cc

-- the root has begun, and then its channels were told what was seen of the Jobs
pub keeps_begun : (p q : Program) (c d : ChannelFloor) (j j' : Floor) (f g : Frame) → q ≡ p → IsProgram q → LegalJobs j'.shape j'.seen
    → acts_of f.tag c.seen ≡ [] → job_acts_of f.tag j.seen ≡ [] → Looked f.tag c d → (j'.joint ≡ true → HasTold d j')
    → StandsOn q c j' g → Begun q j j' f g → Keeps p (sight g d j')
keeps_begun p q c d j j' f g e ok legal none none_jobs look told on begun =
    subst (λ x. Keeps x (sight g d j')) e
    (record {
      stands = stands_later q c d j' j' g others on;
      refused = begun_refused q c j j' f g ok (subst (λ z. LegalJobs z j'.seen) on.jobs legal) on begun;
      along = λ joint. begun_stands_along q c d j j' f g none on.channels none_jobs look (told joint) on begun;
    })
  where
    others : OthersWentOn g.tag c d j' j'
    others = record {
      channels = look.same;
      jobs = record { shape = refl; alone = refl; callers = refl; order = order_same j'.order; joint = refl };
      more_channels = look.longer;
      more_jobs = ([], append-nil j'.seen);
      channel_acts = subst (λ k. acts_of k d.seen ≡ acts_of k c.seen) (sym begun.tag) look.mine;
      job_acts = refl;
      claims = λ r. refl;
    }
