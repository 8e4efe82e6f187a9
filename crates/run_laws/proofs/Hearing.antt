-- What a coroutine keeps when it is polled, and when it hears of what others did.
use Rattle.std.specs.Prelude.{◌≡◌, ◌≢◌, ℕ, ◌≤◌, Bool, true, ◌||◌, [], ◌++◌, length, Option, Some, None, option_map, refl}
use Rattle.co_base.proofs.Orders.{order_same, order_then}
use Rattle.std.proofs.Common.{sym, ap, ◌∙◌, subst, arith, length-append}
use Rattle.std.proofs.lemmas.List.{append-nil, nil_from_length}
use mathlib.Core.List.{IsPrefix}
use Rattle.channel_model.specs.Histories.{acts_of}
use Rattle.channel_model.specs.Floors.{Floor as ChannelFloor}
use Rattle.job_model.specs.declared.acts.End.{End}
use Rattle.job_model.specs.declared.acts.JobState.{JobState}
use Rattle.job_model.specs.declared.acts.JobState.TheVariants.{New}
use Rattle.job_model.specs.declared.floor.JobView.{JobView}
use Rattle.job_model.specs.Trees.{Job}
use Rattle.job_model.specs.Histories.{acts_of as job_acts_of, Legal as LegalJobs}
use Rattle.job_model.proofs.Spans.{or_nothing}
use Rattle.job_model.specs.Floors.{Floor, Looked, AtStep, is_claimed_by}
use Rattle.job_model.specs.Answers.{view_of, LookAnswer}
use Rattle.note_book.specs.Items.{channel_acts_in, job_acts_in}
use Rattle.call_meaning.specs.Telling.{items_in}
use Rattle.call_meaning.specs.Facts.{end_by, end_at}
use Rattle.script_grammar.specs.Programs.{Program}
use Rattle.script_grammar.specs.WellFormed.{IsProgram}
use Rattle.script_meaning.specs.declared.turn.Turn.{Turn}
use Rattle.script_meaning.specs.declared.turn.Turn.TheVariants as turn
use Rattle.script_meaning.specs.Polls.{Frame, StandsOn, Polled, TurnAnswer}
use Rattle.run_laws.proofs.LaterStands.{OthersWentOn, stands_later}
use Rattle.run_laws.specs.Sights.{Sight, Keeps, KnowsTags, IsWithin, SameOf, SawMore, IsSeenSame}
use Rattle.shared_floors.specs.Meetings.{MetOnChannels, MetOnJobs}
use Rattle.run_laws.specs.LastRounds.{Rested, KnowsAllOf, HasRested}
use Rattle.run_laws.specs.Looks.{end_shown, end_looked}
use Rattle.run_laws.proofs.RefusalsTold.{refused_later, polled_refused}
use Rattle.run_laws.proofs.Prefixes.{prefix_then}
use Rattle.run_laws.proofs.PointsGoOn.{stands_along_later, polled_stands_along}

abbrev pub sight : Frame → ChannelFloor → Floor → Sight
sight f c j = record { frame = f; channels = c; jobs = j }

-- ---- others went on

pub keeps_later : (p : Program) (f : Frame) (c c' : ChannelFloor) (j j' : Floor) → OthersWentOn f.tag c c' j j'
    → ((r t : ℕ) → j.claims r ≡ Some t → j'.claims r ≡ Some t) → Keeps p (sight f c j) → Keeps p (sight f c' j')
keeps_later p f c c' j j' others kept h = record {
  stands = stands_later p c c' j j' f others h.stands;
  refused = refused_later p j j' f kept h.refused;
  along = λ joint. stands_along_later p c c' j j' f others.channels.order others.jobs.order
      (record { channels = others.more_channels; jobs = others.more_jobs }) (h.along (sym others.jobs.joint ∙ joint));
}

-- a meeting is such
pub met_others : (who : ℕ) (a a' b b' : ChannelFloor) (i i' k k' : Floor) → a.callers who ≡ true → i.callers who ≡ true
    → MetOnChannels a a' b b' → MetOnJobs i i' k k' → OthersWentOn who a a' i i'
met_others who a a' b b' i i' k k' ca ja calls jobs = record {
  channels = calls.same;
  jobs = jobs.same;
  more_channels = calls.longer;
  more_jobs = jobs.longer;
  channel_acts = calls.mine who ca;
  job_acts = jobs.mine who ja;
  claims = jobs.my_claims who ja;
}

pub keeps_met : (p : Program) (f : Frame) (a a' b b' : ChannelFloor) (i i' k k' : Floor) → MetOnChannels a a' b b' → MetOnJobs i i' k k'
    → Keeps p (sight f a i) → Keeps p (sight f a' i')
keeps_met p f a a' b b' i i' k k' calls jobs h =
    keeps_later p f a a' i i' (met_others f.tag a a' b b' i i' k k' h.stands.of_channels h.stands.of_jobs calls jobs) jobs.kept h

pub tags_same : (p : Program) (t : ℕ) (f f' g g' : ℕ → Bool) → f' ≡ f → g' ≡ g → KnowsTags p t f g → KnowsTags p t f' g'
tags_same p t f f' g g' e q h = subst (λ x. KnowsTags p t x g') (sym e) (subst (λ y. KnowsTags p t f y) (sym q) h)

-- ---- a look

looked_others : (who : ℕ) (c : ChannelFloor) (j j' : Floor) → Looked who [] j j' → OthersWentOn who c c j j'
looked_others who c j j' h = record {
  channels = record { shape = refl; alone = refl; callers = refl; order = order_same _ };
  jobs = h.same;
  more_channels = ([], append-nil c.seen);
  more_jobs = h.longer;
  channel_acts = refl;
  job_acts = h.mine;
  claims = λ r. h.claims.mine r ∙ sym (or_nothing (is_claimed_by who (j.claims r)));
}

pub keeps_looked : (p : Program) (f : Frame) (c : ChannelFloor) (j j' : Floor) → Looked f.tag [] j j' → Keeps p (sight f c j)
    → Keeps p (sight f c j')
keeps_looked p f c j j' h k = keeps_later p f c c j j' (looked_others f.tag c j j' h) h.claims.kept k

by_state : (s : JobState) (j : Job) → end_by s j ≡ end_shown s (view_of j)
by_state New j = refl
by_state other j = refl

end_in_view : (x : Option Job) → end_at x ≡ end_looked (option_map view_of x)
end_in_view None = refl
end_in_view (Some j) = by_state j.state j

pub looked_end : (who row : ℕ) (old new : Floor) (result : Option JobView) (end : Option End) → end ≡ end_looked result
    → LookAnswer who row old new result → AtStep old new (λ tree. end_at (tree row) ≡ end)
looked_end who row old new result end e h = record {
  moment = h.1.moment;
  after = h.1.after;
  before = h.1.before;
  holds = end_in_view _ ∙ ap end_looked h.1.holds ∙ sym e;
}

-- ---- a poll

pub keeps_polled : (p q : Program) (c c' : ChannelFloor) (j j' : Floor) (f g : Frame) → q ≡ p → IsProgram q → LegalJobs j'.shape j'.seen
    → StandsOn q c' j' g → Polled q c c' j j' f g → Keeps p (sight f c j) → Keeps p (sight g c' j')
keeps_polled p q c c' j j' f g e ok legal on polled k =
    let was = subst (λ x. Keeps x (sight f c j)) (sym e) k in
    subst (λ x. Keeps x (sight g c' j')) e
    (record {
      stands = on;
      refused = polled_refused q c c' j j' f g ok (subst (λ z. LegalJobs z j'.seen) on.jobs legal) was.stands on polled
          was.refused;
      along = λ joint.
          let before : j.joint ≡ true = sym polled.jobs.same.joint ∙ joint in
          polled_stands_along q c c' j j' f g before (was.along before) polled;
    })

pub rested : (p : Program) (f g : Frame) (c c' : ChannelFloor) (j j' : Floor) (answer : Turn) → (polled : Polled p c c' j j' f g)
    → TurnAnswer p c c' j j' f g polled.told answer → answer ≢ turn.Ready → length g.book ≤ length f.book
    → Rested p (sight f c j) (sight g c' j')
rested p f g c c' j j' answer polled said n few = record {
  polled = polled;
  none = nil_from_length (items_in polled.told) (let whole = ap length polled.appended
      in let parts = length-append f.book (items_in polled.told) in omega (arith, few, whole, parts));
  answer = answer;
  said = said;
  not_ready = n;
}

-- a poll that noted nothing added nothing
did_nothing : (p : Program) (s s' : Sight) → Rested p s s' → SameOf s'.frame.tag s s'
did_nothing p s s' h = record {
  calls = subst (λ n. acts_of n s'.channels.seen ≡ acts_of n s.channels.seen) (sym h.polled.tag) (h.polled.channels.mine
      ∙ ap (λ l. acts_of s.frame.tag s.channels.seen ++ channel_acts_in l) h.none ∙ append-nil (acts_of s.frame.tag s.channels.seen));
  jobs = subst (λ n. job_acts_of n s'.jobs.seen ≡ job_acts_of n s.jobs.seen) (sym h.polled.tag) (h.polled.jobs.mine
      ∙ ap (λ l. job_acts_of s.frame.tag s.jobs.seen ++ job_acts_in l) h.none ∙ append-nil (job_acts_of s.frame.tag s.jobs.seen));
}

pub more_same : (s s' : Sight) → IsSeenSame s s' → SawMore s s'
more_same s s' same = record {
  frame = same.frame;
  within = record {
    channels = subst (λ (x : ChannelFloor). IsPrefix s.channels.seen x.seen) (sym same.channels) ([], append-nil s.channels.seen);
    jobs = subst (λ (x : Floor). IsPrefix s.jobs.seen x.seen) (sym same.jobs) ([], append-nil s.jobs.seen);
    order = subst (λ (x : ChannelFloor). IsPrefix s.channels.order x.order) (sym same.channels) (order_same s.channels.order);
    job_order = subst (λ (x : Floor). IsPrefix s.jobs.order x.order) (sym same.jobs) (order_same s.jobs.order);
  };
  same = record {
    calls = ap (λ (x : ChannelFloor). acts_of s.frame.tag x.seen) same.channels;
    jobs = ap (λ (x : Floor). job_acts_of s.frame.tag x.seen) same.jobs;
  };
}

-- ---- what was seen

pub within_then : (a b c : Sight) → IsWithin a b → IsWithin b c → IsWithin a c
within_then a b c h g = record {
  channels = prefix_then _ _ _ h.channels g.channels;
  jobs = prefix_then _ _ _ h.jobs g.jobs;
  order = order_then _ _ _ h.order g.order;
  job_order = order_then _ _ _ h.job_order g.job_order;
}

pub within_itself : (s : Sight) → IsWithin s s
within_itself s = record {
  channels = ([], append-nil s.channels.seen);
  jobs = ([], append-nil s.jobs.seen);
  order = order_same s.channels.order;
  job_order = order_same s.jobs.order;
}

-- one that met another has seen all that the other has
pub met_within : (f g : Frame) (a a' b b' : ChannelFloor) (i i' k k' : Floor) → MetOnChannels a a' b b' → MetOnJobs i i' k k'
    → IsWithin (sight g b k) (sight f a' i')
met_within f g a a' b b' i i' k k' calls jobs =
    record { channels = calls.heard; jobs = jobs.heard; order = calls.heard_order; job_order = jobs.heard_order }

-- and more than it had
pub met_more : (f : Frame) (a a' b b' : ChannelFloor) (i i' k k' : Floor) → a.callers f.tag ≡ true → i.callers f.tag ≡ true
    → MetOnChannels a a' b b' → MetOnJobs i i' k k' → SawMore (sight f a i) (sight f a' i')
met_more f a a' b b' i i' k k' ca ja calls jobs = record {
  frame = refl;
  within = record { channels = calls.longer; jobs = jobs.longer; order = calls.same.order; job_order = jobs.same.order };
  same = record { calls = calls.mine f.tag ca; jobs = jobs.mine f.tag ja };
}

-- and so has one that looked at a Job
pub looked_more : (f : Frame) (c : ChannelFloor) (j j' : Floor) → Looked f.tag [] j j' → SawMore (sight f c j) (sight f c j')
looked_more f c j j' h = record {
  frame = refl;
  within = record { channels = ([], append-nil c.seen); jobs = h.longer; order = order_same c.order; job_order = h.same.order };
  same = record { calls = refl; jobs = h.mine };
}

-- ---- what is known of a coroutine goes on to be so

pub known_more : (m m' s : Sight) → IsWithin m m' → KnowsAllOf m s → KnowsAllOf m' s
known_more m m' s w h = record {
  past = h.past;
  within = within_then h.past m m' h.within w;
  same = h.same;
}

same_then : (k : ℕ) (a b c : Sight) → SameOf k a b → SameOf k b c → SameOf k a c
same_then k a b c h g = record { calls = g.calls ∙ h.calls; jobs = g.jobs ∙ h.jobs }

-- its coroutine saw more
pub known_still : (m s s' : Sight) → SawMore s s' → KnowsAllOf m s → KnowsAllOf m s'
known_still m s s' more h = record {
  past = h.past;
  within = h.within;
  same = subst (λ (f : Frame). SameOf f.tag h.past s') (sym more.frame) (same_then s.frame.tag h.past s s' h.same more.same);
}

-- it has just told all
pub known_told : (m s : Sight) → IsWithin s m → KnowsAllOf m s
known_told m s w = record { past = s; within = w; same = record { calls = refl; jobs = refl } }

-- it was seen to be the same
pub known_same : (m s s' : Sight) → IsSeenSame s s' → KnowsAllOf m s → KnowsAllOf m s'
known_same m s s' same h = known_still m s s' (more_same s s' same) h

pub within_same : (m s s' : Sight) → IsSeenSame s s' → IsWithin s m → IsWithin s' m
within_same m s s' same w = record {
  channels = subst (λ (x : ChannelFloor). IsPrefix x.seen m.channels.seen) (sym same.channels) w.channels;
  jobs = subst (λ (x : Floor). IsPrefix x.seen m.jobs.seen) (sym same.jobs) w.jobs;
  order = subst (λ (x : ChannelFloor). IsPrefix x.order m.channels.order) (sym same.channels) w.order;
  job_order = subst (λ (x : Floor). IsPrefix x.order m.jobs.order) (sym same.jobs) w.job_order;
}

pub rested_still : (p : Program) (first s s' : Sight) → SawMore s s' → HasRested p first s → HasRested p first s'
rested_still p first s s' more h = record {
  before = h.before;
  after = h.after;
  knew = h.knew;
  rested = h.rested;
  kept = h.kept;
  frame = more.frame ∙ h.frame;
  since = within_then h.after s s' h.since more.within;
  same = subst (λ (f : Frame). SameOf f.tag h.before s') (sym more.frame) (same_then s.frame.tag h.before s s' h.same more.same);
}

pub rested_same : (p : Program) (first s s' : Sight) → IsSeenSame s s' → HasRested p first s → HasRested p first s'
rested_same p first s s' same h = rested_still p first s s' (more_same s s' same) h

-- one that had seen all, and whose poll came to nothing
pub rested_now : (p : Program) (first s s' : Sight) → IsWithin first s → Rested p s s' → Keeps p s' → HasRested p first s'
rested_now p first s s' knew h kept = record {
  before = s;
  after = s';
  knew = knew;
  rested = h;
  kept = kept;
  frame = refl;
  since = within_itself s';
  same = did_nothing p s s' h;
}

pub known_rested : (p : Program) (m s s' : Sight) → Rested p s s' → KnowsAllOf m s → KnowsAllOf m s'
known_rested p m s s' h k = record {
  past = k.past;
  within = k.within;
  same =
      let tag : s'.frame.tag ≡ s.frame.tag = h.polled.tag in
      same_then s'.frame.tag k.past s s' (subst (λ n. SameOf n k.past s) (sym tag) k.same) (did_nothing p s s' h);
}

pub tags_polled : (p : Program) (t t' : ℕ) (f f' g g' : ℕ → Bool) → t' ≡ t → f' ≡ f → g' ≡ g → KnowsTags p t f g → KnowsTags p t' f' g'
tags_polled p t t' f f' g g' e q r h = subst (λ n. KnowsTags p n f' g') (sym e) (tags_same p t f f' g g' q r h)

pub saw_then : (a b c : Sight) → SawMore a b → SawMore b c → SawMore a c
saw_then a b c h g = record {
  frame = g.frame ∙ h.frame;
  within = within_then a b c h.within g.within;
  same = same_then a.frame.tag a b c h.same (subst (λ (f : Frame). SameOf f.tag b c) h.frame g.same);
}

pub seen_then : (a b c : Sight) → IsSeenSame a b → IsSeenSame b c → IsSeenSame a c
seen_then a b c h g = record { frame = g.frame ∙ h.frame; channels = g.channels ∙ h.channels; jobs = g.jobs ∙ h.jobs }

-- what saw all of one saw all of what is seen to be the same
pub within_from : (m s s' : Sight) → IsSeenSame s s' → IsWithin s' m → IsWithin s m
within_from m s s' same = within_same m s' s (record { frame = sym same.frame; channels = sym same.channels; jobs = sym same.jobs })
