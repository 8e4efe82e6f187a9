-- A look at a wait and then at a Job, between which each floor heard what was seen on the other.
use Rattle.std.specs.Prelude.{◌≡◌, ℕ, ◌<◌, Bool, true, [], Some}
use Rattle.std.specs.List.{list_any}
use Rattle.std.proofs.Common.{sym, ap, ◌∙◌, subst, arith}
use Rattle.co_base.specs.declared.names.WaitId.{WaitId}
use Rattle.channel_model.specs.Histories.{Legal as LegalChannels}
use Rattle.channel_model.specs.Floors.{Floor as ChannelFloor, Looked as LookedAtChannels}
use Rattle.channel_model.specs.Answers.{IsReady, IsReadyWait}
use Rattle.channel_model.proofs.Others.{others_keep, ready_stays}
use Rattle.channel_model.proofs.Spans as spans
use Rattle.job_model.specs.Acts.{ends_body}
use Rattle.job_model.specs.Trees.{Shape, tag_of}
use Rattle.job_model.specs.Histories.{Legal}
use Rattle.job_model.specs.Floors.{Floor, Looked}
use Rattle.job_model.proofs.Lasting.{tag_lasts}
use Rattle.job_model.proofs.Own.{prefix_keeps}
use Rattle.job_model.proofs.Spans.{claimed_then, moment_within, prefix_self, prefix_then, setting_then}
use Rattle.script_meaning.specs.Bodies.{IsOwnRow}
use Rattle.poll_states.specs.declared.jobs.OwnState.{OwnState}
use Rattle.poll_states.specs.Steps.{HasBody, IsSeenSo, IsSeenAs, OwnStateSeen, SeenBoth}

-- ---- one look after another

pub looked_then : (who : ℕ) (a b c : ChannelFloor) → LookedAtChannels who a b → LookedAtChannels who b c → LookedAtChannels who a c
looked_then who a b c h k =
    let s = h.spare in
    let t = k.spare in
    record {
      same = spans.setting_then a b c h.same k.same;
      longer = spans.prefix_then a.seen b.seen c.seen h.longer k.longer;
      mine = k.mine ∙ h.mine;
      alone = λ e. k.alone (h.same.alone ∙ e) ∙ h.alone e;
      spare = omega (arith, s, t);
    }

pub looked_at_jobs_then : (who : ℕ) (a b c : Floor) → Looked who [] a b → Looked who [] b c → Looked who [] a c
looked_at_jobs_then who a b c h k =
    let s = h.spare in
    let t = k.spare in
    record {
      same = setting_then a b c h.same k.same;
      longer = prefix_then a.seen b.seen c.seen h.longer k.longer;
      mine = k.mine ∙ h.mine;
      alone = λ e. k.alone (h.same.alone ∙ e) ∙ h.alone e;
      spare = omega (arith, s, t);
      claims = claimed_then who [] [] a b c h.same h.claims k.claims;
    }

-- ---- what lasts while others make entries

-- a wait that may be settled
pub ready_looked : (who : ℕ) (w : WaitId) (a b : ChannelFloor) → LegalChannels b.shape b.seen → LookedAtChannels who a b → IsReady who w a
    → IsReady who w b
ready_looked who w a b l look h = others_keep b.shape who (IsReadyWait who) (ready_stays who) w a.seen b.seen l look.longer look.mine h

-- a body of one's own
pub body_looked : (who row : ℕ) (a b : Floor) → Legal b.shape b.seen → Looked who [] a b → HasBody who row a → HasBody who row b
body_looked who row a b l look h = record {
  row_in = subst (λ (s : Shape). row < s.rows) (sym look.same.shape) h.row_in;
  at = record {
    caller = ap (λ (t : ℕ → Bool). t who) look.same.callers ∙ h.at.caller;
    whose = own_still h.at.whose;
    not_ended = ap (list_any (ends_body row)) look.mine ∙ h.at.not_ended;
  };
}
  where
    own_still : IsOwnRow who row a → IsOwnRow who row b
    own_still (IsOwnRow.own k lt) = IsOwnRow.own k (subst (λ n. who < n) (sym (ap (λ (s : Shape). s.coroutines) look.same.shape)) lt)
    own_still (IsOwnRow.scope t) = IsOwnRow.scope (prefix_keeps (λ x. tag_of x ≡ Some who) (tag_lasts who) b.shape a.seen b.seen row l
        look.longer t)

-- ---- what both looks saw

-- the wait may be settled after them
pub seen_ready : {who : ℕ} {w : WaitId} {row : ℕ} {c c' : ChannelFloor} {j j' : Floor} {resolved : Bool} {state : OwnState}
    → LegalChannels c'.shape c'.seen → SeenBoth who w row c c' j j' resolved state → resolved ≡ true → IsReady who w c'
seen_ready {who} {w} {c = c} {c' = c'} l s e = ready_looked who w s.channels c' l s.told.looked
    (subst (IsSeenSo who w c s.channels) e s.wait.so)

-- how the channels were seen from the first to the last
pub channels_since : {who : ℕ} {w : WaitId} {row : ℕ} {c c' : ChannelFloor} {j j' : Floor} {resolved : Bool} {state : OwnState}
    → SeenBoth who w row c c' j j' resolved state → LookedAtChannels who c c'
channels_since {who} {c = c} {c' = c'} s = looked_then who c s.channels c' s.wait.looked s.told.looked

-- how the Job was
pub state_since : {who : ℕ} {w : WaitId} {row : ℕ} {c c' : ChannelFloor} {j j' : Floor} {resolved : Bool} {state : OwnState}
    → SeenBoth who w row c c' j j' resolved state → OwnStateSeen who row j j' state
state_since {who} {row = row} {j = j} {j' = j'} {state = state} s = record {
  looked = looked_at_jobs_then who j s.jobs j' s.heard.looked s.job.looked;
  was = moment_within j s.jobs j' j' (IsSeenAs state row) s.heard.looked.longer s.job.was (prefix_self j'.seen);
}

-- who may call still may
pub callers_since : {who : ℕ} {w : WaitId} {row : ℕ} {c c' : ChannelFloor} {j j' : Floor} {resolved : Bool} {state : OwnState}
    → SeenBoth who w row c c' j j' resolved state → j.callers who ≡ true → j'.callers who ≡ true
callers_since {who} s may = ap (λ (t : ℕ → Bool). t who) (state_since s).looked.same.callers ∙ may
