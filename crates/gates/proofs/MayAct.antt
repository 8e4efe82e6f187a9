-- Each act may come wherever the word is still as it was found, and changes that word alone.
use Rattle.std.specs.Prelude.{◌≡◌, ◌≢◌, ℕ, ◌≤◌, ◌+◌, Bool, true, List, [], ◌∷◌, ◌++◌, refl}
use Rattle.std.proofs.Common.{sym, ap, ◌∙◌, subst, arith}
use Rattle.worded.specs.Views.{has_tag}
use Rattle.worded.specs.Exchanges.{OthersAdded, MayEnter}
use Rattle.gates.specs.declared.act.GateAct.{GateAct}
use Rattle.gates.specs.declared.act.GateEntry.{GateEntry}
use Rattle.gates.specs.Gates.{State, one_if, after, state_of, holds, Needs, Legal, maker}
use Rattle.gates.specs.Words.{word_of, Fits}
use Rattle.gates.specs.Seen.{Seen, now_in, entry_of}
use Rattle.gates.specs.Answers.{TurnsWord}
use Rattle.gates.proofs.HistoriesGoOn.{state_push, state_more, Legal_push, Legal-rest}
use Rattle.gates.proofs.StatesStaySound.{Sound, sound_of, Counted, counted_others}
use Rattle.gates.proofs.WordsTell.{turns_word, same_turn, same_waits, needs_again}

-- what others leave to a pass
pub counted_since : (n who held : ℕ) (waits : Bool) (seen others : List GateEntry) → Legal n (seen ++ others)
    → Rattle.worded.specs.Histories.entries_of maker who others ≡ []
    → Counted who held waits (state_of n seen) → Counted who held waits (state_of n (seen ++ others))
counted_since n who held waits seen others legal none h = let r = Legal-rest n seen others legal in
    subst (Counted who held waits) (sym (state_more n seen others)) (counted_others who held waits (state_of n seen) others r.1 none h)

less_one : (a b c d e : ℕ) → a + c ≡ e → b + d ≡ e → c ≡ d → a ≡ b
less_one a b c d e h k l = omega (arith, h, k, l)

pub may_enter : (n who held w new : ℕ) (waits : Bool) (act : GateAct) (v : Seen) → n ≤ 65535 → has_tag who v.tags ≡ true → Legal n v.seen
    → Counted who held waits (state_of n v.seen) → w ≡ word_of (state_of n v.seen) → Needs (state_of n v.seen) who act
    → TurnsWord who act w new → MayEnter (Legal n) (Fits n) maker v 0 w new (entry_of who act)
may_enter n who held w new waits act v le own legal counted at needs turns = record {
  own = own;
  steps = λ others since found. step others since (found.word refl);
}
  where
    s : State
    s = state_of n v.seen

    step : (others : List GateEntry) → OthersAdded (Legal n) (Fits n) maker v others → w ≡ word_of (state_of n (v.seen ++ others))
        → Legal n ((v.seen ++ others) ++ entry_of who act ∷ []) × Fits n ((v.seen ++ others) ++ entry_of who act ∷ []) 0 new
        × ((j m : ℕ) → j ≢ 0 → Fits n (v.seen ++ others) j m → Fits n ((v.seen ++ others) ++ entry_of who act ∷ []) j m)
    step others since is =
        let log : List GateEntry = v.seen ++ others in
        let r : State = state_of n log in
        let sound : Sound n r = sound_of n log since.is_legal in
        let first : Sound n s = sound_of n v.seen legal in
        let same : word_of s ≡ word_of r = sym at ∙ is in
        let since_then : Counted who held waits r = counted_since n who held waits v.seen others since.is_legal (since.apart who own)
        counted in
        let waiting : s.waits who ≡ r.waits who = same_waits n s r who first sound le same in
        let held_same : holds who s ≡ holds who r = less_one (holds who s) (holds who r) (one_if (s.waits who)) (one_if (r.waits who))
        (held + one_if waits) counted.claimed since_then.claimed (ap one_if waiting) in
        let again : Needs r who act = needs_again n s r who act first sound le same held_same needs in
        let ends : new ≡ word_of (after r who act) = same_turn who act w new (word_of (after r who act)) turns
        (subst (λ x. TurnsWord who act x (word_of (after r who act))) (sym is) (turns_word n r who act sound again)) in (
          Legal_push n log (entry_of who act) since.is_legal again,
          record { word = λ e. ends ∙ sym (ap word_of (state_push n log (entry_of who act))) },
          λ j m ne f. record { word = λ e. absurd (ne e) },
        )

pub may_enter_at : (key n who held w new : ℕ) (waits : Bool) (act : GateAct) (v : Seen) → v.key ≡ n → key ≡ n → n ≤ 65535
    → has_tag who v.tags ≡ true → Legal v.key v.seen → Counted who held waits (now_in v) → w ≡ word_of (now_in v) → Needs (now_in v) who act
    → TurnsWord who act w new → MayEnter (Legal key) (Fits key) maker v 0 w new (entry_of who act)
may_enter_at key n who held w new waits act v of is le own legal counted at needs turns =
    subst (λ k. MayEnter (Legal k) (Fits k) maker v 0 w new (entry_of who act)) (of ∙ sym is)
    (may_enter v.key who held w new waits act v (subst (λ k. k ≤ 65535) (sym of) le) own legal counted at needs turns)
