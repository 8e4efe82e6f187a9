-- Whether what a select told places a clause, or settles a wait.
use Rattle.std.specs.Prelude.{◌≡◌, ℕ, ◌+◌, Bool, true, false, ◌||◌, List, [], ◌∷◌, ◌++◌, map, refl}
use Rattle.std.specs.List.{list_any}
use Rattle.std.proofs.Common.{sym, ap, ◌∙◌}
use Rattle.std.proofs.Math.Bool.{or-true}
use Rattle.std.proofs.lemmas.Bool.{or_parts}
use Rattle.std.proofs.lemmas.List.Folds.{list_any-append}
use Rattle.co_base.specs.declared.names.WaitId.{WaitId}
use Rattle.channel_model.specs.declared.acts.Act.TheVariants.{Admit, Drop}
use Rattle.call_meaning.specs.Telling.{Told, ChannelFact, on_channels, NextIs, NoneToAdmit, FitsUpTo, made}
use Rattle.call_meaning.specs.ChannelCalls.{Call, sends, receives, Answer, Admits, Drops, Spurns, Overflows, AtOnce, Refused, blocked, spent, Places, Stops, AdmitsIn, revoked}
use Rattle.select_calls.specs.Selects.{places, settles}

-- ---- lists of what was told

-- nothing of this passes the test
abbrev pub HasNo : (Told → Bool) → List Told → Type 0
HasNo p told = list_any p told ≡ false

pub none_in_both : (p : Told → Bool) (xs ys : List Told) → HasNo p xs → HasNo p ys → HasNo p (xs ++ ys)
none_in_both p xs ys h k = list_any-append p xs ys ∙ ap (λ b. b || list_any p ys) h ∙ k

pub none_in_first : (p : Told → Bool) (xs ys : List Told) → HasNo p (xs ++ ys) → HasNo p xs
none_in_first p xs ys h = (or_parts (list_any p xs) (list_any p ys) (sym (list_any-append p xs ys) ∙ h)).0

none_mapped : {X : Type 0} (p : Told → Bool) (f : X → Told) → ((x : X) → p (f x) ≡ false) → (xs : List X) → HasNo p (map f xs)
none_mapped p f h [] = refl
none_mapped p f h (x ∷ xs) = ap (λ b. b || list_any p (map f xs)) (h x) ∙ none_mapped p f h xs

-- ---- where those are admitted for whom there is room

none_admits : (p : Told → Bool) → ((fact : ChannelFact) → p (on_channels fact) ≡ false) → ((c q : ℕ) → p (made (Admit c q)) ≡ false)
    → (c : ℕ) (told : List Told) → Admits c told → HasNo p told
none_admits p facts acts c told h =
    let last : HasNo p (on_channels (NoneToAdmit c h.mark) ∷ []) = ap (λ b. b || false) (facts (NoneToAdmit c h.mark)) in
    ap (list_any p) h.all
    ∙ ap (λ b. b || list_any p (map (λ q. made (Admit c q)) h.places ++ on_channels (NoneToAdmit c h.mark) ∷ [])) (facts (NextIs c h.mark))
    ∙ none_in_both p (map (λ q. made (Admit c q)) h.places) (on_channels (NoneToAdmit c h.mark) ∷ [])
    (none_mapped p (λ q. made (Admit c q)) (acts c) h.places) last

pub admits_settle_none : (calls : List Call) (told : List Told) → AdmitsIn calls told → HasNo settles told
admits_settle_none _ _ AdmitsIn.none = refl
admits_settle_none _ _ (AdmitsIn.offered c v calls admits more all h r e) = ap (list_any settles) e
    ∙ none_in_both settles admits more (none_admits settles (λ fact. refl) (λ d q. refl) c admits h) (admits_settle_none calls more r)
admits_settle_none _ _ (AdmitsIn.awaited c calls all r) = admits_settle_none calls all r

-- ---- where the clauses are tried

block_places : (call : Call) → places (blocked call) ≡ false
block_places (sends c v) = refl
block_places (receives c) = refl

pub blocked_place_none : (calls : List Call) → HasNo places (map blocked calls)
blocked_place_none calls = none_mapped places blocked block_places calls

block_settles : (call : Call) → settles (blocked call) ≡ false
block_settles (sends c v) = refl
block_settles (receives c) = refl

pub blocked_settle_none : (calls : List Call) → HasNo settles (map blocked calls)
blocked_settle_none calls = none_mapped settles blocked block_settles calls

drops_places_none : (c q : ℕ) (told : List Told) → Drops c q told → HasNo places told
drops_places_none c q told h =
    ap (list_any places) h.all ∙ none_in_both places (map (λ d. made (Drop c d.0 d.1)) h.dropped) (on_channels (FitsUpTo c q) ∷ [])
    (none_mapped places (λ d. made (Drop c d.0 d.1)) (λ d. refl) h.dropped) refl

spurns_places_none : (c q : ℕ) (told : List Told) → Spurns c q told → HasNo places told
spurns_places_none c q _ (Spurns.gone v) = refl
spurns_places_none c q _ Spurns.stays = refl

overflows_places_none : (c q : ℕ) (told : List Told) → Overflows c q told → HasNo places told
overflows_places_none c q told h = ap (list_any places) h.all
    ∙ none_in_both places h.drops h.spurns (drops_places_none c q h.drops h.dropped) (spurns_places_none c q h.spurns h.spurned)

pub at_once_places_none : (call : Call) (told : List Told) (a : Answer) → AtOnce call told a → HasNo places told
at_once_places_none _ _ _ (AtOnce.hands c v q) = refl
at_once_places_none _ _ _ (AtOnce.puts c v q more h) = overflows_places_none c q more h
at_once_places_none _ _ _ (AtOnce.takes c v q admits h) = none_admits places (λ fact. refl) (λ d k. refl) c admits h

-- ---- where they are placed

pub places_settle_none : (w : WaitId) (n : ℕ) (calls : List Call) (told : List Told) → Places w n calls told → HasNo settles told
places_settle_none w _ _ _ (Places.none n) = refl
places_settle_none w _ _ _ (Places.one n q (sends c v) calls more h) = places_settle_none w (n + 1) calls more h
places_settle_none w _ _ _ (Places.one n q (receives c) calls more h) = places_settle_none w (n + 1) calls more h

spent_settles_none : (call : Call) → HasNo settles (spent call)
spent_settles_none (sends c v) = refl
spent_settles_none (receives c) = refl

refused_settles_none : (call : Call) (told : Told) (a : Answer) → Refused call told a → settles told ≡ false
refused_settles_none _ _ _ (Refused.send c v u) = refl
refused_settles_none _ _ _ (Refused.receive c u) = refl

pub stop_settles_none : (call : Call) (told : List Told) (a : Answer) → Stops call told a → HasNo settles told
stop_settles_none _ _ _ (Stops.closed call told a h) = ap (λ b. b || false) (refused_settles_none call told a h)
stop_settles_none _ _ _ (Stops.no_place call all e) = ap (list_any settles) e ∙ spent_settles_none call
stop_settles_none _ _ _ other = refl

-- what is withdrawn is settled
pub revoked_settles : (w : WaitId) (xs ys : List Told) → list_any settles (xs ++ (revoked w ++ ys)) ≡ true
revoked_settles w [] ys = refl
revoked_settles w (x ∷ xs) ys = ap (λ b. settles x || b) (revoked_settles w xs ys) ∙ or-true (settles x)
