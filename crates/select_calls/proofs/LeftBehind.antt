-- What a select leaves that found no memory behind its tries.
use Rattle.std.specs.Prelude.{◌≡◌, ℕ, ◌≤◌, List, [], ◌∷◌, ◌++◌, length, map, take, drop, Some, None, refl}
use Rattle.std.proofs.Common.{sym, ap, subst, ◌∙◌, arith, append_assoc, inl}
use Rattle.co_base.specs.declared.names.WaitId.{WaitId}
use Rattle.channel_model.specs.declared.acts.ChannelNote.TheVariants.{MainResolved}
use Rattle.call_meaning.specs.Telling.{Told, heard}
use Rattle.call_meaning.specs.ChannelCalls.{Call, Waits, NoPlace, Stops, blocked, spent, PlacesFirst, AdmitsIn, SelectCall}
use Rattle.call_meaning.specs.Prefixes.{PrefixOf}
use Rattle.call_meaning.proofs.Prefixes.{prefix_first}
use Rattle.select_calls.specs.Selects.{places, settles, NamesLeft, SelectsSomehow, StopsSelect}
use Rattle.select_calls.proofs.ClausesAt.{take_drop}
use Rattle.select_calls.proofs.AdmittedIn.{nothing_more, none_in}
use Rattle.select_calls.proofs.PlacedOrSettled.{HasNo, none_in_both, blocked_place_none, blocked_settle_none, places_settle_none}

-- the wait of what was placed is left
pub left_named : (calls : List Call) (n : ℕ) (w : WaitId) (group rest : List Told) → PlacesFirst w (take n calls) group → HasNo settles rest
    → NamesLeft calls (Some w) (map blocked calls ++ (group ++ rest))
left_named calls n w group rest p none = (
  record { before = take n calls; later = drop n calls; group = group; rest = rest; clauses = take_drop calls n; first = p; all = refl },
  none_in_both settles (map blocked calls) (group ++ rest) (blocked_settle_none calls)
      (none_in_both settles group rest (places_settle_none w 1 (take n calls) group p.places) none),
)

-- nothing was placed
pub none_left : (calls : List Call) → 1 ≤ length calls → StopsSelect calls None (map blocked calls ++ [])
none_left [] some = absurd (omega (arith, some))
none_left (call ∷ later) some = record {
  part = prefix_first (SelectsSomehow (call ∷ later)) (map blocked (call ∷ later) ++ []) (spent call) (
    NoPlace,
    SelectCall.stops_at_first later call (spent call) _ NoPlace refl (Stops.no_place call (spent call) refl)
        (append_assoc (map blocked (call ∷ later)) [] (spent call)),
  );
  left = inl (none_in_both places (map blocked (call ∷ later)) [] (blocked_place_none (call ∷ later)) refl);
}

-- some clauses were
pub some_left : (calls : List Call) (n : ℕ) (w : WaitId) (group : List Told) → PlacesFirst w (take n calls) group
    → StopsSelect calls (Some w) (map blocked calls ++ (group ++ []))
some_left calls n w group p = record { part = by_rest (drop n calls) (take_drop calls n); left = left_named calls n w group [] p refl }
  where
    none : (told : List Told) × AdmitsIn (take n calls) told
    none = none_in (take n calls)

    by_rest : (rest : List Call) → calls ≡ take n calls ++ rest → PrefixOf (SelectsSomehow calls) (map blocked calls ++ (group ++ []))
    by_rest [] e =
        let all : calls ≡ take n calls = e ∙ sym (nothing_more (take n calls)) in
        prefix_first (SelectsSomehow calls) (map blocked calls ++ (group ++ [])) none.0 (
          Waits w,
          SelectCall.waits w group none.0 _ (subst (λ l. PlacesFirst w l group) (sym all) p)
              (subst (λ l. AdmitsIn l none.0) (sym all) none.1)
              (append_assoc (map blocked calls) (group ++ []) none.0 ∙ ap (λ l. map blocked calls ++ l) (append_assoc group [] none.0)),
        )
    by_rest (call ∷ later) e =
        prefix_first (SelectsSomehow calls) (map blocked calls ++ (group ++ [])) (heard (MainResolved w) ∷ none.0) (
          Waits w,
          SelectCall.resolved w (take n calls) later call group none.0 _ e p none.1
              (append_assoc (map blocked calls) (group ++ []) (heard (MainResolved w) ∷ none.0)
              ∙ ap (λ l. map blocked calls ++ l) (append_assoc group [] (heard (MainResolved w) ∷ none.0))),
        )

-- what is told behind
pub behind_more : (xs ys zs end : List Told) → ((xs ++ (ys ++ zs)) ++ end) ≡ xs ++ (ys ++ (zs ++ end))
behind_more xs ys zs end = append_assoc xs (ys ++ zs) end ∙ ap (λ l. xs ++ l) (append_assoc ys zs end)
