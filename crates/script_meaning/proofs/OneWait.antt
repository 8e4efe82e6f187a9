-- Where a coroutine waits, that wait is its own and unsettled, and it has no other.
use Rattle.std.proofs.Common.{◌≡◌, ℕ, ◌<◌, Bool, true, false, List, ◌∷◌, ◌++◌, length, refl, ap, sym, ◌∙◌, subst, Option, Some, None, if◌then◌else◌}
use Rattle.std.proofs.lemmas.Option.{same_Some}
use Rattle.co_base.specs.declared.names.WaitId.{WaitId}
use Rattle.channel_model.specs.declared.acts.Act.{Act}
use Rattle.channel_model.specs.declared.acts.Act.TheVariants.{Hand, Put, Offer, Await, Take, Admit, Drop, Spurn, Close, Void, Drain, WakeClosed, Withdraw, Settle}
use Rattle.channel_model.specs.Channels.{same_wait}
use Rattle.channel_model.specs.Histories.{replay, acts_of, Legal}
use Rattle.channel_model.proofs.Waits.{same_wait-eq, same_wait-refl}
use Rattle.note_book.specs.declared.book.Item.{Item}
use Rattle.note_book.specs.declared.book.Item.TheVariants as item
use Rattle.note_book.specs.Items.{channel_acts_in}
use Rattle.call_meaning.specs.Telling.{Told, note, items_in}
use Rattle.call_meaning.specs.Stories.{Moment}
use Rattle.script_grammar.specs.Programs.{Program}
use Rattle.script_meaning.specs.Shapes.{floor_shape}
use Rattle.script_meaning.specs.Configs.{Config}
use Rattle.script_meaning.specs.Books.{Runs}
use Rattle.script_meaning.specs.Laws.{wait_of, HasJustTheWait}
use Rattle.script_meaning.proofs.Payments.{act_list}
use Rattle.script_meaning.proofs.ActsFollowed.{call_told, act_in_note}
use Rattle.script_meaning.proofs.ChannelStories.{act_of_note}
use Rattle.script_meaning.proofs.OwnUnsettled.{unsettled_by, unsettled_after, is_unsettled_of, unsettled_by_test, unsettled_passes, replay_unsettled}
use Rattle.script_meaning.proofs.WaitsTold.{WaitsTold, is_waitless, named_by, all_told}
use Rattle.script_meaning.proofs.WaitsInFloor.{unsettled_in_floor}

abbrev pub is_it : WaitId → Option WaitId → Bool
is_it w None = false
is_it w (Some u) = same_wait u w

abbrev pub by_told : WaitId → Option Act → Bool → Bool
by_told w None b = b
by_told w (Some a) b = unsettled_by w a b

-- whether the wait is unsettled after the acts of these notes
abbrev pub behind : WaitId → Bool → List Told → Bool
behind w b told = unsettled_after w b (channel_acts_in (items_in told))

by_list : (w : WaitId) (b : Bool) (o : Option Act) (acts : List Act)
    → unsettled_after w b (act_list o ++ acts) ≡ unsettled_after w (by_told w o b) acts
unfolding unsettled_after
by_list w b None acts = refl
by_list w b (Some a) acts = refl

behind_one : (w : WaitId) (b : Bool) (t : Told) (more : List Told) → behind w b (t ∷ more) ≡ behind w (by_told w (call_told t) b) more
unfolding items_in
behind_one w b (note (item.Channel n)) more = ap (λ l. unsettled_after w b (l ++ channel_acts_in (items_in more))) (act_of_note n)
    ∙ by_list w b (act_in_note n) (channel_acts_in (items_in more))
behind_one w b (note (item.Job n)) more = refl
behind_one w b other more = refl

waitless_by : (w : WaitId) (b : Bool) (o : Option Act) → is_waitless o ≡ true → by_told w o b ≡ b
waitless_by w b None e = refl
waitless_by w b (Some (Hand c q v)) e = refl
waitless_by w b (Some (Put c q v)) e = refl
waitless_by w b (Some (Offer c q v u n)) e = cc
waitless_by w b (Some (Await c q u n)) e = cc
waitless_by w b (Some (Take c q v)) e = refl
waitless_by w b (Some (Admit c q)) e = refl
waitless_by w b (Some (Drop c q v)) e = refl
waitless_by w b (Some (Spurn c q v)) e = refl
waitless_by w b (Some (Close c v)) e = refl
waitless_by w b (Some (Void c)) e = refl
waitless_by w b (Some (Drain c q v)) e = refl
waitless_by w b (Some (WakeClosed c q)) e = refl
waitless_by w b (Some (Withdraw u why)) e = refl
waitless_by w b (Some (Settle u outcome)) e = cc

or_it : (b c : Bool) → (c ≡ true → b ≡ true) → (if b then true else c) ≡ b
or_it true c h = refl
or_it false true h = sym (h refl)
or_it false false h = refl

named_is : (w u : WaitId) (a : Act) (b : Bool) → named_by a ≡ Some u → (b ≡ true → same_wait u w ≡ true)
    → unsettled_by w a b ≡ same_wait u w
named_is w u (Offer c q v z n) b e h = subst (λ y. (if same_wait y w then true else b) ≡ same_wait u w) (sym (same_Some z u e))
    (or_it (same_wait u w) b h)
named_is w u (Await c q z n) b e h = subst (λ y. (if same_wait y w then true else b) ≡ same_wait u w) (sym (same_Some z u e))
    (or_it (same_wait u w) b h)
named_is w u (Hand c q v) b e h = cc
named_is w u other b e h = cc

off : (b : Bool) → (if b then false else b) ≡ false
off true = refl
off false = refl

-- what is told of waits, as the acts have it
told_is : (w : WaitId) (o o' : Option WaitId) (told : List Told) → WaitsTold o told o' → behind w (is_it w o) told ≡ is_it w o'
unfolding items_in unsettled_after
told_is w _ _ _ (WaitsTold.none o) = refl
told_is w _ _ _ (WaitsTold.other o o' t more q h) = behind_one w (is_it w o) t more
    ∙ ap (λ b. behind w b more) (waitless_by w (is_it w o) (call_told t) q) ∙ told_is w o o' more h
told_is w _ _ _ (WaitsTold.begins u o a more q h) = ap (λ b. behind w b more) (named_is w u a false q (λ e. cc))
    ∙ told_is w (Some u) o more h
told_is w _ _ _ (WaitsTold.joins u o a more q h) = ap (λ b. behind w b more) (named_is w u a (same_wait u w) q (λ e. e))
    ∙ told_is w (Some u) o more h
told_is w _ _ _ (WaitsTold.ends u outcome o more q h) = ap (λ b. behind w b more) (off (same_wait u w)) ∙ told_is w None o more h
told_is w _ _ _ (WaitsTold.taken_back u o more h) = ap (λ b. behind w b more) (off (same_wait u w)) ∙ told_is w None o more h
told_is w _ _ _ (WaitsTold.revokes u o more h) = ap (λ b. behind w b more) (off (same_wait u w)) ∙ told_is w None o more h
told_is w _ _ _ (WaitsTold.dispatched u row outcome o more h) = ap (λ b. behind w b more) (off (same_wait u w)) ∙ told_is w None o more h
told_is w _ _ _ (WaitsTold.withdrawn u row outcome o more h) = ap (λ b. behind w b more) (off (same_wait u w)) ∙ told_is w None o more h
told_is w _ _ _ (WaitsTold.late u row outcome o more h) = ap (λ b. behind w b more) (off (same_wait u w)) ∙ told_is w None o more h

it_is : (w : WaitId) (o : Option WaitId) → is_it w o ≡ true → o ≡ Some w
it_is w None e = cc
it_is w (Some u) e = ap (λ v. Some v) (same_wait-eq u w e)

is_of : (w : WaitId) (o : Option WaitId) → o ≡ Some w → is_it w o ≡ true
is_of w o e = ap (is_it w) e ∙ same_wait-refl w

-- the waits of a coroutine that its book leaves unsettled
pub just_the_wait : (p : Program) (k : ℕ) (now : Moment) (book : List Item) (x : Config) → Legal (floor_shape p) now.channels
    → acts_of k now.channels ≡ channel_acts_in book → Runs p k now book x → HasJustTheWait k x.stage (replay now.channels)
just_the_wait p k now book x l acts r = λ w. (
  λ h. it_is w (wait_of x.stage) (sym (is w)
      ∙ unsettled_passes k ((replay now.channels).waits w) h),
  λ e. unsettled_by_test k ((replay now.channels).waits w) (is w ∙ is_of w (wait_of x.stage) e),
)
  where
    is : (w : WaitId) → is_unsettled_of k ((replay now.channels).waits w) ≡ is_it w (wait_of x.stage)
    is w = replay_unsettled (floor_shape p) k w now.channels l ∙ ap (unsettled_after w false) (acts ∙ ap channel_acts_in (sym r.written))
        ∙ told_is w None (wait_of x.stage) r.told (all_told p k r.told x r.reaches)

-- and it is at a channel of the floor
pub wait_in_floor : (p : Program) (k : ℕ) (now : Moment) (book : List Item) (x : Config) (w : WaitId) → Legal (floor_shape p) now.channels
    → acts_of k now.channels ≡ channel_acts_in book → Runs p k now book x → wait_of x.stage ≡ Some w → w.channel < length (floor_shape p)
wait_in_floor p k now book x w l acts r e = unsettled_in_floor (floor_shape p) now.channels k w l
    ((just_the_wait p k now book x l acts r w).1 e)
