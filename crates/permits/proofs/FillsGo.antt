-- A semaphore is filled, one permit after another.
use Rattle.std.specs.Prelude.{◌≡◌, ℕ, ◌+◌, ◌<◌, ◌≤◌, ◌==◌, ◌⊎◌, Bool, true, false, not, ◌||◌, cond, List, [], ◌∷◌, ◌++◌, refl}
use Rattle.std.specs.List.{list_all}
use mathlib.Core.List.{IsPrefix}
use Rattle.std.proofs.Common.{sym, ap, ◌∙◌, subst, arith, ⊎_elim}
use Rattle.std.proofs.lemmas.Bool.{cases_lt, true≢false}
use Rattle.channel_model.specs.declared.acts.Act.{Act}
use Rattle.channel_model.specs.declared.acts.Act.TheVariants.{Hand, Put, Await, Take, Withdraw, Settle}
use Rattle.channel_model.specs.declared.acts.Kind.TheVariants.{Unlimited}
use Rattle.channel_model.specs.Channels.{Shape, kind_at}
use Rattle.channel_model.specs.Histories.{acts_of}
use Rattle.channel_model.specs.Floors.{Floor, MayCall, Added}
use Rattle.channel_model.specs.Laws.{how_many}
use Rattle.channel_model.proofs.Elements.{all_more}
use Rattle.channel_model.proofs.Placed.{same_number}
use Rattle.call_meaning.specs.Telling.{Told, made}
use Rattle.call_meaning.specs.Seen.{SeenOnChannels}
use Rattle.call_meaning.specs.Calls.{ToldOnChannels}
use Rattle.call_meaning.proofs.ChannelsHeard.{told_then}
use Rattle.channel_calls.specs.Calls.{Tells, IsUntouched}
use Rattle.channel_calls.proofs.Untold.{told_none, untouched_told}
use Rattle.permits.specs.Parts.{is_on, is_permit_act, gives_permit, gets_permit, is_filler, given, gave, got, IsPermitPart, HoldsPermits, UsesPermits, MayFill}
use Rattle.permits.specs.Answers.{GivesOne, GivenJust, GivesAll, GivesSome}
use Rattle.permits.proofs.PartsGo.{count_append, one_true, one_false, got_on, given_on, filler_none, filler_first, filler_append, gave_filler, gave_other, part_push}
use Rattle.permits.proofs.UsesGo.{told_adds, can_kept}
use Rattle.channel_model.proofs.Apart.{how_many_push}

-- ---- so many were given

pub record Filling (c n who value : ℕ) (floor : Floor) : Type 0 where
  pub can : MayCall who c floor
  pub kind : kind_at floor.shape c ≡ Unlimited
  pub some : 1 ≤ n
  pub few : n ≤ 65535
  pub part : IsPermitPart c n (acts_of who floor.seen)
  pub given_is : given c (acts_of who floor.seen) ≡ value
  pub got_is : got c (acts_of who floor.seen) ≡ 0
  pub filler : 1 ≤ value → is_filler c (acts_of who floor.seen) ≡ true
  pub none : value ≡ 0 → how_many (is_on c) (acts_of who floor.seen) ≡ 0

-- an act elsewhere is allowed
elsewhere : (c : ℕ) (act : Act) → is_on c act ≡ false → is_permit_act c act ≡ true
elsewhere c (Hand d p v) e = refl
elsewhere c (Put d p v) e = refl
elsewhere c (Await d p w k) e = ap (λ (b : Bool). not b || (k == 0)) e
elsewhere c (Take d p v) e = refl
elsewhere c (Withdraw w why) e = refl
elsewhere c (Settle w outcome) e = refl
elsewhere c other e = ap not e

all_elsewhere : (c : ℕ) (acts : List Act) → how_many (is_on c) acts ≡ 0 → list_all (is_permit_act c) acts ≡ true
all_elsewhere c [] h = refl
all_elsewhere c (a ∷ rest) h = by_test (is_on c a) refl h (all_elsewhere c rest)
  where
    by_test : (b : Bool) → is_on c a ≡ b → cond b 1 0 + how_many (is_on c) rest ≡ 0
        → (how_many (is_on c) rest ≡ 0 → list_all (is_permit_act c) rest ≡ true) → list_all (is_permit_act c) (a ∷ rest) ≡ true
    by_test true e k more = absurd (omega (arith, k))
    by_test false e k more = all_more (is_permit_act c) a rest (elsewhere c a e) (more (omega (arith, k)))

none_before : (c : ℕ) (before acts : List Act) → IsPrefix before acts → how_many (is_on c) acts ≡ 0 → how_many (is_on c) before ≡ 0
none_before c before acts p h =
    let k = count_append (is_on c) before p.0 in
    let e : how_many (is_on c) (before ++ p.0) ≡ 0 = ap (how_many (is_on c)) p.1 ∙ h in
    omega (arith, k, e)

none_covered : (c n : ℕ) (before : List Act) → how_many (is_on c) before ≡ 0 → gave c n before ≤ got c before
none_covered c n before h =
    let a = gave_other c n before (filler_none c before h) in
    let b = given_on c before in
    omega (arith, a, b, h)

pub begins : (c n who : ℕ) (floor : Floor) → MayFill c n who floor → Filling c n who 0 floor
begins c n who floor m =
    let acts = acts_of who floor.seen in
    record {
      can = m.can;
      kind = m.kind;
      some = m.some;
      few = m.few;
      part = record {
        fits = all_elsewhere c acts m.none;
        covered = λ before p. none_covered c n before (none_before c before acts p m.none);
      };
      given_is = (let k = given_on c acts in let z = m.none in omega (arith, k, z));
      got_is = (let k = got_on c acts in let z = m.none in omega (arith, k, z));
      filler = λ h. absurd (omega (arith, h));
      none = λ e. m.none;
    }

gives_fits : (c v : ℕ) (act : Act) → GivesOne c v act → (is_permit_act c act ≡ true) × (is_on c act ≡ true) × (gives_permit c act ≡ true)
    × (gets_permit c act ≡ false)
gives_fits c v _ (GivesOne.hands place) = (refl, same_number c, same_number c, refl)
gives_fits c v _ (GivesOne.puts place) = (refl, same_number c, same_number c, refl)

one_given : (c n who value : ℕ) (a d : Floor) (act : Act) → value < n → Added who (act ∷ []) a d → GivesOne c value act
    → Filling c n who value a
    → Filling c n who (value + 1) d
one_given c n who value a d act lt added gives f =
    let acts = acts_of who a.seen in
    let fits = gives_fits c value act gives in
    let mine = sym added.mine in
    let x = how_many_push (gives_permit c) acts act in
    let y = how_many_push (gets_permit c) acts act in
    let x' = one_true (gives_permit c act) fits.2 in
    let y' = one_false (gets_permit c act) fits.3 in
    let given_now : given c (acts ++ act ∷ []) ≡ value + 1 = (let g = f.given_is in omega (arith, x, x', g)) in
    let got_now : got c (acts ++ act ∷ []) ≡ 0 = (let g = f.got_is in omega (arith, y, y', g)) in
    let filler_now : is_filler c (acts ++ act ∷ []) ≡ true = by_value acts act fits f (cases_lt 0 value) in
    let g = gave_filler c n (acts ++ act ∷ []) filler_now in
    record {
      can = can_kept c who a d added.same f.can;
      kind = ap (λ (s : Shape). kind_at s c) added.same.shape ∙ f.kind;
      some = f.some;
      few = f.few;
      part = subst (IsPermitPart c n) mine (part_push c n acts act f.part fits.0 (omega (arith, g, given_now, lt)));
      given_is = subst (λ l. given c l ≡ value + 1) mine given_now;
      got_is = subst (λ l. got c l ≡ 0) mine got_now;
      filler = λ h. subst (λ l. is_filler c l ≡ true) mine filler_now;
      none = λ e. absurd (omega (arith, e));
    }
  where
    by_value : (acts : List Act) (act : Act) → (is_permit_act c act ≡ true) × (is_on c act ≡ true) × (gives_permit c act ≡ true)
        × (gets_permit c act ≡ false) → Filling c n who value a → (0 < value) ⊎ (value ≤ 0)
        → is_filler c (acts_of who a.seen ++ act ∷ []) ≡ true
    by_value acts act q f side = ⊎_elim
        (λ lt.
        let some : 1 ≤ how_many (is_on c) (acts_of who a.seen) =
        (let k = given_on c (acts_of who a.seen) in let g = f.given_is in omega (arith, k, g, lt)) in
        filler_append c (acts_of who a.seen) (act ∷ []) some ∙ f.filler (omega (arith, lt)))
        (λ le. filler_first c (acts_of who a.seen) act (f.none (omega (arith, le))) q.1 q.2)
        side

pub one_more : {c n who value : ℕ} {from to : SeenOnChannels} → from.who ≡ who → value < n → GivenJust c value from to
    → Filling c n who value from.floor → Filling c n who (value + 1) to.floor
one_more {c} {n} {who} {value} {from} {to} is lt t f = one_given c n who value from.floor to.floor t.act lt added t.gives f
  where
    added : Added who (t.act ∷ []) from.floor to.floor
    added = subst (λ w. Added w (t.act ∷ []) from.floor to.floor) is (told_adds t.told)

pub holds_none : (c n who value : ℕ) (floor : Floor) → Filling c n who value floor → HoldsPermits c n who 0 floor
holds_none c n who value floor f = record {
  can = f.can;
  kind = f.kind;
  some = f.some;
  few = f.few;
  part = f.part;
  count_is = (let g = f.got_is in omega (arith, g));
}

-- who has not called yet uses the permits too, and holds none
pub uses_fresh : (c n who : ℕ) (floor : Floor) → MayFill c n who floor → UsesPermits c n who 0 floor
uses_fresh c n who floor m = record {
  holds = holds_none c n who 0 floor (begins c n who floor m);
  filled = λ e. absurd (true≢false (sym e ∙ filler_none c (acts_of who floor.seen) m.none));
}

pub filling_still : {c n who value me : ℕ} {a d : Floor} → me ≡ who → Added me [] a d → Filling c n who value a → Filling c n who value d
filling_still {c} {n} {who} {value} {me} {a} {d} is h' f =
    let h : Added who [] a d = subst (λ w. Added w [] a d) is h' in
    let mine : acts_of who d.seen ≡ acts_of who a.seen = h.mine ∙ nothing (acts_of who a.seen) in
    let back = sym mine in
    record {
      can = can_kept c who a d h.same f.can;
      kind = ap (λ (s : Shape). kind_at s c) h.same.shape ∙ f.kind;
      some = f.some;
      few = f.few;
      part = subst (IsPermitPart c n) back f.part;
      given_is = subst (λ l. given c l ≡ value) back f.given_is;
      got_is = subst (λ l. got c l ≡ 0) back f.got_is;
      filler = subst (λ l. 1 ≤ value → is_filler c l ≡ true) back f.filler;
      none = subst (λ l. value ≡ 0 → how_many (is_on c) l ≡ 0) back f.none;
    }
  where
    nothing : (xs : List Act) → xs ++ [] ≡ xs
    nothing [] = refl
    nothing (x ∷ xs) = ap (λ l. x ∷ l) (nothing xs)

-- ---- what was told

gives_push : (c m n : ℕ) (told : List Told) (act : Act) → GivesAll c m n told → GivesOne c m act
    → GivesAll c (m + 1) n (told ++ made act ∷ [])
gives_push c m _ _ act GivesAll.all g = GivesAll.one m act [] (omega arith) g GivesAll.all
gives_push c m _ _ act (GivesAll.one n x more lt h rest) g =
    GivesAll.one n x (more ++ made act ∷ []) (omega (arith, lt)) h (gives_push c m (n + 1) more act rest g)

pub none_told : (c : ℕ) (a : SeenOnChannels) → Tells (GivesAll c 0 0) a a
none_told c a = record { told = []; goes = GivesAll.all; left = told_none a }

pub more_told : {c value : ℕ} {a b d : SeenOnChannels} → Tells (GivesAll c value 0) a b → GivenJust c value b d
    → Tells (GivesAll c (value + 1) 0) a d
more_told {c} {value} t g = record {
  told = t.told ++ made g.act ∷ [];
  goes = gives_push c value 0 t.told g.act t.goes g.gives;
  left = told_then t.left g.told;
}

pub stops_told : (stops : ℕ → List Told) {c n value : ℕ} {a b d : SeenOnChannels} → value < n → Tells (GivesAll c value 0) a b
    → ToldOnChannels b d (stops value) → Tells (GivesSome c n stops) a d
stops_told stops {c} {n} {value} lt t m = record {
  told = t.told ++ stops value;
  goes = GivesSome.some value t.told (t.told ++ stops value) lt t.goes refl;
  left = told_then t.left m;
}

pub stops_untouched : {c n value : ℕ} {a b d : SeenOnChannels} → value < n → Tells (GivesAll c value 0) a b → IsUntouched b d
    → Tells (GivesSome c n (λ m. [])) a d
stops_untouched lt t m = stops_told (λ m. []) lt t (untouched_told m)
