-- What each step asks, and what it tells.
use Rattle.std.specs.Prelude.{◌≡◌, ◌≢◌, ℕ, ◌+◌, ◌^◌, ◌<◌, ◌==◌, true, false, List, [], ◌∷◌, ◌++◌, MatchBool, max}
use mathlib.Core.Option.{Option, some, none}
use mathlib.Core.List.{IsPrefix}
use Rattle.worded.specs.declared.view.View.{View}
use Rattle.worded.specs.Views.{has_tag, having_seen, told_by}
use Rattle.worded.specs.Histories.{entries_of}

module _ {E K : Type 0} (legal : List E → Type 0) (fits : List E → ℕ → ℕ → Type 0) (who : E → ℕ) where
  -- others added `others`, in which nothing is of the seat's tags; nobody made an entry of a tag that was not given out; the tags of
  -- the first seat were given out
  pub record OthersAdded (v : View E K) (others : List E) : Type 0 where
    pub is_legal : legal (v.seen ++ others)
    pub apart : (t : ℕ) → has_tag t v.tags ≡ true → entries_of who t others ≡ []
    pub told : IsPrefix v.heard (v.seen ++ others)
    pub given_to : (t : ℕ) → has_tag t v.heard_tags ≡ true → entries_of who t (v.seen ++ others) ≡ entries_of who t v.heard
    pub ungiven : v.chief ≡ true → (t : ℕ) → has_tag t v.given ≡ false → entries_of who t (v.seen ++ others) ≡ []
    pub given_out : v.chief ≡ true → (t : ℕ) → has_tag t v.tags ≡ true → has_tag t v.given ≡ true

  -- the history so far was seen, and the word found is one that it gives
  pub record Loaded (word n : ℕ) (v w : View E K) : Type 0 where
    pub others : List E
    pub added : OthersAdded v others
    pub now : w ≡ having_seen v (v.seen ++ others)
    pub found : fits (v.seen ++ others) word n

  -- the entry was made where the word was old: it is the last of the history then seen
  pub record Entered (word old : ℕ) (e : E) (v w : View E K) : Type 0 where
    pub others : List E
    pub added : OthersAdded v others
    pub now : w ≡ having_seen v ((v.seen ++ others) ++ e ∷ [])
    pub is_legal : legal ((v.seen ++ others) ++ e ∷ [])
    pub found : fits (v.seen ++ others) word old

  -- the entry was made where the word found is old, and else the word was loaded
  abbrev pub Exchanged : ℕ → ℕ → ℕ → Option E → View E K → View E K → Type 0
  Exchanged word old n (some e) v w = MatchBool (n == old) (Entered word old e v w) (Loaded word n v w)
  Exchanged word old n none v w = Unit {0}

  -- whatever others added to what was seen, the entry is legal where the word is old, and turns that word alone into new
  pub record MayEnter (v : View E K) (word old new : ℕ) (e : E) : Type 0 where
    pub own : has_tag (who e) v.tags ≡ true
    pub steps : (others : List E)
        → OthersAdded v others
        → fits (v.seen ++ others) word old
        → legal ((v.seen ++ others) ++ e ∷ [])
        × fits ((v.seen ++ others) ++ e ∷ []) word new
        × ((j n : ℕ) → j ≢ word → fits (v.seen ++ others) j n → fits ((v.seen ++ others) ++ e ∷ []) j n)

  -- whatever others added, the word has room for one more, and with that the entry of the number found may come
  pub record MayDraw (v : View E K) (word : ℕ) (entry : ℕ → E) : Type 0 where
    pub room : (others : List E) (n : ℕ) → OthersAdded v others → fits (v.seen ++ others) word n → n + 1 < 2 ^ 64
    pub enters : (n : ℕ) → MayEnter v word n (n + 1) (entry n)

  -- whatever others added, the word may be as large as `least`
  abbrev pub MayLift : View E K → ℕ → ℕ → Type 0
  MayLift v word least =
      (others : List E) (n : ℕ) → OthersAdded v others → fits (v.seen ++ others) word n → fits (v.seen ++ others) word (max n least)

  -- v met one who had seen `seen`: the history then seen begins with both
  pub record Met (v : View E K) (seen : List E) (w : View E K) : Type 0 where
    pub others : List E
    pub now : w ≡ having_seen v (v.seen ++ others)
    pub is_legal : legal (v.seen ++ others)
    pub apart : (t : ℕ) → has_tag t v.tags ≡ true → entries_of who t others ≡ []
    pub told : IsPrefix seen (v.seen ++ others)
    pub ungiven : v.chief ≡ true → (t : ℕ) → has_tag t v.given ≡ false → entries_of who t (v.seen ++ others) ≡ []

  -- v took in u's tags: the history then seen begins with both, and has no entry of these tags that u had not seen
  pub record TookIn (v u w : View E K) : Type 0 where
    pub others : List E
    pub now : w ≡ having_seen (told_by v u) (v.seen ++ others)
    pub is_legal : legal (v.seen ++ others)
    pub apart : (t : ℕ) → has_tag t v.tags ≡ true → entries_of who t others ≡ []
    pub told : IsPrefix u.seen (v.seen ++ others)
    pub given_to : (t : ℕ) → has_tag t u.tags ≡ true → entries_of who t (v.seen ++ others) ≡ entries_of who t u.seen
    pub ungiven : v.chief ≡ true → (t : ℕ) → has_tag t v.given ≡ false → entries_of who t (v.seen ++ others) ≡ []
