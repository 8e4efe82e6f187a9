-- A step on a part of a table is a step on the table.
use Rattle.std.proofs.Common.{◌≡◌, ◌≢◌, ℕ, ◌+◌, ◌-◌, ◌<◌, arith, max, eqb, Bool, true, false, List, [], ◌∷◌, ◌++◌, refl, sym, ap, ◌∙◌, subst, MatchBool}
use mathlib.Core.Logic.{dite}
use mathlib.Core.Option.{Option, some, none}
use mathlib.Core.List.{IsPrefix}
use native.Mathlib.Decide.{dec_le}
use Rattle.atomic_table.specs.Table.{Me}
use Rattle.worded.specs.declared.view.View.{View}
use Rattle.worded.specs.Views.{has_tag, having_seen, told_by, with_next, next_given, new_view}
use Rattle.worded.specs.Histories.{entries_of}
use Rattle.worded.specs.Exchanges.{OthersAdded, Loaded, Entered, Exchanged, MayEnter, MayDraw, MayLift, Met, TookIn}
use Rattle.joined_words.specs.Parts.{Part, entries_in, tag_in, tags_in, view_in, IsEntryAnd, IsPartOf}
use Rattle.joined_words.proofs.PartsOfLists.{entries-append, one_more, prefix_in, tags-append, tags_one, has_tag-in, entries_of-in, tag_half}

module _ {E K F L : Type 0} (part : Part E K F L) where
  view-is : (v : View E K) (tags heard : List ℕ) (seen told : List E) (tags' heard' : List ℕ) (seen' told' : List F)
      → tags_in part.place tags ≡ tags' → tags_in part.place heard ≡ heard' → entries_in part.read seen ≡ seen'
      → entries_in part.read told ≡ told'
      → view_in part (record v { tags = tags; heard_tags = heard; seen = seen; heard = told })
      ≡ record (view_in part v) { tags = tags'; heard_tags = heard'; seen = seen'; heard = told' }
  view-is v tags heard seen told tags' heard' seen' told' a b c d =
      λ i. record (view_in part v) { tags = a i; heard_tags = b i; seen = c i; heard = d i }

  -- what is seen of the table is seen of the part
  pub having_in : (v : View E K) (seen : List E) (seen' : List F) → entries_in part.read seen ≡ seen'
      → view_in part (having_seen v seen) ≡ having_seen (view_in part v) seen'
  having_in v seen seen' is = view-is v (v.tags ++ v.heard_tags) [] seen [] (tags_in part.place v.tags
      ++ tags_in part.place v.heard_tags) []
      seen' [] (tags-append part.place v.tags v.heard_tags) refl is refl

  -- who noted its next tag notes it in the part, and gives it out there
  pub given_in : (v : View E K) (t : ℕ) → part.place < 2
      → view_in part (next_given (with_next v (tag_in part.place t))) ≡ next_given (with_next (view_in part v) t)
  given_in v t lt = λ i. record (view_in part v) { next = tag_half part.place t lt i; given = tags_one part.place t v.given lt i }

  pub new_in : (v : View E K) (t : ℕ) → part.place < 2
      → view_in part (new_view (with_next v (tag_in part.place t))) ≡ new_view (with_next (view_in part v) t)
  new_in v t lt = λ i. record (new_view (with_next (view_in part v) t)) { tags = tags_one part.place t [] lt i }

module _ {E K F L : Type 0} (part : Part E K F L) (legal : K → List E → Type 0) (fits : K → List E → ℕ → ℕ → Type 0) (who : E → ℕ)
    (size : K → ℕ) (legal' : L → List F → Type 0) (fits' : L → List F → ℕ → ℕ → Type 0) (who' : F → ℕ) (size' : L → ℕ)
    (p : IsPartOf part legal fits who size legal' fits' who' size') where
  seen_in : (xs others : List E)
      → entries_in part.read (xs ++ others) ≡ entries_in part.read xs ++ entries_in part.read others
  seen_in xs others = entries-append part.read xs others

  tag_of : (t : ℕ) (ts : List ℕ) (b : Bool) → has_tag t (tags_in part.place ts) ≡ b → has_tag (tag_in part.place t) ts ≡ b
  tag_of t ts b h = sym (has_tag-in part.place t ts p.small) ∙ h

  acts : (t : ℕ) (es : List E) → entries_of who' t (entries_in part.read es) ≡
      entries_in part.read (entries_of who (tag_in part.place t) es)
  acts t es = entries_of-in part.read who who' part.place p.small p.own p.apart t es

  none_in : (t : ℕ) (es : List E) → entries_of who (tag_in part.place t) es ≡ [] → entries_of who' t (entries_in part.read es) ≡ []
  none_in t es h = acts t es ∙ ap (entries_in part.read) h

  same_in : (t : ℕ) (xs ys : List E) → entries_of who (tag_in part.place t) xs ≡ entries_of who (tag_in part.place t) ys
      → entries_of who' t (entries_in part.read xs) ≡ entries_of who' t (entries_in part.read ys)
  same_in t xs ys h = acts t xs ∙ ap (entries_in part.read) h ∙ sym (acts t ys)

  -- ---- what a step tells of the table, it tells of the part

  others_in : (k : K) (v : View E K) (others : List E) → OthersAdded (legal k) (fits k) who v others
      → OthersAdded (legal' (part.key_of k)) (fits' (part.key_of k)) who' (view_in part v) (entries_in part.read others)
  others_in k v others o = record {
    is_legal = subst (legal' (part.key_of k)) (seen_in v.seen others) (p.legal_in k (v.seen ++ others) o.is_legal);
    apart = λ t h. none_in t others (o.apart (tag_in part.place t) (tag_of t v.tags true h));
    told = subst (IsPrefix (entries_in part.read v.heard)) (seen_in v.seen others) (prefix_in part.read v.heard (v.seen ++ others) o.told);
    given_to = λ t h. ap (entries_of who' t) (sym (seen_in v.seen others))
        ∙ same_in t (v.seen ++ others) v.heard (o.given_to (tag_in part.place t) (tag_of t v.heard_tags true h));
    ungiven = λ c t h. ap (entries_of who' t) (sym (seen_in v.seen others))
        ∙ none_in t (v.seen ++ others) (o.ungiven c (tag_in part.place t) (tag_of t v.given false h));
    given_out = λ c t h. has_tag-in part.place t v.given p.small ∙ o.given_out c (tag_in part.place t) (tag_of t v.tags true h);
  }

  found_in : (k : K) (xs others : List E) (word n : ℕ) → word < size' (part.key_of k) → fits k (xs ++ others) (part.first k + word) n
      → fits' (part.key_of k) (entries_in part.read xs ++ entries_in part.read others) word n
  found_in k xs others word n lt h = subst (λ l. fits' (part.key_of k) l word n) (seen_in xs others)
      (p.fits_in k (xs ++ others) word n lt h)

  pub loaded_in : (k : K) (word n : ℕ) (v w : View E K) → word < size' (part.key_of k)
      → Loaded (legal k) (fits k) who (part.first k + word) n v w
      → Loaded (legal' (part.key_of k)) (fits' (part.key_of k)) who' word n (view_in part v) (view_in part w)
  loaded_in k word n v w lt l = record {
    others = entries_in part.read l.others;
    added = others_in k v l.others l.added;
    now = ap (view_in part) l.now ∙ having_in part v (v.seen ++ l.others) (entries_in part.read v.seen ++ entries_in part.read l.others)
        (seen_in v.seen l.others);
    found = found_in k v.seen l.others word n lt l.found;
  }

  -- what was seen, and one entry more
  last_in : (xs others : List E) (e : E) (f : F) → part.read e ≡ some f
      → entries_in part.read ((xs ++ others) ++ e ∷ []) ≡ (entries_in part.read xs ++ entries_in part.read others) ++ f ∷ []
  last_in xs others e f is = one_more part.read (xs ++ others) e f is ∙ ap (λ l. l ++ f ∷ []) (seen_in xs others)

  pub entered_in : (k : K) (word old : ℕ) (e : E) (f : F) (v w : View E K) → word < size' (part.key_of k) → part.read e ≡ some f
      → Entered (legal k) (fits k) who (part.first k + word) old e v w
      → Entered (legal' (part.key_of k)) (fits' (part.key_of k)) who' word old f (view_in part v) (view_in part w)
  entered_in k word old e f v w lt is m = let last = last_in v.seen m.others e f is in record {
    others = entries_in part.read m.others;
    added = others_in k v m.others m.added;
    now = ap (view_in part) m.now ∙ having_in part v ((v.seen ++ m.others) ++ e ∷ [])
        ((entries_in part.read v.seen ++ entries_in part.read m.others) ++ f ∷ []) last;
    is_legal = subst (legal' (part.key_of k)) last (p.legal_in k ((v.seen ++ m.others) ++ e ∷ []) m.is_legal);
    found = found_in k v.seen m.others word old lt m.found;
  }

  pub exchanged_in : (k : K) (word old n : ℕ) (e : E) (x : Option F) (v w : View E K) → word < size' (part.key_of k) → part.read e ≡ x
      → Exchanged (legal k) (fits k) who (part.first k + word) old n (some e) v w
      → Exchanged (legal' (part.key_of k)) (fits' (part.key_of k)) who' word old n x (view_in part v) (view_in part w)
  exchanged_in k word old n e none v w lt is told = tt
  exchanged_in k word old n e (some f) v w lt is told = by_test (eqb n old) told
    where
      by_test : (b : Bool)
          → MatchBool b (Entered (legal k) (fits k) who (part.first k + word) old e v w)
          (Loaded (legal k) (fits k) who (part.first k + word) n v w)
          → MatchBool b (Entered (legal' (part.key_of k)) (fits' (part.key_of k)) who' word old f (view_in part v) (view_in part w))
          (Loaded (legal' (part.key_of k)) (fits' (part.key_of k)) who' word n (view_in part v) (view_in part w))
      by_test true m = entered_in k word old e f v w lt is m
      by_test false l = loaded_in k word n v w lt l

  pub met_in : (k : K) (v w : View E K) (seen : List E) → Met (legal k) (fits k) who v seen w
      → Met (legal' (part.key_of k)) (fits' (part.key_of k)) who' (view_in part v) (entries_in part.read seen) (view_in part w)
  met_in k v w seen m = record {
    others = entries_in part.read m.others;
    now = ap (view_in part) m.now ∙ having_in part v (v.seen ++ m.others) (entries_in part.read v.seen ++ entries_in part.read m.others)
        (seen_in v.seen m.others);
    is_legal = subst (legal' (part.key_of k)) (seen_in v.seen m.others) (p.legal_in k (v.seen ++ m.others) m.is_legal);
    apart = λ t h. none_in t m.others (m.apart (tag_in part.place t) (tag_of t v.tags true h));
    told = subst (IsPrefix (entries_in part.read seen)) (seen_in v.seen m.others) (prefix_in part.read seen (v.seen ++ m.others) m.told);
    ungiven = λ c t h. ap (entries_of who' t) (sym (seen_in v.seen m.others))
        ∙ none_in t (v.seen ++ m.others) (m.ungiven c (tag_in part.place t) (tag_of t v.given false h));
  }

  pub took_in : (k : K) (v u w : View E K) → TookIn (legal k) (fits k) who v u w
      → TookIn (legal' (part.key_of k)) (fits' (part.key_of k)) who' (view_in part v) (view_in part u) (view_in part w)
  took_in k v u w m = record {
    others = entries_in part.read m.others;
    now = ap (view_in part) m.now ∙ having_in part (told_by v u) (v.seen ++ m.others)
        (entries_in part.read v.seen ++ entries_in part.read m.others) (seen_in v.seen m.others);
    is_legal = subst (legal' (part.key_of k)) (seen_in v.seen m.others) (p.legal_in k (v.seen ++ m.others) m.is_legal);
    apart = λ t h. none_in t m.others (m.apart (tag_in part.place t) (tag_of t v.tags true h));
    told = subst (IsPrefix (entries_in part.read u.seen)) (seen_in v.seen m.others)
        (prefix_in part.read u.seen (v.seen ++ m.others) m.told);
    given_to = λ t h. ap (entries_of who' t) (sym (seen_in v.seen m.others))
        ∙ same_in t (v.seen ++ m.others) u.seen (m.given_to (tag_in part.place t) (tag_of t u.tags true h));
    ungiven = λ c t h. ap (entries_of who' t) (sym (seen_in v.seen m.others))
        ∙ none_in t (v.seen ++ m.others) (m.ungiven c (tag_in part.place t) (tag_of t v.given false h));
  }

  pub none_seen : (v : View E K) (t : ℕ) → entries_of who (tag_in part.place t) v.seen ≡ []
      → entries_of who' t (entries_in part.read v.seen) ≡ []
  none_seen v t h = none_in t v.seen h

  -- ---- what a step asks of the table, where it may be made on the part

  -- an entry of the part leaves each other word as it is
  keeps_other : (k : K) (log : List E) (e : E) (f : F) (word : ℕ) → part.read e ≡ some f → word < size' (part.key_of k)
      → ((j n : ℕ) → j ≢ word → fits' (part.key_of k) (entries_in part.read log) j n
      → fits' (part.key_of k) (entries_in part.read (log ++ e ∷ [])) j n)
      → (j n : ℕ) → j ≢ part.first k + word → fits k log j n → fits k (log ++ e ∷ []) j n
  keeps_other k log e f word is lt in_part j n ne h = dite (dec_le (part.first k) j)
      (λ from. dite (dec_le (part.first k + size' (part.key_of k)) j)
      (λ past. p.leaves k log e f j n is (λ i lt' here. let q : ⊥ = omega arith in q) h)
      (λ below. inside (j - part.first k) (omega arith) (omega arith)))
      (λ before. p.leaves k log e f j n is (λ i lt' here. before (omega arith)) h)
    where
      inside : (i : ℕ) → j ≡ part.first k + i → i < size' (part.key_of k) → fits k (log ++ e ∷ []) j n
      inside i here lt' = subst (λ x. fits k (log ++ e ∷ []) x n) (sym here) (p.fits_of k (log ++ e ∷ []) i n lt'
          (in_part i n (λ same. ne (here ∙ ap (λ x. part.first k + x) same))
          (p.fits_in k log i n lt' (subst (λ x. fits k log x n) here h))))

  pub may_enter : (k : K) (v : View E K) (word old new : ℕ) (e : E) (f : F) → word < size' (part.key_of k) → part.read e ≡ some f
      → MayEnter (legal' (part.key_of k)) (fits' (part.key_of k)) who' (view_in part v) word old new f
      → MayEnter (legal k) (fits k) who v (part.first k + word) old new e
  may_enter k v word old new e f lt is m = record {
    own = ap (λ t. has_tag t v.tags) (p.own e f is) ∙ tag_of (who' f) v.tags true m.own;
    steps = λ others o found.
        let log = v.seen ++ others in
        let last = last_in v.seen others e f is in
        let q = m.steps (entries_in part.read others) (others_in k v others o) (found_in k v.seen others word old lt found) in (
          p.legal_with k log e f is o.is_legal (subst (legal' (part.key_of k)) (sym last) q.0),
          p.fits_of k (log ++ e ∷ []) word new lt (subst (λ l. fits' (part.key_of k) l word new) (sym last) q.1),
          keeps_other k log e f word is lt (λ j n ne h. subst (λ l. fits' (part.key_of k) l j n) (sym last)
              (q.2 j n ne (subst (λ l. fits' (part.key_of k) l j n) (seen_in v.seen others) h))),
        );
  }

  pub may_draw : (k : K) (v : View E K) (word : ℕ) (entry : ℕ → E) (entry' : ℕ → F) → word < size' (part.key_of k)
      → ((n : ℕ) → part.read (entry n) ≡ some (entry' n))
      → MayDraw (legal' (part.key_of k)) (fits' (part.key_of k)) who' (view_in part v) word entry'
      → MayDraw (legal k) (fits k) who v (part.first k + word) entry
  may_draw k v word entry entry' lt is m = record {
    room = λ others n o found.
        m.room (entries_in part.read others) n (others_in k v others o) (found_in k v.seen others word n lt found);
    enters = λ n. may_enter k v word n (n + 1) (entry n) (entry' n) lt (is n) (m.enters n);
  }

  pub may_lift : (k : K) (v : View E K) (word least : ℕ) → word < size' (part.key_of k)
      → MayLift (legal' (part.key_of k)) (fits' (part.key_of k)) who' (view_in part v) word least
      → MayLift (legal k) (fits k) who v (part.first k + word) least
  may_lift k v word least lt m others n o found = p.fits_of k (v.seen ++ others) word (max n least) lt
      (subst (λ l. fits' (part.key_of k) l word (max n least)) (sym (seen_in v.seen others))
      (m (entries_in part.read others) n (others_in k v others o) (found_in k v.seen others word n lt found)))

  -- ---- the same, of a word that is told by the part's first

  pub loaded_at : (k : K) (first word n : ℕ) (v w : View E K) → first ≡ part.first k → word < size' (part.key_of k)
      → Loaded (legal k) (fits k) who (first + word) n v w
      → Loaded (legal' (part.key_of k)) (fits' (part.key_of k)) who' word n (view_in part v) (view_in part w)
  loaded_at k first word n v w is lt l = loaded_in k word n v w lt (subst (λ x. Loaded (legal k) (fits k) who (x + word) n v w) is l)

  pub exchanged_at : (k : K) (first word old n : ℕ) (e : E) (v w : View E K) → first ≡ part.first k → word < size' (part.key_of k)
      → Exchanged (legal k) (fits k) who (first + word) old n (some e) v w
      → Exchanged (legal' (part.key_of k)) (fits' (part.key_of k)) who' word old n (part.read e) (view_in part v) (view_in part w)
  exchanged_at k first word old n e v w is lt told = exchanged_in k word old n e (part.read e) v w lt refl
      (subst (λ x. Exchanged (legal k) (fits k) who (x + word) old n (some e) v w) is told)

  pub entered_at : (k : K) (first word old : ℕ) (e : E) (f : F) (v w : View E K) → first ≡ part.first k → word < size' (part.key_of k)
      → part.read e ≡ some f → Entered (legal k) (fits k) who (first + word) old e v w
      → Entered (legal' (part.key_of k)) (fits' (part.key_of k)) who' word old f (view_in part v) (view_in part w)
  entered_at k first word old e f v w at lt is m = entered_in k word old e f v w lt is
      (subst (λ x. Entered (legal k) (fits k) who (x + word) old e v w) at m)

  may_enter_if : (k : K) (v : View E K) (word old new : ℕ) (e : E) (x : Option F) → word < size' (part.key_of k) → part.read e ≡ x
      → IsEntryAnd x (MayEnter (legal' (part.key_of k)) (fits' (part.key_of k)) who' (view_in part v) word old new)
      → MayEnter (legal k) (fits k) who v (part.first k + word) old new e
  may_enter_if k v word old new e none lt is m = absurd m
  may_enter_if k v word old new e (some f) lt is m = may_enter k v word old new e f lt is m

  pub may_enter_at : (k : K) (first : ℕ) (v : View E K) (word old new : ℕ) (e : E) → first ≡ part.first k → word < size' (part.key_of k)
      → IsEntryAnd (part.read e) (MayEnter (legal' (part.key_of k)) (fits' (part.key_of k)) who' (view_in part v) word old new)
      → MayEnter (legal k) (fits k) who v (first + word) old new e
  may_enter_at k first v word old new e is lt m = subst (λ x. MayEnter (legal k) (fits k) who v (x + word) old new e) (sym is)
      (may_enter_if k v word old new e (part.read e) lt refl m)

  pub may_draw_at : (k : K) (first : ℕ) (v : View E K) (word : ℕ) (entry : ℕ → E) (entry' : ℕ → F) → first ≡ part.first k
      → word < size' (part.key_of k) → ((n : ℕ) → part.read (entry n) ≡ some (entry' n))
      → MayDraw (legal' (part.key_of k)) (fits' (part.key_of k)) who' (view_in part v) word entry'
      → MayDraw (legal k) (fits k) who v (first + word) entry
  may_draw_at k first v word entry entry' is lt one m = subst (λ x. MayDraw (legal k) (fits k) who v (x + word) entry) (sym is)
      (may_draw k v word entry entry' lt one m)

  pub may_lift_at : (k : K) (first : ℕ) (v : View E K) (word least : ℕ) → first ≡ part.first k → word < size' (part.key_of k)
      → MayLift (legal' (part.key_of k)) (fits' (part.key_of k)) who' (view_in part v) word least
      → MayLift (legal k) (fits k) who v (first + word) least
  may_lift_at k first v word least is lt m = subst (λ x. MayLift (legal k) (fits k) who v (x + word) least) (sym is)
      (may_lift k v word least lt m)

  -- the part's words are words of the table
  pub at_word : (k : K) (first word : ℕ) → first ≡ part.first k → word < size' (part.key_of k) → first + word < size k
  at_word k first word is lt = let w = p.within k in omega (arith, w, is, lt)

  pub not_given : (v : View E K) (t whole : ℕ) → whole ≡ tag_in part.place t → has_tag t (tags_in part.place v.given) ≡ false
      → has_tag whole v.given ≡ false
  not_given v t whole is h = ap (λ x. has_tag x v.given) is ∙ tag_of t v.given false h

-- the two parts of what a seat is
pub view_of : {E K : Type 0} (me : Me E (View E K)) (v : View E K) → me ≡ (v, []) → me.0 ≡ v
view_of {E} {K} me v e = ap (λ (m : Me E (View E K)). m.0) e

pub bare_of : {E K : Type 0} (me : Me E (View E K)) (v : View E K) → me ≡ (v, []) → me.1 ≡ []
bare_of {E} {K} me v e = ap (λ (m : Me E (View E K)). m.1) e

-- who met another has seen all that either had seen
pub met_all : {E K : Type 0} {legal : List E → Type 0} {fits : List E → ℕ → ℕ → Type 0} {who : E → ℕ} {v w : View E K} {seen : List E}
    → Met legal fits who v seen w → IsPrefix v.seen w.seen × IsPrefix seen w.seen
met_all {v = v} {w = w} {seen = seen} m = ((m.others, sym now), subst (IsPrefix seen) (sym now) m.told)
  where
    now : w.seen ≡ v.seen ++ m.others
    now = ap (λ x. x.seen) m.now
