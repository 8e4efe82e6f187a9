-- What begins a list that a description accepts.
use Rattle.std.specs.Prelude.{List, [], ◌++◌}
use Rattle.std.proofs.Common.{sym, subst, append_assoc}
use Rattle.std.proofs.lemmas.List.{append-nil}
use Rattle.call_meaning.specs.Telling.{Told}
use Rattle.call_meaning.specs.Prefixes.{PrefixOf}

-- the whole of it
pub prefix_whole : (P : List Told → Type 0) (told : List Told) → P told → PrefixOf P told
prefix_whole P told h = record { rest = []; all = subst P (sym (append-nil told)) h }

-- of what another description accepts too
pub prefix_of : (P Q : List Told → Type 0) → ((all : List Told) → P all → Q all) → (told : List Told) → PrefixOf P told → PrefixOf Q told
prefix_of P Q k told h = record { rest = h.rest; all = k (told ++ h.rest) h.all }

-- before what comes last
pub prefix_on : (P Q : List Told → Type 0) (end : List Told) → ((all : List Told) → P all → Q (all ++ end)) → (told : List Told)
    → PrefixOf P told → PrefixOf Q told
prefix_on P Q end k told h = record { rest = h.rest ++ end; all = subst Q (append_assoc told h.rest end) (k (told ++ h.rest) h.all) }

-- behind what comes first
pub prefix_behind : (P Q : List Told → Type 0) (first : List Told) → ((all : List Told) → P all → Q (first ++ all)) → (told : List Told)
    → PrefixOf P told → PrefixOf Q (first ++ told)
prefix_behind P Q first k told h = record { rest = h.rest; all = subst Q (sym (append_assoc first told h.rest)) (k (told ++ h.rest) h.all) }

-- the first of what comes
pub prefix_first : (P : List Told → Type 0) (told rest : List Told) → P (told ++ rest) → PrefixOf P told
prefix_first P told rest h = record { rest = rest; all = h }
