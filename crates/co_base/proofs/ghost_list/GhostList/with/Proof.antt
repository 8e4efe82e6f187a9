-- The list with one element more owns nothing.
use Rattle.std.proofs.Common.{◌≡◌, List, [], ◌∷◌, ◌++◌, refl, sym, subst}
use mir.Syntax.{a_type}
use mir.Val.{Val, vptr, vstruct, vcons, vnil}
use mir.MapTy.{inst_fn}
use base.Logic.{SProp, ent, emp, id⊢}
use prog.Wp.{WpFn}
use types.Kit.{‵, raw, ◌⊛◌, ◌$◌, ◌∵◌, !, qed, by, keep, split, fjoin, suffices, use0}
use types.Run.{no_more, and_then, returns, enter}
use types.ByLocal.{alloc_all, pass_all, free_all, look_at, get, sets}
use types.Part.{agg}
use contract.Monad.{fact, fact_i}
use contract.Running.{tables}
use denote.Exit.{yes}
use denote.Builtin.{RefOf}
use denote.RattleType.{RattleType, owns}
use denote.Signature.{types_at, type_at, plain}
use denote.Steps.{nothing}
use denote.Shadow.{pure_i}
use denote.Param.{param, layouts}
use denote.Triple.Walked.{Stays, stay_dropped, walk_of, Goes-dropped}
use denote.Triple.Entry.{alive}
use Rattle.std.proofs.raw_atomic.Walks.{proved_at, leaves}
use Rattle.co_base.specs.contracts.ghost_list.GhostList as list
use Rattle.co_base.specs.contracts.ghost_list.GhostList.with.{ended, clauses}
use Rattle.co_base.specs.contracts.ghost_list.GhostList.with.Key.{name as #self}
use Rattle.co_base.proofs.ghost_list.GhostList.with.Statement.{statement}
use Rattle.co_base.proofs.ghost_list.GhostList.with.Code as code

pub with_spec : {M : Type 1} → statement M
with_spec 𝓤 𝓛 𝓜 𝓡 wired T L =
    let H = 𝓛.H in let 𝓣 = tables 𝓤 H 𝓜 𝓡 𝓡.env in let R : RattleType = param 0 T in let En = ended T in let c = clauses T 𝓛 𝓜.mem 𝓡.returns in
    let inst = layouts (a_type ∷ []) (T, tt) in let fn = inst_fn inst code.function in
    let First = RefOf (0 ∷ []) tt (plain (λ _. list.the_row R)) (λ _. tt) in let Second = RefOf (1 ∷ []) tt (plain (λ _. R)) (λ _. tt) in
    let hs : Stays En.signature.params En.kept = (stay_dropped First yes, (stay_dropped Second yes, tt)) in
    proved_at 𝓛 En hs c 𝓜 𝓡
    (Goes-dropped 𝓛 3 First yes (λ κs x f. refl), (Goes-dropped 𝓛 3 Second yes (λ κs x f. refl), tt))
    (#self inst) fn (code.unfolded 𝓤 H 𝓜 𝓡 wired (T, tt)) (λ z are.
    let κs = z.0.0 in let qs = z.0.1 in let Post : Val → SProp 𝓤 = (walk_of 𝓛 En hs c).post z in
    let Run : List Val → SProp 𝓤 = λ ws. WpFn 𝓤 H 𝓣.C 𝓣.Λ fn ws Post in
    let Out : RattleType = type_at En.signature.result κs in
    let before : Val = vptr z.0.3.0.ref_ptr.0 z.0.3.0.ref_ptr.1 in
    let one : Val = vptr z.0.3.1.0.ref_ptr.0 z.0.3.1.0.ref_ptr.1 in
    let v : Val = vstruct (vcons (vstruct vnil) vnil) in
    let n : Out.Denot = record { kind = record {}; items = z.0.3.0.now.items ++ z.0.3.1.0.now ∷ [] } in
    qed 𝓛 ((raw (alive 𝓛 En.signature κs qs) ⊛ ‵ (owns (types_at En.signature.params κs) z.0.3 z.0.4)) ∷ raw ((c κs z.0.3).requires z.1) ∷ []) ∵
    split ! $ keep ! (0 ∷ []) $
    suffices ! (Run (before ∷ one ∷ []))
    (subst (λ (us : List Val). ent 𝓤 (Run (before ∷ one ∷ [])) (Run us)) (sym (λ i. are.0.0 i ++ (are.1.0.0 i ++ []))) (id⊢ 𝓤 (Run (before ∷ one ∷ [])))) $
    enter ! 𝓣.C 𝓣.Λ fn (before ∷ one ∷ []) Post $ alloc_all ! (λ l. pass_all ! refl ((tt, tt), ((tt, tt), tt)) $ sets ! (agg ! (no_more !)) refl (tt, tt) $
    sets ! (agg ! (and_then ! (get ! refl) (no_more !))) refl (tt, (tt, tt)) $
    returns ! (look_at ! 0 refl) $ free_all ! refl $
    pure_i ! (Out.own_val n (v ∷ [])) ((λ vss. (tt, ((λ uss. (tt, tt)), tt))), tt) (((vstruct vnil ∷ [], tt), (refl, ((tt, (refl, tt)), tt))), tt) $
    use0 𝓛 (raw (fact 𝓤 (n.items ≡ z.0.3.0.now.items ++ z.0.3.1.0.now ∷ []))) (fact_i 𝓤 _ (emp 𝓤) refl) $
    nothing ! $ nothing ! $ fjoin ! $ nothing ! $ fjoin ! $
    keep ! (3 ∷ 0 ∷ 2 ∷ 1 ∷ []) $ by ! (leaves 𝓛 En hs c z v n (tt, (tt, tt)) (tt, (tt, tt)))))
