-- An empty list owns nothing.
use Rattle.std.proofs.Common.{◌≡◌, [], ◌∷◌, refl}
use mir.Syntax.{a_type}
use mir.Val.{Val, vstruct, vcons, vnil}
use mir.MapTy.{inst_fn}
use base.Logic.{SProp, emp}
use types.Kit.{‵, raw, ◌⊛◌, ◌$◌, ◌∵◌, !, qed, by, keep, split, use0}
use types.Run.{no_more, and_then, returns, enter}
use types.ByLocal.{alloc_all, pass_all, free_all, look_at, get, sets}
use types.Part.{agg}
use contract.Monad.{fact, fact_i}
use contract.Running.{tables}
use denote.RattleType.{RattleType, owns}
use denote.Signature.{types_at, type_at}
use denote.Steps.{nothing}
use denote.Shadow.{pure_i}
use denote.Param.{param, layouts}
use denote.Triple.Walked.{Stays, walk_of}
use denote.Triple.Entry.{alive}
use Rattle.std.proofs.raw_atomic.Walks.{proved_at, leaves}
use Rattle.co_base.specs.contracts.ghost_list.GhostList.new.{ended, clauses}
use Rattle.co_base.specs.contracts.ghost_list.GhostList.new.Key.{name as #self}
use Rattle.co_base.proofs.ghost_list.GhostList.new.Statement.{statement}
use Rattle.co_base.proofs.ghost_list.GhostList.new.Code as code

pub new_spec : {M : Type 1} → statement M
new_spec 𝓤 𝓛 𝓜 𝓡 wired T L =
    let H = 𝓛.H in let 𝓣 = tables 𝓤 H 𝓜 𝓡 𝓡.env in let R : RattleType = param 0 T in let En = ended T in let c = clauses T 𝓛 𝓜.mem 𝓡.returns in
    let inst = layouts (a_type ∷ []) (T, tt) in let fn = inst_fn inst code.function in
    let hs : Stays En.signature.params En.kept = tt in
    proved_at 𝓛 En hs c 𝓜 𝓡 tt (#self inst) fn (code.unfolded 𝓤 H 𝓜 𝓡 wired (T, tt)) (λ z are.
    let κs = z.0.0 in let qs = z.0.1 in let Post : Val → SProp 𝓤 = (walk_of 𝓛 En hs c).post z in
    let Out : RattleType = type_at En.signature.result κs in
    let v : Val = vstruct (vcons (vstruct vnil) vnil) in
    let n : Out.Denot = record { kind = record {}; items = [] } in
    qed 𝓛 ((raw (alive 𝓛 En.signature κs qs) ⊛ ‵ (owns (types_at En.signature.params κs) z.0.3 z.0.4)) ∷ raw ((c κs z.0.3).requires z.1) ∷ []) ∵
    split ! $ keep ! (0 ∷ []) $
    enter ! 𝓣.C 𝓣.Λ fn [] Post $ alloc_all ! (λ l. pass_all ! refl tt $ sets ! (agg ! (no_more !)) refl (tt, tt) $
    sets ! (agg ! (and_then ! (get ! refl) (no_more !))) refl (tt, (tt, tt)) $
    returns ! (look_at ! 0 refl) $ free_all ! refl $
    pure_i ! (Out.own_val n (v ∷ [])) ((λ vss. (tt, ((λ uss. (tt, tt)), tt))), tt) (((vstruct vnil ∷ [], tt), (refl, ((tt, (refl, tt)), tt))), tt) $
    use0 𝓛 (raw (fact 𝓤 (n.items ≡ []))) (fact_i 𝓤 (n.items ≡ []) (emp 𝓤) refl) $ nothing ! $ keep ! (3 ∷ 0 ∷ 2 ∷ 1 ∷ []) $ by ! (leaves 𝓛 En hs c z v n tt tt)))
